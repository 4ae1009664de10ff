-- The lesser direction of a chain.
use Rattle.canonical_form.proofs.Common.{Bool, Chain, Coordinates, List, ap, comes_turned, entry_shape, false, is_gt, is_lt, lt_reversed, points_cmp, points_from, points_keys, refl, reverse, sym, true, turned_if, ℕ, ◌∙◌, ◌≡◌}

-- the reverse comes before the points exactly if the points come after it
pub turned_same : (ps : List Coordinates) → is_lt (points_cmp (reverse ps) ps) ≡ is_gt (points_cmp ps (reverse ps))
turned_same ps = lt_reversed (points_cmp (reverse ps) ps) (points_cmp ps (reverse ps)) (points_keys.total.antisymm (reverse ps) ps)

-- an entry's shape is the points of its chain in its lesser direction
pub shape_turned : (entry : ℕ × Chain) → (turned_if (comes_turned entry.1) entry.1).points ≡ entry_shape entry
shape_turned entry = sym (from_turned (comes_turned entry.1) entry.1) ∙ ap (λ b. points_from b entry.1.points) (sym (turned_same entry.1.points))
  where
    from_turned : (b : Bool) (c : Chain) → points_from b c.points ≡ (turned_if b c).points
    from_turned true c = refl
    from_turned false c = refl
