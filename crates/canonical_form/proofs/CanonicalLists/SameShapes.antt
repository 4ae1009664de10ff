-- Tidy counties that are the same map have the same shapes.
use Rattle.canonical_form.proofs.Common.{AreSame, Bool, Chain, Coordinates, County, Equal, Greater, IsInOrder, IsTidy, Less, List, Ordering, Renumbering, SameElements, ap, carried_chain, entry_points, entry_shape, false, false≢true, from_permutation, in_order-map, is_gt, least_points, least_reverse, map, map-map, map_agree_all, map_agree_everywhere, on, ordering_reverse, points_cmp, points_from, points_keys, refl, reverse, same-map, subst, sym, true, turned_if, turns, ℕ, ◌∙◌, ◌≡◌}
use Rattle.std.specs.Ordering.{is_lt}

-- points that don't come after their reverse are their shape
own_shape : (points : List Coordinates) → is_gt (points_cmp points (reverse points)) ≡ false → points ≡ least_points points
own_shape points h = ap (λ turned. points_from turned points) (sym (kept (points_cmp points (reverse points)) h
    (points_keys.total.antisymm (reverse points) points)))
  where
    kept : (o : Ordering) → is_gt o ≡ false → points_cmp (reverse points) points ≡ ordering_reverse o
        → is_lt (points_cmp (reverse points) points) ≡ false
    kept Less e f = ap is_lt f
    kept Equal e f = ap is_lt f
    kept Greater e f = absurd (false≢true (sym e))

pub tidy_shapes : (county : County) → IsTidy county → map entry_points county.chains ≡ map entry_shape county.chains
tidy_shapes county tidy = map_agree_all entry_points entry_shape
    (λ entry. is_gt (points_cmp (entry_points entry) (reverse (entry_points entry))) ≡ false)
    (λ entry h. own_shape entry.1.points h) county.chains tidy.directions

pub points_in_order : (entries : List (ℕ × Chain)) → IsInOrder (on entry_points points_cmp) entries → IsInOrder points_cmp (map entry_points entries)
points_in_order = in_order-map points_cmp entry_points

shape_carried : (r : Renumbering) (entry : ℕ × Chain) → entry_shape (carried_chain r entry) ≡ entry_shape entry
shape_carried r entry = go (turns r entry.0)
  where
    go : (b : Bool) → least_points (turned_if b entry.1).points ≡ least_points entry.1.points
    go true = least_reverse entry.1.points
    go false = refl

pub shapes_carried : (a b : County) → AreSame a b → SameElements (map entry_shape a.chains) (map entry_shape b.chains)
shapes_carried a b s =
    subst (λ ks. SameElements ks (map entry_shape b.chains))
    (map-map entry_shape (carried_chain s.by) a.chains
    ∙ map_agree_everywhere (λ entry. entry_shape (carried_chain s.by entry)) entry_shape (shape_carried s.by) a.chains)
    (same-map entry_shape (map (carried_chain s.by) a.chains) b.chains
    (from_permutation (map (carried_chain s.by) a.chains) b.chains s.carries.chains))
