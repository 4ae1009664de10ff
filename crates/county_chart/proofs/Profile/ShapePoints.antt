-- A chain's shape is the same from either end of the chain. If the chain is its own reverse, so is its shape.
use Rattle.county_chart.proofs.Common.{Bool, Coordinates, Equal, Greater, Less, List, Ordering, ap, false, is_either_way, is_eq, is_lt, least_points, ordering_reverse, points_cmp, points_from, points_keys, refl, reverse, reverse-reverse, sym, true, ◌∙◌, ◌≡◌}

-- the lesser of a list and its reverse is the same for both
pub least_reverse : (ps : List Coordinates) → least_points (reverse ps) ≡ least_points ps
least_reverse ps = go (points_cmp (reverse ps) ps) refl
  where
    back : points_cmp (reverse (reverse ps)) (reverse ps) ≡ points_cmp ps (reverse ps)
    back = ap (λ qs. points_cmp qs (reverse ps)) (reverse-reverse ps)

    other : points_cmp ps (reverse ps) ≡ ordering_reverse (points_cmp (reverse ps) ps)
    other = points_keys.total.antisymm ps (reverse ps)

    go : (o : Ordering) → points_cmp (reverse ps) ps ≡ o → least_points (reverse ps) ≡ least_points ps
    go Less e =
        ap (λ r. points_from (is_lt r) (reverse ps)) (back ∙ other ∙ ap ordering_reverse e)
        ∙ sym (ap (λ r. points_from (is_lt r) ps) e)
    go Equal e =
        ap (λ r. points_from (is_lt r) (reverse ps)) (back ∙ other ∙ ap ordering_reverse e)
        ∙ points_keys.exact (reverse ps) ps e
        ∙ sym (ap (λ r. points_from (is_lt r) ps) e)
    go Greater e =
        ap (λ r. points_from (is_lt r) (reverse ps)) (back ∙ other ∙ ap ordering_reverse e)
        ∙ reverse-reverse ps
        ∙ sym (ap (λ r. points_from (is_lt r) ps) e)

-- whether points are the same from both ends can be seen from either end
pub either_way-from : (turned : Bool) (ps : List Coordinates) → is_either_way (points_from turned ps) ≡ is_eq (points_cmp (reverse ps) ps)
either_way-from true ps = ap (λ qs. is_eq (points_cmp (reverse ps) qs)) (reverse-reverse ps)
either_way-from false ps =
    ap is_eq (points_keys.total.antisymm ps (reverse ps)) ∙ reversed (points_cmp (reverse ps) ps)
  where
    reversed : (o : Ordering) → is_eq (ordering_reverse o) ≡ is_eq o
    reversed Less = refl
    reversed Equal = refl
    reversed Greater = refl
