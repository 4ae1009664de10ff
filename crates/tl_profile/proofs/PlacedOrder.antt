-- The order of placed shapes is the order of their chains.
use Rattle.tl_profile.proofs.Common.{AllByRecursion, AreInShapeOrder, County, Equal, Greater, HasFirstPoints, IsInOrder, IsTotalOrder, Less, List, Ordering, PlacedShape, [], along_shapes, ap, ap₂, directed_cmp, false, int_cmp_total, is_gt, map, ordering_then, placed_cmp, placed_directed, placed_key_cmp, point_cmp, points_cmp, points_keys, refl, subst, sym, then_total, whole_shape, ◌∙◌, ◌∷◌, ◌≡◌}
use Rattle.tl_profile.proofs.PointRanks.{as_points}
use Rattle.std.proofs.Common.{IsPermutation, nat_cmp}
use Rattle.std.proofs.lemmas.List.Sorted.{IsPermutation-map}
use Rattle.std.proofs.lemmas.Cmp.{nat_cmp_total, on_total}

pub placed_key_total : (county : County) → IsTotalOrder (placed_key_cmp county)
placed_key_total county =
    then_total (then_total (on_total (λ (s : PlacedShape). s.first) int_cmp_total)
    (then_total (on_total (λ (s : PlacedShape). s.second) int_cmp_total) (on_total (whole_shape county) points_keys.total)))
    (on_total (λ (s : PlacedShape). s.place) nat_cmp_total)

-- a comparison that was made once decides nothing when made again
again : (a b c : Ordering) → ordering_then a (ordering_then b (ordering_then a (ordering_then b c))) ≡ ordering_then a (ordering_then b c)
again Less b c = refl
again Greater b c = refl
again Equal Less c = refl
again Equal Equal c = refl
again Equal Greater c = refl

-- with their own first two points, placed shapes compare as their shapes do
pub placed-whole : (county : County) (a b : PlacedShape) → HasFirstPoints county a → HasFirstPoints county b
    → placed_cmp county a b ≡ points_cmp (whole_shape county a) (whole_shape county b)
placed-whole county a b h k =
    let same : points_cmp (whole_shape county a) (whole_shape county b)
    ≡ points_cmp (h.first ∷ h.second ∷ h.rest) (k.first ∷ k.second ∷ k.rest) = ap₂ points_cmp h.is k.is in
    ap₂ (λ o r. ordering_then o (ordering_then r (points_cmp (whole_shape county a) (whole_shape county b))))
    (as_points h.first k.first a.first b.first h.first_rank k.first_rank)
    (as_points h.second k.second a.second b.second h.second_rank k.second_rank)
    ∙ ap (λ o. ordering_then (point_cmp h.first k.first) (ordering_then (point_cmp h.second k.second) o)) same
    ∙ again (point_cmp h.first k.first) (point_cmp h.second k.second) (points_cmp h.rest k.rest)
    ∙ sym same

-- the chains of a list in this order are therefore in order
pub in_shape_order : (county : County) (shapes : List PlacedShape) → AllByRecursion (HasFirstPoints county) shapes
    → IsInOrder (placed_key_cmp county) shapes → IsInOrder (directed_cmp county) (map placed_directed shapes)
in_shape_order county [] a h = tt
in_shape_order county (s ∷ ss) a h = (each ss a.1 h.0, in_shape_order county ss a.1 h.1)
  where
    each : (ts : List PlacedShape) → AllByRecursion (HasFirstPoints county) ts → AllByRecursion (λ t. is_gt (placed_key_cmp county s t) ≡ false) ts
        → AllByRecursion (λ w. is_gt (directed_cmp county (placed_directed s) w) ≡ false) (map placed_directed ts)
    each [] b g = tt
    each (t ∷ ts) b g = (
      subst (λ o. is_gt (ordering_then o (nat_cmp s.place t.place)) ≡ false) (placed-whole county s t a.0 b.0) g.0,
      each ts b.1 g.1,
    )

-- The chains of all placed shapes, sorted, are the order of the county's shapes.
pub sorted_by_shape : (county : County) (shapes sorted : List PlacedShape) → map placed_directed shapes ≡ along_shapes county
    → IsPermutation shapes sorted → AllByRecursion (HasFirstPoints county) sorted → IsInOrder (placed_key_cmp county) sorted
    → AreInShapeOrder county (map placed_directed sorted)
sorted_by_shape county shapes sorted by_shape p heads ordered =
    record {
      all = subst (λ ws. IsPermutation ws (map placed_directed sorted)) by_shape (IsPermutation-map placed_directed shapes sorted p);
      in_order = in_shape_order county sorted heads ordered;
    }
