-- The orders of points and of point lists are total, and items that compare as equal are equal.
use Rattle.std.proofs.Common.{List, [], ap, refl, sym, true, ◌∙◌, ◌∷◌, ◌≡◌}
use Rattle.std.specs.Cmp.{IsTotalOrder}
use Rattle.std.specs.Ordering.{int_cmp, is_eq, ordering_then}
use Rattle.std.specs.declared.cmp.Ordering.TheVariants.{Equal, Greater, Less}
use Rattle.std.specs.declared.cmp.Ordering.{Ordering}
use Rattle.std.proofs.lemmas.Cmp.{int_cmp_total, lists_total, on_total, then_total, tied_itself}
use Rattle.std.proofs.lemmas.Map.Lookups.{exact_signed}
use Rattle.tl_layout.specs.Coordinates.{Coordinates}
use Rattle.tl_shape.specs.PointOrder.{point_cmp, points_cmp}

pub point_total : IsTotalOrder point_cmp
point_total = then_total (on_total (λ (p : Coordinates). p.long) int_cmp_total) (on_total (λ (p : Coordinates). p.lat) int_cmp_total)

-- point lists are totally ordered
pub points_total : IsTotalOrder points_cmp
points_total = lists_total point_total

both_equal : (a b : Ordering) → ordering_then a b ≡ Equal → (a ≡ Equal) × (b ≡ Equal)
both_equal Less b h = (cc)
both_equal Equal b h = (refl, h)
both_equal Greater b h = (cc)

pub point_exact : (p q : Coordinates) → point_cmp p q ≡ Equal → p ≡ q
point_exact p q h =
    let parts = both_equal (int_cmp p.long q.long) (int_cmp p.lat q.lat) h in
    let long = exact_signed p.long q.long parts.0 in
    let lat = exact_signed p.lat q.lat parts.1 in
    λ i. record { long = long i; lat = lat i }

-- point lists that compare as equal are equal
pub points_exact : (ps qs : List Coordinates) → points_cmp ps qs ≡ Equal → ps ≡ qs
points_exact [] [] h = refl
points_exact [] (q ∷ qs) h = (cc)
points_exact (p ∷ ps) [] h = (cc)
points_exact (p ∷ ps) (q ∷ qs) h =
    let parts = both_equal (point_cmp p q) (points_cmp ps qs) h in
    let first = point_exact p q parts.0 in
    let rest = points_exact ps qs parts.1 in
    λ i. first i ∷ rest i

pub points_same : (ps qs : List Coordinates) → ps ≡ qs → points_cmp ps qs ≡ Equal
points_same ps qs e = ap (points_cmp ps) (sym e) ∙ tied_itself points_total ps

pub equal_from_test : (o : Ordering) → is_eq o ≡ true → o ≡ Equal
equal_from_test Less h = (cc)
equal_from_test Equal h = refl
equal_from_test Greater h = (cc)
