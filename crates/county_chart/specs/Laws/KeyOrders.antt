-- In the orders of this crate, values that compare as equal are equal.
use Rattle.std.proofs.Common.{Equal, None, Option, Some, ap, int_cmp, nat_cmp, option_to_list, refl, rules, ◌≡◌}
use Rattle.std.proofs.lemmas.Cmp.{int_cmp_total, nat_cmp_total, nat_list_cmp_total, on_total, then_total}
use Rattle.std.proofs.lemmas.Map.Lookups.{exact_bytes, exact_pairs, exact_signed, exact_unsigned}
use Rattle.std.specs.Cmp.Lexicographic.{slice_cmp}
use Rattle.std.specs.Ordering.{ordering_then}
use Rattle.tl_layout.specs.Coordinates.{Coordinates}
use Rattle.tl_layout.specs.Fields.{Fields8}
use Rattle.tl_layout.specs.declared.name.FeatureName.{FeatureName}
use Rattle.tl_layout.specs.declared.type7.Body7.{Body7}
use Rattle.county_chart.specs.PolygonKeys.{PolygonKey, key_cmp}
use Rattle.county_chart.specs.BodyOrder.{LinkPart, bytes_cmp, feature_name_cmp, landmark_body_cmp, link_cmp, link_part, link_part_cmp, name_body_cmp}
use Rattle.tl_shape.specs.PointOrder.{point_cmp, points_cmp}
use Rattle.ordered_lists.proofs.ByKey.KeyOrders.{lists_keys, then-equal}
use Rattle.ordered_lists.proofs.ByKey.Keys.{IsKeyOrder}

pub key_keys : IsKeyOrder key_cmp
key_keys = record {
  total = then_total (on_total (λ (k : PolygonKey). k.0) nat_list_cmp_total) (on_total (λ (k : PolygonKey). k.1) nat_cmp_total);
  exact = exact_pairs (slice_cmp nat_cmp) nat_cmp exact_bytes exact_unsigned;
}

pub point_keys : IsKeyOrder point_cmp
point_keys = record {
  total = then_total (on_total (λ (p : Coordinates). p.long) int_cmp_total) (on_total (λ (p : Coordinates). p.lat) int_cmp_total);
  exact = same;
}
  where
    same : (p q : Coordinates) → point_cmp p q ≡ Equal → p ≡ q
    same p q e =
        let both : (int_cmp p.long q.long ≡ Equal) × (int_cmp p.lat q.lat ≡ Equal) =
        then-equal (int_cmp p.long q.long) (int_cmp p.lat q.lat) e in
        λ i. record { long = exact_signed p.long q.long both.0 i; lat = exact_signed p.lat q.lat both.1 i }

pub points_keys : IsKeyOrder points_cmp
points_keys = lists_keys point_keys

-- the orders of names, of landmarks and of their polygons
option_list : (o p : Option Coordinates) → option_to_list o ≡ option_to_list p → o ≡ p
option_list None None e = refl
option_list None (Some q) e = cc
option_list (Some p) None e = cc
option_list (Some p) (Some q) e = let same : p ≡ q = cc in ap Some same

name_exact : (a b : FeatureName) → feature_name_cmp a b ≡ Equal → a ≡ b
name_exact a b e =
    let one = then-equal (bytes_cmp a.fedirp b.fedirp)
    (ordering_then (bytes_cmp a.fename b.fename) (ordering_then (bytes_cmp a.fetype b.fetype) (bytes_cmp a.fedirs b.fedirs))) e in
    let two = then-equal (bytes_cmp a.fename b.fename) (ordering_then (bytes_cmp a.fetype b.fetype) (bytes_cmp a.fedirs b.fedirs)) one.1 in
    let three = then-equal (bytes_cmp a.fetype b.fetype) (bytes_cmp a.fedirs b.fedirs) two.1 in
    λ i. record {
      fedirp = exact_bytes a.fedirp b.fedirp one.0 i;
      fename = exact_bytes a.fename b.fename two.0 i;
      fetype =
          exact_bytes a.fetype b.fetype three.0 i;
      fedirs = exact_bytes a.fedirs b.fedirs three.1 i;
    }

pub name_body_keys : IsKeyOrder name_body_cmp
name_body_keys = search (rules, then_total, on_total, nat_list_cmp_total, then-equal, exact_bytes, name_exact)

pub landmark_body_keys : IsKeyOrder landmark_body_cmp
landmark_body_keys = record {
  total = then_total (on_total (λ (b : Body7). b.file) nat_list_cmp_total)
      (then_total (on_total (λ (b : Body7). b.source) nat_list_cmp_total)
      (then_total (on_total (λ (b : Body7). b.cfcc) nat_list_cmp_total)
      (then_total (on_total (λ (b : Body7). b.laname) nat_list_cmp_total)
      (on_total (λ (b : Body7). option_to_list b.point) points_keys.total))));
  exact = exact;
}
  where
    exact : (a b : Body7) → landmark_body_cmp a b ≡ Equal → a ≡ b
    exact a b e =
        let one = then-equal (bytes_cmp a.file b.file) _ e in
        let two = then-equal (bytes_cmp a.source b.source) _ one.1 in
        let three = then-equal (bytes_cmp a.cfcc b.cfcc) _ two.1 in
        let four = then-equal (bytes_cmp a.laname b.laname) _ three.1 in
        λ i. record {
          file = exact_bytes a.file b.file one.0 i;
          source = exact_bytes a.source b.source two.0 i;
          cfcc =
              exact_bytes a.cfcc b.cfcc three.0 i;
          laname = exact_bytes a.laname b.laname four.0 i;
          point =
              option_list a.point b.point (points_keys.exact (option_to_list a.point) (option_to_list b.point) four.1) i;
        }

pub link_part_keys : IsKeyOrder link_part_cmp
link_part_keys = record {
  total = then_total (on_total (λ (p : LinkPart). p.0) nat_cmp_total)
      (then_total (on_total (λ (p : LinkPart). p.1) nat_list_cmp_total) (on_total (λ (p : LinkPart). p.2) nat_list_cmp_total));
  exact = exact;
}
  where
    exact : (p q : LinkPart) → link_part_cmp p q ≡ Equal → p ≡ q
    exact p q e =
        let one = then-equal (nat_cmp p.0 q.0) _ e in
        let two = then-equal (bytes_cmp p.1 q.1) (bytes_cmp p.2 q.2) one.1 in
        λ i. (exact_unsigned p.0 q.0 one.0 i, exact_bytes p.1 q.1 two.0 i, exact_bytes p.2 q.2 two.1 i)

pub link_keys : IsKeyOrder link_cmp
link_keys = record {
  total = then_total (on_total (λ (l : Fields8). l.land) nat_cmp_total) (on_total link_part link_part_keys.total);
  exact = exact;
}
  where
    exact : (a b : Fields8) → link_cmp a b ≡ Equal → a ≡ b
    exact a b e =
        let both = then-equal (nat_cmp a.land b.land) _ e in
        let parts : link_part a ≡ link_part b = link_part_keys.exact (link_part a) (link_part b) both.1 in
        λ i. record { file = (parts i).2; cenid = (parts i).1; polyid = (parts i).0; land = exact_unsigned a.land b.land both.0 i }
