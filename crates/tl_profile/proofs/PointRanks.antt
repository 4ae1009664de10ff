-- Ranks compare as the points of the map do.
use Rattle.tl_profile.proofs.Common.{Equal, Greater, IsRankOf, Less, Ordering, ap₂, arith, int_cmp, int_cmp_is, int_ranks, ints, neg_ℤ, ordering_then, point_cmp, point_rank, sym, unsigned_abs, ℤ, ◌<ℤ◌, ◌∙◌, ◌≡◌, ◌≤ℤ◌, ◌≤◌}
use Rattle.tl_layout.specs.Coordinates.{Coordinates, IsOnMap}
use Rattle.std.specs.Ordering.{MatchOrdering}
use Rattle.std.proofs.Common.{pos}

-- a latitude's magnitude bounds it on both sides
between : (z : ℤ) → unsigned_abs z ≤ 99999999 → (neg_ℤ (pos 99999999) ≤ℤ z) × (z ≤ℤ pos 99999999)
between z h = (omega (arith, ints, h), omega (arith, ints, h))

-- how the order of two points determines the order of their ranks
ranked : (p q : Coordinates) → IsOnMap p → IsOnMap q
    → MatchOrdering (point_cmp p q) (point_rank p <ℤ point_rank q) (point_rank p ≡ point_rank q) (point_rank q <ℤ point_rank p)
ranked p q a b = go (int_cmp p.long q.long) (int_ranks p.long q.long) (int_cmp p.lat q.lat) (int_ranks p.lat q.lat)
  where
    low : (neg_ℤ (pos 99999999) ≤ℤ p.lat) × (p.lat ≤ℤ pos 99999999)
    low = between p.lat a.lat

    high : (neg_ℤ (pos 99999999) ≤ℤ q.lat) × (q.lat ≤ℤ pos 99999999)
    high = between q.lat b.lat

    go : (o : Ordering) → MatchOrdering o (p.long <ℤ q.long) (p.long ≡ q.long) (q.long <ℤ p.long)
        → (r : Ordering) → MatchOrdering r (p.lat <ℤ q.lat) (p.lat ≡ q.lat) (q.lat <ℤ p.lat)
        → MatchOrdering (ordering_then o r) (point_rank p <ℤ point_rank q) (point_rank p ≡ point_rank q) (point_rank q <ℤ point_rank p)
    go Less h r k = omega (arith, ints, h, low, high)
    go Greater h r k = omega (arith, ints, h, low, high)
    go Equal h Less k = omega (arith, ints, h, low, high, k)
    go Equal h Equal k = omega (arith, ints, h, low, high, k)
    go Equal h Greater k = omega (arith, ints, h, low, high, k)

pub as_points : (p q : Coordinates) (m n : ℤ) → IsRankOf p m → IsRankOf q n → int_cmp m n ≡ point_cmp p q
as_points p q m n a b =
    ap₂ int_cmp a.is b.is ∙ sym (int_cmp_is (point_rank p) (point_rank q) (point_cmp p q) (ranked p q a.on_map b.on_map))
