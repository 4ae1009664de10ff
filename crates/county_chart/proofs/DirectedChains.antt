-- The lists of a chain that may be turned.
use Rattle.county_chart.proofs.Common.{Bool, Chain, None, Option, Some, cond, false, feats_of, map, option_map, points_of, ranges_of, refl, reverse, true, turned_if, turned_ranges, ◌≡◌}

pub points_turned : (turned : Bool) (o : Option Chain) → points_of (option_map (turned_if turned) o) ≡ cond turned (reverse (points_of o)) (points_of o)
points_turned true None = refl
points_turned false None = refl
points_turned true (Some c) = refl
points_turned false (Some c) = refl

pub ranges_turned : (turned : Bool) (o : Option Chain)
    → ranges_of (option_map (turned_if turned) o) ≡ cond turned (map turned_ranges (ranges_of o)) (ranges_of o)
ranges_turned true None = refl
ranges_turned false None = refl
ranges_turned true (Some c) = refl
ranges_turned false (Some c) = refl

pub feats_turned : (turned : Bool) (o : Option Chain) → feats_of (option_map (turned_if turned) o) ≡ feats_of o
feats_turned true None = refl
feats_turned false None = refl
feats_turned true (Some c) = refl
feats_turned false (Some c) = refl
