-- The shapes of chains: a chain's points or their reverse, whichever is less.
use Rattle.std.specs.Ordering.{is_lt}
use Rattle.std.specs.Prelude.{Bool, List, cond, reverse, ℕ}
use Rattle.tl_layout.specs.Coordinates.{Coordinates}
use Rattle.tl_shape.specs.PointOrder.{points_cmp}
use Rattle.county_chart.specs.ChartWords.{chain_at, points_of}
use Rattle.county_chart.specs.County.{County}

-- the points in their own direction, or from the other end
abbrev pub points_from : Bool → List Coordinates → List Coordinates
points_from turned points = cond turned (reverse points) points

-- the lesser of the points and their reverse
abbrev pub least_points : List Coordinates → List Coordinates
least_points points = cond (is_lt (points_cmp (reverse points) points)) (reverse points) points

-- the points of the chain at a place
abbrev pub points_at : County → ℕ → List Coordinates
points_at county place = points_of (chain_at county place)
