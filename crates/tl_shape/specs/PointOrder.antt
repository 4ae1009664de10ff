-- The order of points and of point lists.
use Rattle.std.specs.Prelude.{List, reverse, ◌≡◌}
use Rattle.std.specs.Ordering.{int_cmp, ordering_then}
use Rattle.std.specs.Cmp.Lexicographic.{slice_cmp}
use Rattle.std.specs.declared.cmp.Ordering.{Ordering}
use Rattle.std.specs.declared.cmp.Ordering.TheVariants.{Less}
use Rattle.tl_layout.specs.Coordinates.{Coordinates}

-- points in the order of longitude, then of latitude, as numbers
abbrev pub point_cmp : Coordinates → Coordinates → Ordering
point_cmp p q = ordering_then (int_cmp p.long q.long) (int_cmp p.lat q.lat)

-- point lists in the order of the first point that differs; a list comes
-- after each of its beginnings
abbrev pub points_cmp : List Coordinates → List Coordinates → Ordering
points_cmp = slice_cmp point_cmp

-- the points come after their reverse in the order
abbrev pub ComeAfterReverse : List Coordinates → Type 0
ComeAfterReverse points = points_cmp (reverse points) points ≡ Less
