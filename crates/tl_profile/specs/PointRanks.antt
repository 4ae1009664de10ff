-- Points of the map, each as one number.
use Rattle.std.specs.Prelude.{ℤ, ◌*ℤ◌, ◌+ℤ◌, ◌≡◌}
use Rattle.tl_layout.specs.Coordinates.{Coordinates, IsOnMap}
use Rattle.tl_profile.specs.declared.point_rank.TheConstants.{LATITUDES}

-- a point's position among all points, counted along one longitude after another
abbrev pub point_rank : Coordinates → ℤ
point_rank point = point.long *ℤ LATITUDES +ℤ point.lat

-- the point is on the map, and the number is its rank
pub record IsRankOf (point : Coordinates) (rank : ℤ) : Type 0 where
  pub on_map : IsOnMap point
  pub is : rank ≡ point_rank point
