-- Points of the map, in millionths of a degree.
use Rattle.std.specs.Prelude.{unsigned_abs, ℕ, ℤ, ◌+◌, ◌<◌, ◌≤◌}

-- the greatest magnitude of a longitude, nine digits of millionths of a degree
abbrev pub most_longitude : ℕ
most_longitude = 999999999

-- the greatest magnitude of a latitude, eight digits of millionths of a degree
abbrev pub most_latitude : ℕ
most_latitude = 99999999

-- a longitude and a latitude, in millionths of a degree
pub record Coordinates : Type 0 where
  pub long : ℤ
  pub lat : ℤ

-- a point of the map: the values are within their limits, and they aren't both 0, which means none
pub record IsOnMap (point : Coordinates) : Type 0 where
  pub long : unsigned_abs point.long ≤ most_longitude
  pub lat : unsigned_abs point.lat ≤ most_latitude
  pub somewhere : 0 < unsigned_abs point.long + unsigned_abs point.lat
