-- The key of a polygon: a CENID with a POLYID.
use Rattle.std.specs.Prelude.{List, None, Option, Some, [], ℕ, ◌∷◌}
use Rattle.std.specs.Cmp.Lexicographic.{slice_cmp}
use Rattle.std.specs.Ordering.{nat_cmp, ordering_then}
use Rattle.std.specs.declared.cmp.Ordering.{Ordering}
use Rattle.tl_layout.specs.PolygonSide.{PolygonSide}

-- a CENID and a POLYID
abbrev pub PolygonKey : Type 0
PolygonKey = List ℕ × ℕ

-- by the bytes of the CENID, then by the POLYID
abbrev pub key_cmp : PolygonKey → PolygonKey → Ordering
key_cmp k j = ordering_then (slice_cmp nat_cmp k.0 j.0) (nat_cmp k.1 j.1)

-- the polygon under this CENID, if there is a POLYID
abbrev pub key_under : List ℕ → Option ℕ → List PolygonKey
key_under cenid None = []
key_under cenid (Some polyid) = (cenid, polyid) ∷ []

-- the polygon on a side; a CENID without a POLYID names no polygon
abbrev pub key_on : PolygonSide → List PolygonKey
key_on side = key_under side.cenid side.polyid
