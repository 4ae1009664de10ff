-- The orders of names, of landmarks and of a landmark's polygons, field by field; bytes are ordered as numbers.
use Rattle.std.specs.Prelude.{List, Option, option_to_list, ℕ}
use Rattle.std.specs.Cmp.Lexicographic.{slice_cmp}
use Rattle.std.specs.Ordering.{nat_cmp, ordering_then}
use Rattle.std.specs.declared.cmp.Ordering.{Ordering}
use Rattle.tl_layout.specs.Coordinates.{Coordinates}
use Rattle.tl_layout.specs.Fields.{Fields7, Fields8}
use Rattle.tl_layout.specs.declared.name.FeatureName.{FeatureName}
use Rattle.tl_layout.specs.declared.type5.Body5.{Body5}
use Rattle.tl_layout.specs.declared.type7.Body7.{Body7}
use Rattle.tl_shape.specs.PointOrder.{points_cmp}

-- bytes: the first difference decides, and a list that ends first comes first
abbrev pub bytes_cmp : List ℕ → List ℕ → Ordering
bytes_cmp = slice_cmp nat_cmp

-- FEDIRP, FENAME, FETYPE, FEDIRS
abbrev pub feature_name_cmp : FeatureName → FeatureName → Ordering
feature_name_cmp a b =
    ordering_then (bytes_cmp a.fedirp b.fedirp)
    (ordering_then (bytes_cmp a.fename b.fename) (ordering_then (bytes_cmp a.fetype b.fetype) (bytes_cmp a.fedirs b.fedirs)))

-- FILE, then the name: the 43 bytes of a type 5 record's content
abbrev pub name_body_cmp : Body5 → Body5 → Ordering
name_body_cmp a b = ordering_then (bytes_cmp a.file b.file) (feature_name_cmp a.name b.name)

-- an optional point as a list of at most one point, so no point comes first
abbrev pub optional_point_cmp : Option Coordinates → Option Coordinates → Ordering
optional_point_cmp o p = points_cmp (option_to_list o) (option_to_list p)

-- field by field, in the order of the type 7 columns; no point comes before any point
abbrev pub landmark_body_cmp : Body7 → Body7 → Ordering
landmark_body_cmp a b =
    ordering_then (bytes_cmp a.file b.file)
    (ordering_then (bytes_cmp a.source b.source)
    (ordering_then (bytes_cmp a.cfcc b.cfcc) (ordering_then (bytes_cmp a.laname b.laname) (optional_point_cmp a.point b.point))))

-- LAND, then the content
abbrev pub landmark_cmp : Fields7 → Fields7 → Ordering
landmark_cmp a b = ordering_then (nat_cmp a.land b.land) (landmark_body_cmp a.body b.body)

-- a landmark's link without its LAND: POLYID, CENID, FILE
abbrev pub LinkPart : Type 0
LinkPart = ℕ × List ℕ × List ℕ

abbrev pub link_part : Fields8 → LinkPart
link_part link = (link.polyid, link.cenid, link.file)

-- POLYID, CENID, FILE
abbrev pub link_part_cmp : LinkPart → LinkPart → Ordering
link_part_cmp p q = ordering_then (nat_cmp p.0 q.0) (ordering_then (bytes_cmp p.1 q.1) (bytes_cmp p.2 q.2))

-- LAND, then POLYID, CENID, FILE
abbrev pub link_cmp : Fields8 → Fields8 → Ordering
link_cmp a b = ordering_then (nat_cmp a.land b.land) (link_part_cmp (link_part a) (link_part b))
