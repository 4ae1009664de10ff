-- The limits of a county: its contents and its numbers fit their fields, and it takes a limited number of records.
use Rattle.std.specs.Prelude.{All, IfSome, List, None, length, ℕ, ◌≤◌}
use Rattle.std.specs.List.{AllByRecursion}
use Rattle.tl_layout.specs.RecordTypes.{FitsFields, Type5, Type7, TypeI, TypeP}
use Rattle.tl_layout.specs.AddressRanges.{FitsRanges}
use Rattle.tl_layout.specs.Bytes.{IsText}
use Rattle.tl_layout.specs.Coordinates.{IsOnMap}
use Rattle.tl_layout.specs.Fields.{Fields8}
use Rattle.tl_layout.specs.Limits.{IsWithinLimit, most_records}
use Rattle.tl_layout.specs.Numbers.{IsNumber, IsNumberOrNone}
use Rattle.tl_layout.specs.RecordText.{FitsRecord}
use Rattle.tl_layout.specs.Tables.{HoldsByType}
use Rattle.tl_layout.specs.Type1Groups.{FitsBody1}
use Rattle.tl_layout.specs.declared.record_type.Record.{Record}
use Rattle.tl_layout.specs.declared.tables.Tables.{Tables}
use Rattle.tl_layout.specs.declared.type5.Body5.{Body5}
use Rattle.tl_layout.specs.declared.type7.Body7.{Body7}
use Rattle.tl_layout.specs.declared.type_i.BodyI.{BodyI}
use Rattle.tl_layout.specs.declared.type_p.BodyP.{BodyP}
use Rattle.tl_shape.specs.Chain.{Chain}
use Rattle.county_chart.specs.County.{County}
use Rattle.county_chart.specs.Packing.{inner_points, packed}

-- the greatest RTSQ, so also the most records of each of the types 2, 4 and 6 that a chain can have
abbrev pub greatest_rtsq : ℕ
greatest_rtsq = 999

-- the most shape points that a chain's type 2 records can hold, and the most names for its type 4 records
abbrev pub most_shape_points : ℕ
most_shape_points = 9990

abbrev pub most_names : ℕ
most_names = 4995

-- A content fits if a record with it fits; the number isn't part of the content, so it is 1 here.
abbrev pub FitsNameBody : Body5 → Type 0
FitsNameBody body = FitsFields Type5 (record { feat = 1; body = body })

abbrev pub FitsLandmark : Body7 → Type 0
FitsLandmark body = FitsFields Type7 (record { land = 1; body = body })

abbrev pub FitsPolygon : List ℕ → BodyP → Type 0
FitsPolygon cenid body = FitsFields TypeP (record { cenid = cenid; polyid = 1; body = body })

-- the content of a type I record, with the CENIDs of both sides
abbrev pub FitsLinkContent : BodyI → List ℕ → List ℕ → Type 0
FitsLinkContent body left right = FitsFields TypeI (record {
  tlid = 1;
  body = body;
  start_node = None;
  end_node = None;
  left = record { cenid = left; polyid = None };
  right = record { cenid = right; polyid = None };
})

-- the contents of a chain fit their fields; its numbers aren't looked at
pub record FitsChain (chain : Chain) : Type 0 where
  pub body : FitsBody1 chain.body
  pub points : AllByRecursion IsOnMap chain.points
  pub ranges : AllByRecursion FitsRanges chain.ranges
  pub link : FitsLinkContent chain.topology chain.left.cenid chain.right.cenid

-- its lists fit into records with different RTSQs
pub record ListsFit (chain : Chain) : Type 0 where
  pub points : length (inner_points chain.points) ≤ most_shape_points
  pub feats : length chain.feats ≤ most_names
  pub ranges : length chain.ranges ≤ greatest_rtsq

-- the contents of a link fit their fields; its numbers aren't looked at
pub record FitsLink (link : Fields8) : Type 0 where
  pub file : IsText 5 link.file
  pub cenid : IsText 5 link.cenid

-- everything in a county except its numbers fits the fields of its records
pub record ContentsFit (county : County) : Type 0 where
  pub chains : AllByRecursion (λ entry. FitsChain entry.1) county.chains
  pub names : AllByRecursion (λ entry. FitsNameBody entry.1) county.names
  pub cenids : AllByRecursion (λ entry. IsText 5 entry.0.0) county.polygons
  pub polygons : AllByRecursion (λ entry. IfSome entry.1 (FitsPolygon entry.0.0)) county.polygons
  pub landmarks : AllByRecursion (λ entry. AllByRecursion FitsLandmark entry.1) county.landmarks
  pub links : AllByRecursion FitsLink county.links

-- the numbers that a chain names fit their fields
pub record FitsNumbers (chain : Chain) : Type 0 where
  pub feats : AllByRecursion (IsNumber 8) chain.feats
  pub start_node : IsNumberOrNone 10 chain.start_node
  pub end_node : IsNumberOrNone 10 chain.end_node
  pub left : IsNumberOrNone 10 chain.left.polyid
  pub right : IsNumberOrNone 10 chain.right.polyid

-- the numbers of a county fit their fields
pub record NumbersFit (county : County) : Type 0 where
  pub chains : AllByRecursion (λ entry. IsNumber 10 entry.0) county.chains
  pub named : AllByRecursion (λ entry. FitsNumbers entry.1) county.chains
  pub names : AllByRecursion (λ entry. IsNumber 8 entry.0) county.names
  pub polygons : AllByRecursion (λ entry. IsNumber 10 entry.0.1) county.polygons
  pub landmarks : AllByRecursion (λ entry. IsNumber 10 entry.0) county.landmarks
  pub link_polygons : AllByRecursion (λ link. IsNumber 10 link.polyid) county.links
  pub link_lands : AllByRecursion (λ link. IsNumber 10 link.land) county.links

-- A county made from records within their limits: its contents and numbers fit, its chains' lists fit into their records, and its
-- canonical packing has at most `limit` records of each type.
pub record IsWithinLimits (limit : ℕ) (county : County) : Type 0 where
  pub contents : ContentsFit county
  pub numbers : NumbersFit county
  pub lists : AllByRecursion (λ entry. ListsFit entry.1) county.chains
  pub counts : IsWithinLimit limit (packed county)

-- The tables hold records that fit, and at most `most_records` of each type.
pub record HoldsWithinLimits (tables : Tables) : Type 0 where
  pub records : List Record
  pub holds : HoldsByType tables records
  pub fits : All FitsRecord records
  pub few : IsWithinLimit most_records records
