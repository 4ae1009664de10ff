-- The fact that a record fits its columns, split by name: its numbers and its content.
use Rattle.county_chart.proofs.Common.{AllByRecursion, BodyP, Fields1, Fields2, Fields4, Fields5, Fields6, Fields7, Fields8, FieldsI, FieldsOf, FieldsP, FitsBody1, FitsLandmark, FitsLinkContent, FitsNameBody, FitsPolygon, FitsRanges, IsNumber, IsNumberOrNone, IsOnMap, IsText, List, Record, RecordType, Some, Type1, Type2, Type4, Type5, Type6, Type7, Type8, TypeI, TypeP, arith, as_type, length, lit<, record_of, rules, subst, type_1_fits, ℕ, ◌≡◌, ◌≤◌}
use Rattle.tl_layout.specs.Laws.RecordTypeLaws.{record_selected}
use Rattle.tl_layout.specs.RecordText.{FitsRecord}
use Rattle.tl_layout.specs.RecordTypes.{FitsFields}
use Rattle.tl_layout.specs.declared.type_i.BodyI.{BodyI}

pub record Fit1 (r : Fields1) : Type 0 where
  pub tlid : IsNumber 10 r.tlid
  pub body : FitsBody1 r.body
  pub start : IsOnMap r.start
  pub end : IsOnMap r.end

pub record Fit2 (r : Fields2) : Type 0 where
  pub tlid : IsNumber 10 r.tlid
  pub rtsq : IsNumber 3 r.rtsq
  pub len : length r.points ≤ 10
  pub points : AllByRecursion IsOnMap r.points

pub record Fit4 (r : Fields4) : Type 0 where
  pub tlid : IsNumber 10 r.tlid
  pub rtsq : IsNumber 3 r.rtsq
  pub len : length r.feats ≤ 5
  pub feats : AllByRecursion (IsNumber 8) r.feats

pub record Fit5 (r : Fields5) : Type 0 where
  pub feat : IsNumber 8 r.feat
  pub body : FitsNameBody r.body

pub record Fit6 (r : Fields6) : Type 0 where
  pub tlid : IsNumber 10 r.tlid
  pub rtsq : IsNumber 3 r.rtsq
  pub ranges : FitsRanges r.ranges

pub record Fit7 (r : Fields7) : Type 0 where
  pub land : IsNumber 10 r.land
  pub body : FitsLandmark r.body

pub record Fit8 (r : Fields8) : Type 0 where
  pub file : IsText 5 r.file
  pub cenid : IsText 5 r.cenid
  pub polyid : IsNumber 10 r.polyid
  pub land : IsNumber 10 r.land

pub record FitI (r : FieldsI) : Type 0 where
  pub tlid : IsNumber 10 r.tlid
  pub start_node : IsNumberOrNone 10 r.start_node
  pub end_node : IsNumberOrNone 10 r.end_node
  pub left_polyid : IsNumberOrNone 10 r.left.polyid
  pub right_polyid : IsNumberOrNone 10 r.right.polyid
  pub content : FitsLinkContent r.body r.left.cenid r.right.cenid

pub record FitP (r : FieldsP) : Type 0 where
  pub polyid : IsNumber 10 r.polyid
  pub body : FitsPolygon r.cenid r.body

-- what is above, as functions of the type
abbrev pub Fit : (t : RecordType) → FieldsOf t → Type 0
Fit Type1 = Fit1
Fit Type2 = Fit2
Fit Type4 = Fit4
Fit Type5 = Fit5
Fit Type6 = Fit6
Fit Type7 = Fit7
Fit Type8 = Fit8
Fit TypeI = FitI
Fit TypeP = FitP

-- fields that fit their columns fit as named here
named : (t : RecordType) (r : FieldsOf t) → FitsRecord (record_of t r) → Fit t r
unfolding FitsRecord FitsFields
-- content that fits with the number 1 fits with any other number that fits
named Type5 r h = record { feat = h.1.0; body = (h.0, ((omega arith, lit< tt), h.1.1)) }
named Type7 r h = record { land = h.1.0; body = (h.0, ((omega arith, lit< tt), h.1.1)) }
named TypeI r h = record {
  tlid = h.1.0;
  start_node = h.1.1.0;
  end_node = h.1.1.1.0;
  left_polyid = h.1.1.1.1.1.0;
  right_polyid = h.1.1.1.1.1.1.1.0;
  content = search rules;
}
named TypeP r h = record { polyid = h.1.1.0; body = (h.0, (h.1.0, ((omega arith, lit< tt), h.1.1.1))) }
named _ r h = search rules

-- fields that fit as named here fit their columns
pub columns : (t : RecordType) (r : FieldsOf t) → Fit t r → FitsRecord (record_of t r)
unfolding FitsRecord FitsFields
columns Type1 r f = type_1_fits r f.tlid f.body f.start f.end
columns _ r f = search rules

-- the fields of a record that fits
pub selected_fit : (t : RecordType) (r : Record) (fields : FieldsOf t) → as_type t r ≡ Some fields → FitsRecord r → Fit t fields
selected_fit t r fields e h = named t fields (subst FitsRecord (record_selected t r fields e) h)

-- the CENIDs of content that fits
pub left_cenid_fits : (body : BodyI) (left right : List ℕ) → FitsLinkContent body left right → IsText 5 left
unfolding FitsFields
left_cenid_fits body left right h = h.1.1.1.1.0

pub right_cenid_fits : (body : BodyI) (left right : List ℕ) → FitsLinkContent body left right → IsText 5 right
unfolding FitsFields
right_cenid_fits body left right h = h.1.1.1.1.1.1.0

pub polygon_cenid_fits : (cenid : List ℕ) (body : BodyP) → FitsPolygon cenid body → IsText 5 cenid
unfolding FitsFields
polygon_cenid_fits cenid body h = h.1.0

-- content of type I fits with its sides exchanged
pub link_content_turned : (body : BodyI) (left right : List ℕ) → FitsLinkContent body left right → FitsLinkContent body right left
unfolding FitsFields
link_content_turned body left right h = search rules
