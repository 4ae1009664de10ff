-- Canonical lists of records.
use Rattle.std.specs.Prelude.{List, [], false, filter, flat_map, is_some, length, map, ℕ, ⊤, ◌∷◌, ◌≡◌, ◌≤◌}
use Rattle.std.specs.Cmp.Lexicographic.{slice_cmp}
use Rattle.std.specs.List.{AllByRecursion}
use Rattle.std.specs.Ordering.{is_gt, nat_cmp, on, then_cmp}
use Rattle.tl_layout.specs.RecordTypes.{Type1, Type2, Type4, Type5, Type6, Type7, Type8, TypeI, TypeP, as_type, of_type, types}
use Rattle.tl_layout.specs.ByType.{of_number}
use Rattle.tl_layout.specs.RecordText.{text_of}
use Rattle.tl_layout.specs.declared.record_type.Record.{Record}
use Rattle.county_chart.specs.BodyOrder.{landmark_cmp, link_cmp}
use Rattle.county_chart.specs.County.{County, county_of}
use Rattle.county_chart.specs.CountyRules.{tlids}
use Rattle.county_chart.specs.LinkRules.{IsLinked, rtsqs}
use Rattle.county_chart.specs.Renumbering.{AreSame, Renumbering}
use Rattle.county_chart.specs.declared.fault.SequencedType.{SequencedType}
use Rattle.ordered_lists.specs.Orders.{IsInOrder}
use Rattle.ordered_lists.specs.Pairs.{image}
use Rattle.canonical_form.specs.ArrangedCounty.{IsArranged, IsTidy}
use Rattle.canonical_form.specs.Growth.{up_to}

-- The records come type after type. Within a type they ascend: records of chains by TLID and, if they have one, RTSQ; names by
-- FEAT; landmarks by LAND and content; links by LAND, POLYID, CENID and FILE; polygons by POLYID.
pub record AreRecordsInOrder (records : List Record) : Type 0 where
  pub types : records ≡ flat_map (λ t. filter (λ r. is_some (as_type t r)) records) types
  pub of_type_1 : IsInOrder (on (λ r. r.tlid) nat_cmp) (of_type Type1 records)
  pub of_type_2 : IsInOrder (then_cmp (on (λ r. r.tlid) nat_cmp) (on (λ r. r.rtsq) nat_cmp)) (of_type Type2 records)
  pub of_type_4 : IsInOrder (then_cmp (on (λ r. r.tlid) nat_cmp) (on (λ r. r.rtsq) nat_cmp)) (of_type Type4 records)
  pub of_type_5 : IsInOrder (on (λ r. r.feat) nat_cmp) (of_type Type5 records)
  pub of_type_6 : IsInOrder (then_cmp (on (λ r. r.tlid) nat_cmp) (on (λ r. r.rtsq) nat_cmp)) (of_type Type6 records)
  pub of_type_7 : IsInOrder landmark_cmp (of_type Type7 records)
  pub of_type_8 : IsInOrder link_cmp (of_type Type8 records)
  pub of_type_i : IsInOrder (on (λ r. r.tlid) nat_cmp) (of_type TypeI records)
  pub of_type_p : IsInOrder (on (λ r. r.polyid) nat_cmp) (of_type TypeP records)

-- each list has n elements, except that the last has between one and n
abbrev pub AreFull : {X : Type 0} → ℕ → List (List X) → Type 0
AreFull n [] = ⊤
AreFull n (xs ∷ []) = (1 ≤ length xs) × (length xs ≤ n)
AreFull n (xs ∷ ys ∷ rest) = (length xs ≡ n) × AreFull n (ys ∷ rest)

-- The records of types 2 and 4 of each chain are full, except for the last one, and the records of types 2, 4 and 6 of each
-- chain have the RTSQs 1, 2, 3, ..
pub record IsPacked (records : List Record) : Type 0 where
  pub points : (tlid : ℕ) → AreFull 10 (map (λ r. r.points) (of_number (λ r. r.tlid) tlid (of_type Type2 records)))
  pub feats : (tlid : ℕ) → AreFull 5 (map (λ r. r.feats) (of_number (λ r. r.tlid) tlid (of_type Type4 records)))
  pub rtsqs : (rtype : SequencedType) (tlid : ℕ) → rtsqs rtype tlid records ≡ up_to (length (rtsqs rtype tlid records))

-- A list of records in the canonical order, packing and numbering; the choice of TLIDs and directions is left open.
pub record IsArrangedList (records : List Record) : Type 0 where
  pub linked : IsLinked records
  pub order : AreRecordsInOrder records
  pub packed : IsPacked records
  pub numbers : IsArranged (county_of records)

-- such a list with a tidy county
pub record IsTidyList (records : List Record) : Type 0 where
  pub in_form : IsArrangedList records
  pub tidy : IsTidy (county_of records)

-- the text of the records doesn't come after the text of the others
abbrev pub IsNotAfter : List Record → List Record → Type 0
IsNotAfter records other = is_gt (slice_cmp nat_cmp (text_of records) (text_of other)) ≡ false

-- A canonical list of records: a tidy list, and no tidy list of the same map has a lesser text. `in_form` doesn't determine the TLIDs and
-- directions of chains, `tidy` determines them where points do, and `least` determines the rest.
pub record IsCanonical (records : List Record) : Type 0 where
  pub in_form : IsArrangedList records
  pub tidy : IsTidy (county_of records)
  pub least : (other : List Record) → IsTidyList other → AreSame (county_of records) (county_of other) → IsNotAfter records other

-- the renaming keeps each TLID of the county and turns no chain
pub record KeepsChainNumbers (r : Renumbering) (county : County) : Type 0 where
  pub keeps : AllByRecursion (λ tlid. image nat_cmp r.chains tlid ≡ tlid) (tlids county)
  pub turns_none : r.turned ≡ []
