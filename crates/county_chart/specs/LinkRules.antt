-- The ten rules for records that fit together. The definition of each, by counts over the whole list, gives the places that break
-- it.
use Rattle.std.specs.Prelude.{Bool, List, [], false, flat_map, map, nat_lt, not, ℕ, ◌&&◌, ◌++◌, ◌∷◌, ◌≡◌}
use Rattle.std.specs.Ordering.{nat_cmp}
use Rattle.tl_layout.specs.RecordTypes.{Type1, Type2, Type4, Type5, Type6, Type7, Type8, TypeI, TypeP, of_type}
use Rattle.tl_layout.specs.ByType.{of_number}
use Rattle.tl_layout.specs.declared.record_type.Record.{Record}
use Rattle.county_chart.specs.declared.fault.LinkFault.TheVariants.{ChainTwice, LandUnknown, LinkMissing, LinkTwice, Memory, NameTwice, NameUnknown, NoChain, PolygonTwice, PolygonUnknown, SequenceBroken}
use Rattle.county_chart.specs.declared.fault.LinkedType.TheVariants.{Four, I, Six, Two}
use Rattle.county_chart.specs.County.{link_key, p_key, side_keys}
use Rattle.county_chart.specs.FirstOf.{IsFirst}
use Rattle.county_chart.specs.LinkedTypes.{linked_type}
use Rattle.county_chart.specs.PolygonKeys.{key_cmp}
use Rattle.county_chart.specs.declared.fault.LinkFault.{LinkFault}
use Rattle.county_chart.specs.declared.fault.LinkedType.{LinkedType}
use Rattle.county_chart.specs.declared.fault.SequencedType.{SequencedType}
use Rattle.ordered_lists.specs.Orders.{contains, has_repeat, times}
use Rattle.county_chart.specs.declared.fault.SequencedType.TheVariants as sequenced

-- the TLIDs of the type 1 records
abbrev pub chain_tlids : List Record → List ℕ
chain_tlids records = map (λ r. r.tlid) (of_type Type1 records)

-- the TLIDs of the records of a type that belong to chains
abbrev pub linked_tlids : LinkedType → List Record → List ℕ
linked_tlids Two records = map (λ r. r.tlid) (of_type Type2 records)
linked_tlids Four records = map (λ r. r.tlid) (of_type Type4 records)
linked_tlids Six records = map (λ r. r.tlid) (of_type Type6 records)
linked_tlids I records = map (λ r. r.tlid) (of_type TypeI records)

-- the RTSQs of a chain's records of a type
abbrev pub rtsqs : SequencedType → ℕ → List Record → List ℕ
rtsqs sequenced.Two tlid records = map (λ r. r.rtsq) (of_number (λ r. r.tlid) tlid (of_type Type2 records))
rtsqs sequenced.Four tlid records = map (λ r. r.rtsq) (of_number (λ r. r.tlid) tlid (of_type Type4 records))
rtsqs sequenced.Six tlid records = map (λ r. r.rtsq) (of_number (λ r. r.tlid) tlid (of_type Type6 records))

-- the FEATs that a chain's type 4 records name
abbrev pub named_feats : ℕ → List Record → List ℕ
named_feats tlid records = flat_map (λ r. r.feats) (of_number (λ r. r.tlid) tlid (of_type Type4 records))

-- whether a rule is broken at a place
abbrev pub is_rule_broken : List Record → LinkFault → Bool
is_rule_broken records (ChainTwice tlid) = nat_lt 1 (times nat_cmp tlid (chain_tlids records))
is_rule_broken records (NoChain rtype tlid) =
    contains nat_cmp tlid (linked_tlids rtype records) && not (contains nat_cmp tlid (chain_tlids records))
is_rule_broken records (SequenceBroken rtype tlid) = has_repeat nat_cmp (rtsqs rtype tlid records)
is_rule_broken records (LinkMissing tlid) =
    contains nat_cmp tlid (chain_tlids records) && not (contains nat_cmp tlid (map (λ r. r.tlid) (of_type TypeI records)))
is_rule_broken records (LinkTwice tlid) = nat_lt 1 (times nat_cmp tlid (map (λ r. r.tlid) (of_type TypeI records)))
is_rule_broken records (NameTwice feat) = nat_lt 1 (times nat_cmp feat (map (λ r. r.feat) (of_type Type5 records)))
is_rule_broken records (NameUnknown tlid feat) =
    contains nat_cmp feat (named_feats tlid records) && not (contains nat_cmp feat (map (λ r. r.feat) (of_type Type5 records)))
is_rule_broken records (PolygonTwice cenid polyid) = nat_lt 1 (times key_cmp (cenid, polyid) (map p_key (of_type TypeP records)))
is_rule_broken records (LandUnknown land) =
    contains nat_cmp land (map (λ r. r.land) (of_type Type8 records)) && not
    (contains nat_cmp land (map (λ r. r.land) (of_type Type7 records)))
is_rule_broken records (PolygonUnknown cenid polyid) =
    contains key_cmp (cenid, polyid) (map link_key (of_type Type8 records)) && not
    (contains key_cmp (cenid, polyid) (flat_map side_keys (of_type TypeI records) ++ map p_key (of_type TypeP records)))
is_rule_broken records Memory = false

-- the place of a record type among the four: 2, 4 and 6 before I
abbrev pub type_place : LinkedType → ℕ
type_place Two = 2
type_place Four = 4
type_place Six = 6
type_place I = 7

-- the rule's number, and then the place: the type, the TLID, the FEAT; or the CENID's bytes, the POLYID
abbrev pub link_fault_place : LinkFault → List (List ℕ)
link_fault_place (ChainTwice tlid) = (11 ∷ []) ∷ (tlid ∷ []) ∷ []
link_fault_place (NoChain rtype tlid) = (12 ∷ []) ∷ (type_place rtype ∷ []) ∷ (tlid ∷ []) ∷ []
link_fault_place (SequenceBroken rtype tlid) = (13 ∷ []) ∷ (type_place (linked_type rtype) ∷ []) ∷ (tlid ∷ []) ∷ []
link_fault_place (LinkMissing tlid) = (14 ∷ []) ∷ (tlid ∷ []) ∷ []
link_fault_place (LinkTwice tlid) = (15 ∷ []) ∷ (tlid ∷ []) ∷ []
link_fault_place (NameTwice feat) = (16 ∷ []) ∷ (feat ∷ []) ∷ []
link_fault_place (NameUnknown tlid feat) = (17 ∷ []) ∷ (tlid ∷ []) ∷ (feat ∷ []) ∷ []
link_fault_place (PolygonTwice cenid polyid) = (18 ∷ []) ∷ cenid ∷ (polyid ∷ []) ∷ []
link_fault_place (LandUnknown land) = (19 ∷ []) ∷ (land ∷ []) ∷ []
link_fault_place (PolygonUnknown cenid polyid) = (20 ∷ []) ∷ cenid ∷ (polyid ∷ []) ∷ []
link_fault_place Memory = (9 ∷ []) ∷ []

-- no rule is broken anywhere
abbrev pub IsLinked : List Record → Type 0
IsLinked records = (fault : LinkFault) → is_rule_broken records fault ≡ false

-- this rule is broken at this place, no rule with a lesser number is broken, and this rule at no lesser place
abbrev pub IsFirstBrokenRule : List Record → LinkFault → Type 0
IsFirstBrokenRule records = IsFirst (is_rule_broken records) link_fault_place
