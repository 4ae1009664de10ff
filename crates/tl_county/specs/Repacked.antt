-- Lists of records that differ only in things that aren't part of the map: the packing of types 2 and 4, and the RTSQs.
use Rattle.std.specs.Prelude.{IsPermutation, IsTrue, List, [], ℕ, ◌++◌, ◌<◌, ◌∷◌, ◌≡◌, ◌⊎◌}
use Rattle.std.specs.List.{AllByRecursion}
use Rattle.std.specs.Ordering.{nat_cmp}
use Rattle.tl_layout.specs.declared.record_type.Record.TheVariants.{Four, Six, Two}
use Rattle.tl_layout.specs.ByType.{of_number, of_type_2, of_type_4}
use Rattle.tl_layout.specs.Fields.{Fields2, Fields4}
use Rattle.tl_layout.specs.declared.record_type.Record.{Record}
use Rattle.county_chart.specs.County.{four_rtsq, four_tlid, two_rtsq, two_tlid}
use Rattle.county_chart.specs.LinkRules.{rtsqs}
use Rattle.county_chart.specs.declared.fault.SequencedType.{SequencedType}
use Rattle.ordered_lists.specs.Orders.{contains}
use Rattle.county_chart.specs.declared.fault.SequencedType.TheVariants as sequenced

-- A record of a chain is cut into two: it holds the items of the first and then the items of the second, the first keeps its RTSQ, the
-- second has a later one, and no other record of the chain has an RTSQ from the first to the second.
pub record IsCut {X Y : Type 0} (tlid rtsq : X → ℕ) (held : X → List Y) (others : List X) (whole first second : X) : Type 0 where
  pub first_chain : tlid first ≡ tlid whole
  pub second_chain : tlid second ≡ tlid whole
  pub kept : rtsq first ≡ rtsq whole
  pub later : rtsq first < rtsq second
  pub joined : held whole ≡ held first ++ held second
  pub free : AllByRecursion (λ other. (rtsq other < rtsq first) ⊎ (rtsq second < rtsq other)) (of_number tlid (tlid whole) others)

-- a type 2 record is cut into two of type 2, or a type 4 record into two of type 4, among these other records
abbrev pub AreCut : List Record → Record → Record → Record → Type 0
AreCut others (Two whole) first second = (a : Fields2) × (b : Fields2) × (first ≡ Two a) × (second ≡ Two b)
    × IsCut two_tlid two_rtsq (λ r. r.points) (of_type_2 others) whole a b
AreCut others (Four whole) first second = (a : Fields4) × (b : Fields4) × (first ≡ Four a) × (second ≡ Four b)
    × IsCut four_tlid four_rtsq (λ r. r.feats) (of_type_4 others) whole a b
AreCut others _ first second = ⊥

-- One record of type 2 or 4 is replaced by the two that it is cut into. The order of records has no meaning.
pub record IsSplit (records split : List Record) : Type 0 where
  pub others : List Record
  pub whole : Record
  pub first : Record
  pub second : Record
  pub cut : AreCut others whole first second
  pub before : IsPermutation (whole ∷ others) records
  pub after : IsPermutation (first ∷ second ∷ others) split

-- a record of type 2 or 4 that holds nothing
abbrev pub IsEmpty : Record → Type 0
IsEmpty (Two r) = r.points ≡ []
IsEmpty (Four r) = r.feats ≡ []
IsEmpty _ = ⊥

-- one record of type 2 or 4 that holds nothing is left out
pub record LeavesEmptyOut (records others : List Record) : Type 0 where
  pub empty : Record
  pub is_empty : IsEmpty empty
  pub before : IsPermutation (empty ∷ others) records

-- a new RTSQ for each old one of a chain in a record type
abbrev pub Sequence : Type 0
Sequence = SequencedType → ℕ → ℕ → ℕ

-- the record with its new RTSQ
abbrev pub resequenced : Sequence → Record → Record
resequenced sequence (Two r) = Two (record r { rtsq = sequence sequenced.Two r.tlid r.rtsq })
resequenced sequence (Four r) = Four (record r { rtsq = sequence sequenced.Four r.tlid r.rtsq })
resequenced sequence (Six r) = Six (record r { rtsq = sequence sequenced.Six r.tlid r.rtsq })
resequenced sequence other = other

-- the new RTSQs of a chain's records of a type have the order of the old ones
abbrev pub KeepsSequence : Sequence → List Record → Type 0
KeepsSequence sequence records = (rtype : SequencedType) (tlid old later : ℕ)
    → IsTrue (contains nat_cmp old (rtsqs rtype tlid records)) → IsTrue (contains nat_cmp later (rtsqs rtype tlid records))
    → old < later → sequence rtype tlid old < sequence rtype tlid later
