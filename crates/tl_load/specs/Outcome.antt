-- Which records a set of parts spells, and which fault it has.
use Rattle.std.specs.Prelude.{Err, List, Ok, Result, [], count_by, if◌then◌else◌, nat_le, ℕ, ◌++◌, ◌==◌, ◌∷◌, ◌≡◌, ◌≤◌}
use Rattle.std.specs.List.{AllZip}
use Rattle.tl_load.specs.Places.{PlacedLine, placed_lines}
use Rattle.tl_load.specs.Verdicts.{Judge, fault_at}
use Rattle.tl_load.specs.declared.fault.LineFault.{LineFault}
use Rattle.tl_load.specs.declared.fault.LoadFault.{LoadFault}
use Rattle.tl_load.specs.declared.fault.LoadFault.TheVariants as faults

-- how many of the records have this type
abbrev pub count_of : {R : Type 0} → Judge R → ℕ → List R → ℕ
count_of judge rtype records = count_by (λ r. judge.rtype r == rtype) records

-- there are at most limit records of each type
abbrev pub IsWithinLimitBy : {R : Type 0} → Judge R → ℕ → List R → Type 0
IsWithinLimitBy judge limit records = (rtype : ℕ) → count_of judge rtype records ≤ limit

-- there are as many lines as records, and each line has its record
abbrev pub AreLinesSpelled : {R : Type 0} → Judge R → List PlacedLine → List R → Type 0
AreLinesSpelled judge lines records = AllZip (λ (line : PlacedLine) r. judge.Has line.bytes r) lines records

-- there are as many lines in the parts, part after part, as records, and each line has its record
abbrev pub Spells : {R : Type 0} → Judge R → List (List ℕ) → List R → Type 0
Spells judge parts records = AreLinesSpelled judge (placed_lines parts) records

-- the parts spell these records, with at most limit of each type
pub record SpellsWithin {R : Type 0} (judge : Judge R) (limit : ℕ) (parts : List (List ℕ)) (records : List R) : Type 0 where
  pub spells : Spells judge parts records
  pub within : IsWithinLimitBy judge limit records

-- the fault of a line after these records: its own fault, with its place, or there already are limit records of its record's
-- type
pub data IsFaultOf {R : Type 0} (judge : Judge R) (limit : ℕ) (records : List R) (line : PlacedLine) (fault : LoadFault) : Type 0 where
  of_line : (own : LineFault) → judge.IsFault line.bytes own → fault ≡ fault_at line.part line.line own
      → IsFaultOf judge limit records line fault
  of_limit : (r : R) → judge.Has line.bytes r → limit ≤ count_of judge (judge.rtype r) records
      → fault ≡ faults.TooManyRecords (judge.rtype r) → IsFaultOf judge limit records line fault

-- the fault of the parts: the fault of the first line that has one
pub record FaultAt {R : Type 0} (judge : Judge R) (limit : ℕ) (parts : List (List ℕ)) (fault : LoadFault) : Type 0 where
  pub before : List PlacedLine
  pub line : PlacedLine
  pub after : List PlacedLine
  pub records : List R
  pub split : placed_lines parts ≡ before ++ line ∷ after
  pub well : AreLinesSpelled judge before records
  pub within : IsWithinLimitBy judge limit records
  pub fault_is : IsFaultOf judge limit records line fault

-- the parts spell a list and have no fault
pub record IsSpelled {R : Type 0} (judge : Judge R) (limit : ℕ) (parts : List (List ℕ)) : Type 0 where
  pub records : List R
  pub accepts : SpellsWithin judge limit parts records
  pub only : (others : List R) → Spells judge parts others → others ≡ records
  pub none : (fault : LoadFault) → FaultAt judge limit parts fault → ⊥

-- the parts have exactly one fault and spell no list within the limit
pub record IsFaulty {R : Type 0} (judge : Judge R) (limit : ℕ) (parts : List (List ℕ)) : Type 0 where
  pub fault : LoadFault
  pub at : FaultAt judge limit parts fault
  pub only : (other : LoadFault) → FaultAt judge limit parts other → other ≡ fault
  pub none : (records : List R) → SpellsWithin judge limit parts records → ⊥

-- ---- the same by processing line after line

-- the result of one more step, or the fault that was found before it
infixl 10 ◌then_with◌
abbrev pub ◌then_with◌ : {A B : Type 0} → Result A LoadFault → (A → Result B LoadFault) → Result B LoadFault
(Ok x) then_with f = f x
(Err e) then_with f = Err e

-- the records and one more, or the fault that there already are limit of its type
abbrev pub with_record : {R : Type 0} → Judge R → ℕ → List R → R → Result (List R) LoadFault
with_record judge limit records r =
    if nat_le limit (count_of judge (judge.rtype r) records) then Err (faults.TooManyRecords (judge.rtype r)) else Ok (records ++ r ∷ [])

-- the records after a line with this verdict, or its fault
abbrev pub after_verdict : {R : Type 0} → Judge R → ℕ → List R → PlacedLine → Result R LineFault → Result (List R) LoadFault
after_verdict judge limit records line (Ok r) = with_record judge limit records r
after_verdict judge limit records line (Err f) = Err (fault_at line.part line.line f)

-- the records after one more line, or its fault
unfoldable pub next : {R : Type 0} → Judge R → ℕ → List R → PlacedLine → Result (List R) LoadFault
next judge limit records line = after_verdict judge limit records line (judge.verdict line.bytes)

-- the records after the lines, or the first fault
unfoldable pub outcome_after : {R : Type 0} → Judge R → ℕ → List R → List PlacedLine → Result (List R) LoadFault
outcome_after judge limit records [] = Ok records
outcome_after judge limit records (line ∷ lines) = next judge limit records line then_with λ more. outcome_after judge limit more lines

-- the result for all parts
abbrev pub outcome : {R : Type 0} → Judge R → ℕ → List (List ℕ) → Result (List R) LoadFault
outcome judge limit parts = outcome_after judge limit [] (placed_lines parts)
