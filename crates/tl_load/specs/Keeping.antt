-- A loader over a collector: its fields, viewed together with the list of records that the collector holds.
use Rattle.std.specs.Prelude.{List, MatchOption, Ok, OnOk, Option, Result, [], length, slice_index, ℕ, ◌*◌, ◌++◌, ◌+◌, ◌-◌, ◌<◌, ◌^◌, ◌∷◌, ◌≡◌, ◌≤◌}
use Rattle.tl_layout.specs.RecordTypes.{Type1, Type2, Type4, Type5, Type6, Type7, Type8, TypeI, TypeP, byte_of}
use Rattle.tl_layout.specs.Limits.{most_records}
use Rattle.tl_layout.specs.declared.fault.FieldFault.{FieldFault}
use Rattle.tl_layout.specs.declared.record_type.Record.{Record}
use Rattle.tl_load.specs.Choice.{tiger}
use Rattle.tl_load.specs.Lines.{IsWithoutLineFeed, most_unfinished}
use Rattle.tl_load.specs.Loaded.{HasLoaded, IsFaultHowever, IsOfLines, Loaded}
use Rattle.tl_load.specs.Outcome.{count_of}
use Rattle.tl_load.specs.declared.fault.LoadFault.{LoadFault}

-- what was kept so far, how many records of each type (by the byte in column 1), the number of closed parts, the number of
-- judged lines in the open part, the bytes of its unfinished line, the limit of records of one type, and the recorded fault, if
-- any
pub record LoadedInto (K : Type 0) : Type 0 where
  pub kept : K
  pub counts : List ℕ
  pub parts : ℕ
  pub judged : ℕ
  pub unfinished : List ℕ
  pub limit : ℕ
  pub fault : Option LoadFault

-- the loader, if these records were kept
abbrev pub seen : {K : Type 0} → LoadedInto K → List Record → Loaded
seen l records = record {
  records = records;
  parts = l.parts;
  judged = l.judged;
  unfinished = l.unfinished;
  limit = l.limit;
  fault =
      l.fault;
}

-- the counts are the number of records of each type
abbrev pub AreCounted : List ℕ → List Record → Type 0
AreCounted counts records = (t : ℕ) → t < 128 → slice_index counts t ≡ count_of tiger t records

-- these records were kept and counted
pub record AreKept {K : Type 0} (holds : K → List Record → Type 0) (l : LoadedInto K) (records : List Record) : Type 0 where
  pub held : holds l.kept records
  pub counted : AreCounted l.counts records

-- the loader was fed these closed parts and these bytes of the open part, and their records were kept
pub record WasFedInto {K : Type 0} (holds : K → List Record → Type 0) (limit : ℕ) (l : LoadedInto K) (closed : List (List ℕ))
    (open_part : List ℕ) : Type 0 where
  pub limit_is : l.limit ≡ limit
  pub comes : MatchOption l.fault
      ((records : List Record) × AreKept holds l records × HasLoaded limit (seen l records) closed open_part)
      (λ f. IsOfLines f → IsFaultHowever limit closed open_part f)

-- some list of records was kept
abbrev pub HasSome : {K : Type 0} → (K → List Record → Type 0) → LoadedInto K → Type 0
HasSome holds l = (records : List Record) × AreKept holds l records

-- the number of records of all nine types
abbrev pub total : List ℕ → ℕ
total counts =
    slice_index counts (byte_of Type1) + slice_index counts (byte_of Type2) + slice_index counts (byte_of Type4) +
    slice_index counts (byte_of Type5) + slice_index counts (byte_of Type6) + slice_index counts (byte_of Type7) +
    slice_index counts (byte_of Type8) + slice_index counts (byte_of TypeI) + slice_index counts (byte_of TypeP)

-- an upper bound of the bytes that were fed, counting 230 for each judged line with its line ending
abbrev pub bytes_used : {K : Type 0} → LoadedInto K → ℕ
bytes_used l = 230 * total l.counts + length l.unfinished

-- the fields of a loader are consistent
pub record IsLoader (counts : List ℕ) (unfinished : List ℕ) (parts judged limit : ℕ) : Type 0 where
  pub counts_len : length counts ≡ 128
  pub within : (t : ℕ) → t < 128 → slice_index counts t ≤ limit
  pub judged_low : judged ≤ total counts
  pub limit_low : limit ≤ most_records
  pub no_feed : IsWithoutLineFeed unfinished
  pub short : length unfinished ≤ most_unfinished
  pub begun : 0 < length unfinished → parts < 2 ^ 64 - 1

-- fields that change only when a part ends or a fault is recorded
pub record IsSamePart {K : Type 0} (before after : LoadedInto K) : Type 0 where
  pub parts : after.parts ≡ before.parts
  pub limit : after.limit ≡ before.limit
  pub fault : after.fault ≡ before.fault

-- A step of loaders, for any list that was kept before it: there is a list after it for which the step holds, and if the step
-- was `Ok`, that list is kept.
abbrev pub Lifts : {K T : Type 0} → (K → List Record → Type 0) → (Loaded → Result T LoadFault → Loaded → Type 0) → LoadedInto K
    → Result T LoadFault → LoadedInto K → Type 0
Lifts holds Step before result after = (records : List Record) → AreKept holds before records
    → (more : List Record) × OnOk result (AreKept holds after more) × Step (seen before records) result (seen after more)

-- the record of a line was kept: the line is read as the record, and whatever was held before, the record follows it
pub record KeepsLine {K R : Type 0} (holds : K → List Record → Type 0) (reading : List ℕ → Result R FieldFault) (as_record : R → Record)
    (line : List ℕ) (before after : K) : Type 0 where
  pub found : R
  pub read : reading line ≡ Ok found
  pub held : (records : List Record) → holds before records → holds after (records ++ as_record found ∷ [])
