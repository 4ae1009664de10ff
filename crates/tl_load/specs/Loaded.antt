-- A loader in contracts, and what it was fed.
use Rattle.std.specs.Prelude.{All, Bool, Err, List, MatchOption, MatchResult, Ok, Option, Result, [], false, length, true, ℕ, ◌++◌, ◌∷◌, ◌≡◌, ◌≤◌, ◌⊎◌}
use Rattle.std.specs.List.{flat_map}
use Rattle.tl_layout.specs.declared.record_type.Record.{Record}
use Rattle.tl_load.specs.Choice.{tiger}
use Rattle.tl_load.specs.Lines.{IsWithoutLineFeed, most_unfinished}
use Rattle.tl_load.specs.Outcome.{FaultAt, SpellsWithin}
use Rattle.tl_load.specs.declared.fault.LoadFault.{LoadFault}
use Rattle.tl_load.specs.declared.fault.LoadFault.TheVariants as faults

-- the records so far, the number of closed parts, the number of judged lines in the open part, the bytes of its unfinished
-- line, the limit of records of one type, and the recorded fault, if any
pub record Loaded : Type 0 where
  pub records : List Record
  pub parts : ℕ
  pub judged : ℕ
  pub unfinished : List ℕ
  pub limit : ℕ
  pub fault : Option LoadFault

-- a fault of the lines, not of the device or of memory
abbrev pub IsOfLines : LoadFault → Type 0
IsOfLines faults.Device = ⊥
IsOfLines faults.Memory = ⊥
IsOfLines _ = Unit {0}

-- the fault of the closed parts and the open part, however the input continues
abbrev pub IsFaultHowever : ℕ → List (List ℕ) → List ℕ → LoadFault → Type 0
IsFaultHowever limit closed open_part fault = (more : List ℕ) (later : List (List ℕ))
    → FaultAt tiger limit (closed ++ (open_part ++ more) ∷ later) fault

-- the lines, each with LF at its end
abbrev pub with_line_feeds : List (List ℕ) → List ℕ
with_line_feeds lines = flat_map (λ line. line ++ 10 ∷ []) lines

-- the bytes are lines that ended with LF, and then bytes without one
pub record AreLines (bytes : List ℕ) (ended : List (List ℕ)) (unfinished : List ℕ) : Type 0 where
  pub bytes_are : bytes ≡ with_line_feeds ended ++ unfinished
  pub each_ended : All IsWithoutLineFeed ended
  pub not_ended : IsWithoutLineFeed unfinished

-- the loader has no recorded fault and was fed these closed parts and these bytes of the open part: it has the records of all
-- lines that have ended, and keeps the bytes of the unfinished line
pub record HasLoaded (limit : ℕ) (l : Loaded) (closed : List (List ℕ)) (open_part : List ℕ) : Type 0 where
  pub ended : List (List ℕ)
  pub lines_are : AreLines open_part ended l.unfinished
  pub parts_are : l.parts ≡ length closed
  pub judged_are : l.judged ≡ length ended
  pub accepts : SpellsWithin tiger limit (closed ++ with_line_feeds ended ∷ []) l.records

-- the loader was fed these closed parts and these bytes of the open part; if its recorded fault is one of the lines, it is the
-- fault of all of these, however they continue
pub record WasFed (limit : ℕ) (l : Loaded) (closed : List (List ℕ)) (open_part : List ℕ) : Type 0 where
  pub limit_is : l.limit ≡ limit
  pub comes : MatchOption l.fault (HasLoaded limit l closed open_part) (λ f. IsOfLines f → IsFaultHowever limit closed open_part f)

-- no line that has ended is faulty, and the unfinished one has fewer than 230 bytes
pub record IsWellSoFar (limit : ℕ) (closed : List (List ℕ)) (open_part : List ℕ) : Type 0 where
  pub ended : List (List ℕ)
  pub unfinished : List ℕ
  pub lines_are : AreLines open_part ended unfinished
  pub records : List Record
  pub accepts : SpellsWithin tiger limit (closed ++ with_line_feeds ended ∷ []) records
  pub short : length unfinished ≤ most_unfinished

-- after these bytes too, no line that has ended is faulty, and the unfinished one is short
abbrev pub IsWellAfter : {L : Type 0} → (ℕ → L → List (List ℕ) → List ℕ → Type 0) → L → List ℕ → Type 0
IsWellAfter Fed l bytes = (limit : ℕ) (closed : List (List ℕ)) (open_part : List ℕ) → Fed limit l closed open_part
    → IsWellSoFar limit closed (open_part ++ bytes)

-- all parts; the open part counts if bytes were fed into it
abbrev pub all_parts : List (List ℕ) → List ℕ → List (List ℕ)
all_parts closed [] = closed
all_parts closed (b ∷ bytes) = closed ++ (b ∷ bytes) ∷ []

-- not a fault of a device
abbrev pub IsNotDevice : LoadFault → Type 0
IsNotDevice faults.Device = ⊥
IsNotDevice _ = Unit {0}

-- a step was stopped by a fault of a device
abbrev pub is_device_fault : LoadFault → Bool
is_device_fault faults.Device = true
is_device_fault _ = false

abbrev pub is_device : {T : Type 0} → Result T LoadFault → Bool
is_device (Ok _) = false
is_device (Err f) = is_device_fault f

-- the bytes were fed into the loader's open part, which was closed after them or in which a fault occurred
abbrev pub FedPart : {L T : Type 0} → (ℕ → L → List (List ℕ) → List ℕ → Type 0) → L → List ℕ → Type 0 → Result T LoadFault → L → Type 0
FedPart Fed before taken at_end result after = (limit : ℕ) (closed : List (List ℕ)) (open_part : List ℕ) → Fed limit before closed open_part
    → MatchResult result
    (λ _. at_end × Fed limit after (closed ++ (open_part ++ taken) ∷ []) [])
    (λ _. (at_end × Fed limit after (closed ++ (open_part ++ taken) ∷ []) []) ⊎ Fed limit after closed (open_part ++ taken))
