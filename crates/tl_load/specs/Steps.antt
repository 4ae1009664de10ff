-- What the loader's internal steps do to its value.
use Rattle.std.specs.Prelude.{Err, IfErr, List, MatchResult, Ok, OnOk, Result, Some, [], length, map, ℕ, ◌++◌, ◌+◌, ◌≡◌, ◌≤◌, ◌⊎◌}
use Rattle.tl_layout.specs.Bytes.{longest_line}
use Rattle.tl_layout.specs.declared.record_type.Record.{Record}
use Rattle.tl_load.specs.Choice.{tiger}
use Rattle.tl_load.specs.Keeping.{IsSamePart, Lifts, LoadedInto, total}
use Rattle.tl_load.specs.Lines.{lines, most_unfinished, without_return}
use Rattle.tl_load.specs.Loaded.{AreLines, IsNotDevice, IsOfLines, Loaded}
use Rattle.tl_load.specs.Outcome.{after_verdict, outcome_after, with_record}
use Rattle.tl_load.specs.Places.{PlacedLine, lines_from_part, numbered_lines}
use Rattle.tl_load.specs.declared.fault.LineFault.{LineFault}
use Rattle.tl_load.specs.declared.fault.LoadFault.{LoadFault}

-- the final result for the loader's value if these bytes follow in its open part, and then these parts
unfoldable pub to_come : Loaded → List ℕ → List (List ℕ) → Result (List Record) LoadFault
to_come l more later =
    outcome_after tiger l.limit l.records (numbered_lines (l.parts + 1) (l.judged + 1) (lines (l.unfinished ++ more)) ++ lines_from_part
    (l.parts + 1 + 1) later)

-- the bytes were taken: the lines that they ended are judged, and the bytes after the last LF are kept
pub record TakesLines (before : Loaded) (bytes : List ℕ) (after : Loaded) : Type 0 where
  pub ended : List (List ℕ)
  pub lines_are : AreLines (before.unfinished ++ bytes) ended after.unfinished
  pub reads : outcome_after tiger before.limit before.records
      (numbered_lines (before.parts + 1) (before.judged + 1) (map without_return ended)) ≡ Ok after.records
  pub judged_are : after.judged ≡ before.judged + length ended
  pub parts_are : after.parts ≡ before.parts
  pub limit_is : after.limit ≡ before.limit

-- a step took the bytes, or its fault is the final result whatever follows the bytes
abbrev pub Takes : {T : Type 0} → List ℕ → Loaded → Result T LoadFault → Loaded → Type 0
Takes bytes before result after = MatchResult result
    (λ _. TakesLines before bytes after)
    (λ f. IsOfLines f → (more : List ℕ) (later : List (List ℕ)) → to_come before (bytes ++ more) later ≡ Err f)

-- a prefix of the bytes was taken, and the rest is left
pub record LeavesRest (before : Loaded) (bytes rest : List ℕ) (after : Loaded) : Type 0 where
  pub taken : List ℕ
  pub bytes_are : bytes ≡ taken ++ rest
  pub takes : TakesLines before taken after

-- the same as a step that was `Ok`
abbrev pub LeavesRestOnOk : {T : Type 0} → List ℕ → List ℕ → Loaded → Result T LoadFault → Loaded → Type 0
LeavesRestOnOk bytes rest before _ after = LeavesRest before bytes rest after

-- the place of the line that is judged next, if it has these bytes
abbrev pub next_place : Loaded → List ℕ → PlacedLine
next_place l bytes = record { part = l.parts + 1; line = l.judged + 1; bytes = bytes }

-- a step judged a line with this verdict: the records after it, or its fault
abbrev pub JudgesAs : {T : Type 0} → List ℕ → Result Record LineFault → Loaded → Result T LoadFault → Loaded → Type 0
JudgesAs line verdict before result after = MatchResult result
    (λ _. after_verdict tiger before.limit before.records (next_place before line) verdict ≡ Ok after.records)
    (λ f. IsOfLines f → after_verdict tiger before.limit before.records (next_place before line) verdict ≡ Err f)

-- A step judged a line with this verdict. It kept and counted the record of a line that isn't longer than any layout, or its fault
-- isn't one of a device. The open part is otherwise as it was.
pub record JudgesLine {K T : Type 0} (holds : K → List Record → Type 0) (line : List ℕ) (verdict : Result Record LineFault)
    (before : LoadedInto K) (result : Result T LoadFault) (after : LoadedInto K) : Type 0 where
  pub judges : Lifts holds (JudgesAs line verdict) before result after
  pub short : OnOk result (length line ≤ longest_line)
  pub judged : OnOk result (after.judged ≡ before.judged + 1)
  pub one_more : OnOk result (total after.counts ≡ total before.counts + 1)
  pub same_part : IsSamePart before after
  pub unfinished : after.unfinished ≡ before.unfinished
  pub no_device : IfErr result IsNotDevice

-- a step added the record: it is now the last one, or there are too many
abbrev pub Adds : {T : Type 0} → Record → Loaded → Result T LoadFault → Loaded → Type 0
Adds added before result after = MatchResult result
    (λ _. with_record tiger before.limit before.records added ≡ Ok after.records)
    (λ f. IsOfLines f → with_record tiger before.limit before.records added ≡ Err f)

-- the records after the remaining bytes of the open part, or the fault of its last line
abbrev pub to_end : Loaded → Result (List Record) LoadFault
to_end l = outcome_after tiger l.limit l.records (numbered_lines (l.parts + 1) (l.judged + 1) (lines l.unfinished))

-- the open part ended, and its last line was judged
abbrev pub Ends : {T : Type 0} → Loaded → Result T LoadFault → Loaded → Type 0
Ends before result after = MatchResult result (λ _. to_end before ≡ Ok after.records) (λ f. IsOfLines f → to_end before ≡ Err f)

-- the open part ended, and the next one is open
pub record IsPartClosed (before after : Loaded) : Type 0 where
  pub reads : to_end before ≡ Ok after.records
  pub parts_are : after.parts ≡ before.parts + 1
  pub none_judged : after.judged ≡ 0
  pub none_kept : after.unfinished ≡ []
  pub limit_is : after.limit ≡ before.limit

abbrev pub Closes : {T : Type 0} → Loaded → Result T LoadFault → Loaded → Type 0
Closes before result after = MatchResult result (λ _. IsPartClosed before after) (λ f. IsOfLines f → to_end before ≡ Err f)

-- bytes were fed into the open part, and it was closed
pub record ReadsAll (before : Loaded) (taken : List ℕ) (after : Loaded) : Type 0 where
  pub at_end : Loaded
  pub takes : TakesLines before taken at_end
  pub closes : IsPartClosed at_end after

-- bytes were fed into the open part: it was read to its end and is closed, or a fault occurred
abbrev pub ReadsPart : {T : Type 0} → List ℕ → Type 0 → Loaded → Result T LoadFault → Loaded → Type 0
ReadsPart taken at_end before result after = MatchResult result
    (λ _. at_end × ReadsAll before taken after)
    (λ f. IsOfLines f → (at_end × ((later : List (List ℕ)) → to_come before taken later ≡ Err f))
    ⊎ ((more : List ℕ) (later : List (List ℕ)) → to_come before (taken ++ more) later ≡ Err f))

-- a loader takes these bytes without a fault, and then has fewer than 230 bytes of an unfinished line
pub record TakesWell {K : Type 0} (holds : K → List Record → Type 0) (before : LoadedInto K) (taken : List ℕ) : Type 0 where
  pub after : LoadedInto K
  pub takes : Lifts {T = Unit {0}} holds (Takes taken) before (Ok tt) after
  pub short : length after.unfinished ≤ most_unfinished

-- the loader, with the fault of a step, if any, recorded from then on
abbrev pub with_fault : {K T : Type 0} → Result T LoadFault → LoadedInto K → LoadedInto K
with_fault (Ok _) l = l
with_fault (Err f) l = record l { fault = Some f }
