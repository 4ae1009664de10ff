-- The loader's steps, for a loader of a list of records.
use Rattle.tl_load.proofs.Common.{Closes, Ends, Err, FieldKind, IsErr, IsNotDevice, IsWithoutLineFeed, JudgesAs, LeavesRest, LineFault, List, LoadFault, Loaded, Ok, OnOk, PlacedLine, ReadsPart, Record, Result, Takes, TakesLines, [], after_verdict, ap, append-nil, append_assoc, arith, common_steps, flat_map-append, inl, inr, judged, length, length-append, length-map, lines, lines_from_part, longest_line, map, map-append, next_place, refl, rules, subst, sym, to_end, without_return, ℕ, ◌++◌, ◌+◌, ◌<◌, ◌then_with◌, ◌∙◌, ◌∷◌, ◌≡◌, ◌≤◌}
use Rattle.tl_load.proofs.LineLemmas.{first_line_of, lines_line, lines_none, lines_rest, without_return_front}
use Rattle.tl_load.proofs.Reading.{outcome_after-append}
use Rattle.tl_load.proofs.Runs.{lines_after, numbered_lines-append}
use Rattle.tl_load.proofs.Settled.{judged_long, judged_settles}
use Rattle.tl_load.specs.Choice.{tiger}
use Rattle.tl_load.specs.Lines.{last_line}
use Rattle.tl_load.specs.Loaded.{with_line_feeds}
use Rattle.tl_load.specs.Outcome.{next, outcome_after}
use Rattle.tl_load.specs.Places.{numbered_lines}
use Rattle.tl_load.specs.Steps.{to_come}
use Rattle.tl_load.specs.Verdicts.{fault_at, field_fault_at}
use Rattle.tl_layout.specs.declared.fault.FieldKind.TheVariants as kinds
use Rattle.tl_load.specs.declared.fault.LineFault.TheVariants as line_faults

-- ---- bytes that were taken

-- taking bytes doesn't change the final result
pub takes_comes : (before after : Loaded) (bytes more : List ℕ) (later : List (List ℕ)) → TakesLines before bytes after
    → to_come before (bytes ++ more) later ≡ to_come after more later
unfolding to_come
takes_comes before after bytes more later t =
    let tail = lines_from_part (before.parts + 1 + 1) later in
    let rest = lines (after.unfinished ++ more) in
    let there = numbered_lines (before.parts + 1) (before.judged + 1) (map without_return t.ended) in
    let split : before.unfinished ++ (bytes ++ more) ≡ with_line_feeds t.ended ++ (after.unfinished ++ more) =
    search (rules, append_assoc) in
    let cut : lines (before.unfinished ++ (bytes ++ more)) ≡ map without_return t.ended ++ rest = search (rules, lines_after) in
    let place : before.judged + 1 + length (map without_return t.ended) ≡ after.judged + 1 = search (rules, length-map) in
    let parts : before.parts ≡ after.parts = sym t.parts_are in
    let limit : before.limit ≡ after.limit = sym t.limit_is in
    ap (λ (ls : List (List ℕ)). outcome_after tiger before.limit before.records
    (numbered_lines (before.parts + 1) (before.judged + 1) ls ++ tail)) cut
    ∙ ap (λ (ls : List PlacedLine). outcome_after tiger before.limit before.records (ls ++ tail))
    (numbered_lines-append (before.parts + 1) (before.judged + 1) (map without_return t.ended) rest)
    ∙ ap (outcome_after tiger before.limit before.records)
    (append_assoc there (numbered_lines (before.parts + 1) (before.judged + 1 + length (map without_return t.ended)) rest) tail)
    ∙ outcome_after-append tiger before.limit before.records there
    (numbered_lines (before.parts + 1) (before.judged + 1 + length (map without_return t.ended)) rest ++ tail)
    ∙ ap (λ (r : Result (List Record) LoadFault). r then_with λ records. outcome_after tiger before.limit records
    (numbered_lines (before.parts + 1) (before.judged + 1 + length (map without_return t.ended)) rest ++ tail)) t.reads
    ∙ ap (λ (k : ℕ). outcome_after tiger before.limit after.records (numbered_lines (before.parts + 1) k rest ++ tail)) place
    ∙ ap (λ (k : ℕ). outcome_after tiger before.limit after.records
    (numbered_lines (k + 1) (after.judged + 1) rest ++ lines_from_part (k + 1 + 1) later)) parts
    ∙ ap (λ (k : ℕ). outcome_after tiger k after.records
    (numbered_lines (after.parts + 1) (after.judged + 1) rest ++ lines_from_part (after.parts + 1 + 1) later)) limit

pub takes_none : (l : Loaded) → IsWithoutLineFeed l.unfinished → TakesLines l [] l
unfolding numbered_lines outcome_after
takes_none l none = search (rules, append-nil)

-- further bytes of an unfinished line
pub holds_more : (before after : Loaded) (bytes : List ℕ) → after.records ≡ before.records → after.parts ≡ before.parts
    → after.judged ≡ before.judged → after.limit ≡ before.limit → after.unfinished ≡ before.unfinished ++ bytes
    → IsWithoutLineFeed before.unfinished → IsWithoutLineFeed bytes → TakesLines before bytes after
unfolding numbered_lines outcome_after
holds_more before after bytes records parts judged limit unfinished none more = record {
  ended = [];
  lines_are = grind (arith, common_steps);
  reads = ap (λ (rs : List Record). Ok rs) (sym records);
  judged_are = omega (arith, judged);
  parts_are = parts;
  limit_is = limit;
}

pub takes_both : (before mid after : Loaded) (a b : List ℕ) → TakesLines before a mid → TakesLines mid b after
    → TakesLines before (a ++ b) after
takes_both before mid after a b p q =
    let first = map without_return p.ended in
    let second = map without_return q.ended in
    let place : before.judged + 1 + length first ≡ mid.judged + 1 = omega (arith, length-map p.ended without_return, p.judged_are) in
    record {
      ended = p.ended ++ q.ended;
      lines_are = grind (arith, common_steps, append_assoc, flat_map-append);
      reads = ap (λ (ls : List (List ℕ)). outcome_after tiger before.limit before.records
          (numbered_lines (before.parts + 1) (before.judged + 1) ls))
          (map-append without_return p.ended q.ended)
          ∙ ap (outcome_after tiger before.limit before.records) (numbered_lines-append (before.parts + 1) (before.judged + 1) first second)
          ∙ outcome_after-append tiger before.limit before.records (numbered_lines (before.parts + 1) (before.judged + 1) first)
          (numbered_lines (before.parts + 1) (before.judged + 1 + length first) second)
          ∙ ap (λ (r : Result (List Record) LoadFault). r then_with λ records. outcome_after tiger before.limit records
          (numbered_lines (before.parts + 1) (before.judged + 1 + length first) second)) p.reads
          ∙ ap (λ (k : ℕ). outcome_after tiger before.limit mid.records (numbered_lines (before.parts + 1) k second)) place
          ∙ ap (λ (k : ℕ). outcome_after tiger before.limit mid.records (numbered_lines (k + 1) (mid.judged + 1) second)) (sym p.parts_are)
          ∙ ap (λ (k : ℕ). outcome_after tiger k mid.records (numbered_lines (mid.parts + 1) (mid.judged + 1) second)) (sym p.limit_is)
          ∙ q.reads;
      judged_are = omega (arith, p.judged_are, q.judged_are, length-append p.ended q.ended);
      parts_are = q.parts_are ∙ p.parts_are;
      limit_is = q.limit_is ∙ p.limit_is;
    }

pub takes_then : {T : Type 0} (before mid after : Loaded) (a b : List ℕ) (result : Result T LoadFault) → TakesLines before a mid
    → Takes b mid result after → Takes (a ++ b) before result after
takes_then before mid after a b (Ok y) p q = takes_both before mid after a b p q
takes_then before mid after a b (Err f) p q = λ is more later. ap (λ (l : List ℕ). to_come before l later) (append_assoc a b more)
    ∙ takes_comes before mid a (b ++ more) later p ∙ q is more later

pub fault_then : (T U : Type 0) (before mid after : Loaded) (a b : List ℕ) (f : LoadFault) → Takes {T = T} a before (Err f) mid
    → Takes {T = U} (a ++ b) before (Err f) after
fault_then T U before mid after a b f p is more later = search (rules, append_assoc)

-- ---- one line

field_place : (part line column : ℕ) (kind : FieldKind) → IsNotDevice (field_fault_at part line column kind)
field_place part line column kinds.BadNumber = tt
field_place part line column kinds.BadPoint = tt
field_place part line column kinds.GapInRecord = tt

at_place : (part line : ℕ) (fault : LineFault) → IsNotDevice (fault_at part line fault)
unfolding fault_at
at_place part line line_faults.UnknownType = tt
at_place part line line_faults.LineTooLong = tt
at_place part line (line_faults.BadByte column) = tt
at_place part line (line_faults.Field fault) = field_place part line fault.column fault.kind

pub place_not_device : (part line : ℕ) (fault : LineFault) (reported : LoadFault) → reported ≡ fault_at part line fault → IsNotDevice reported
place_not_device part line fault reported is = subst IsNotDevice (sym is) (at_place part line fault)

-- fields that a step hasn't changed before it judges a line
pub record IsBefore (mid before : Loaded) : Type 0 where
  pub records : mid.records ≡ before.records
  pub parts : mid.parts ≡ before.parts
  pub judged : mid.judged ≡ before.judged
  pub limit : mid.limit ≡ before.limit

-- the next line is judged, and then the lines after it
reading_line : (l : Loaded) (line : List ℕ) (more : List (List ℕ)) (tail : List PlacedLine)
    → outcome_after tiger l.limit l.records (numbered_lines (l.parts + 1) (l.judged + 1) (line ∷ more) ++ tail)
    ≡ (after_verdict tiger l.limit l.records (next_place l line) (judged line) then_with λ records. outcome_after tiger l.limit records
    (numbered_lines (l.parts + 1) (l.judged + 1 + 1) more ++ tail))
unfolding numbered_lines outcome_after next tiger
reading_line l line more tail = refl

verdict_before : (mid before : Loaded) (line : List ℕ) → IsBefore mid before
    → after_verdict tiger mid.limit mid.records (next_place mid line) (judged line) ≡ after_verdict tiger before.limit before.records
    (next_place before line) (judged line)
verdict_before mid before line same = let a = same.records in let b = same.parts in let c = same.judged in let d = same.limit in cc

one_line : (l : Loaded) (line : List ℕ) → outcome_after tiger l.limit l.records (numbered_lines (l.parts + 1) (l.judged + 1) (line ∷ []))
    ≡ (after_verdict tiger l.limit l.records (next_place l line) (judged line) then_with λ records. Ok records)
unfolding numbered_lines outcome_after next tiger
one_line l line = refl

-- the bytes before an LF make a line, together with the bytes kept before them
pub ends_line : {T : Type 0} (before mid after : Loaded) (bytes line : List ℕ) (result : Result T LoadFault) → IsBefore mid before
    → line ≡ without_return (before.unfinished ++ bytes) → IsWithoutLineFeed (before.unfinished ++ bytes)
    → JudgesAs line (judged line) mid result after → OnOk result (after.judged ≡ mid.judged + 1) → after.unfinished ≡ [] → after.parts ≡ mid.parts
    → after.limit ≡ mid.limit → Takes (bytes ++ 10 ∷ []) before result after
unfolding to_come
ends_line before mid after bytes line (Ok x) same is none judges count empty parts limit =
    let whole = before.unfinished ++ bytes in
    record {
      ended = whole ∷ [];
      lines_are = search (rules, append_assoc, append-nil);
      reads = one_line before (without_return whole)
          ∙ ap (λ (l : List ℕ). after_verdict tiger before.limit before.records (next_place before l) (judged l) then_with λ records. Ok records)
          (sym is)
          ∙ ap (λ (r : Result (List Record) LoadFault). r then_with λ records. Ok records) (sym (verdict_before mid before line same) ∙ judges);
      judged_are = omega (arith, same.judged, count);
      parts_are = parts ∙ same.parts;
      limit_is = limit ∙ same.limit;
    }
ends_line before mid after bytes line (Err f) same is none judges count empty parts limit = λ of_lines more later.
    let whole = before.unfinished ++ bytes in
    let joined : before.unfinished ++ ((bytes ++ 10 ∷ []) ++ more) ≡ whole ++ 10 ∷ more = simp append_assoc in
    let step : after_verdict tiger before.limit before.records (next_place before (without_return whole))
    (judged (without_return whole)) ≡ Err f =
    ap (λ (l : List ℕ). after_verdict tiger before.limit before.records (next_place before l) (judged l)) (sym is)
    ∙ sym (verdict_before mid before line same) ∙ judges of_lines in
    ap (λ (l : List ℕ). outcome_after tiger before.limit before.records
    (numbered_lines (before.parts + 1) (before.judged + 1) (lines l) ++ lines_from_part (before.parts + 1 + 1) later)) joined
    ∙ ap (λ (l : List (List ℕ)). outcome_after tiger before.limit before.records
    (numbered_lines (before.parts + 1) (before.judged + 1) l ++ lines_from_part (before.parts + 1 + 1) later)) (lines_line whole more none)
    ∙ reading_line before (without_return whole) (lines more) (lines_from_part (before.parts + 1 + 1) later)
    ∙ ap (λ (r : Result (List Record) LoadFault). r then_with λ records. outcome_after tiger before.limit records
    (numbered_lines (before.parts + 1) (before.judged + 1 + 1) (lines more) ++ lines_from_part (before.parts + 1 + 1) later)) step

-- ---- a line that is too long, whatever follows

err_of : (r : Result Record LineFault) → IsErr r → (fault : LineFault) × (r ≡ Err fault)
err_of (Ok x) h = absurd cc
err_of (Err f) h = (f, refl)

-- the final result is the fault of the first line, if the line's beginning determines it
long_line : (before : Loaded) (bytes line : List ℕ) (c : ℕ) (z : List ℕ) (fault : LineFault) → before.unfinished ++ bytes ≡ line ++ c ∷ z
    → longest_line < length line → IsWithoutLineFeed (before.unfinished ++ bytes)
    → judged line ≡ Err fault → (more : List ℕ) (later : List (List ℕ))
    → to_come before (bytes ++ more) later ≡ Err (fault_at (before.parts + 1) (before.judged + 1) fault)
unfolding to_come
long_line before bytes line c z fault split long none e more later =
    let u = before.unfinished in
    let whole = u ++ bytes in
    let begins = first_line_of whole more (omega (arith, ap length split, length-append line (c ∷ z))) none in
    let front = without_return_front line c (z ++ begins.more) in
    let regroup : whole ++ begins.more ≡ line ++ c ∷ (z ++ begins.more) = search (rules, append_assoc) in
    let first : lines (u ++ (bytes ++ more)) ≡ (line ++ front.0) ∷ begins.rest = search (rules, append_assoc) in
    let settled : judged (line ++ front.0) ≡ Err fault = judged_settles line front.0 long ∙ e in
    ap (λ (l : List (List ℕ)). outcome_after tiger before.limit before.records
    (numbered_lines (before.parts + 1) (before.judged + 1) l ++ lines_from_part (before.parts + 1 + 1) later)) first
    ∙ reading_line before (line ++ front.0) begins.rest (lines_from_part (before.parts + 1 + 1) later)
    ∙ ap (λ (v : Result Record LineFault). after_verdict tiger before.limit before.records
    (next_place before (line ++ front.0)) v then_with λ records. outcome_after tiger before.limit records
    (numbered_lines (before.parts + 1) (before.judged + 1 + 1) begins.rest ++ lines_from_part (before.parts + 1 + 1) later)) settled

pub refuses : {T : Type 0} (before mid after : Loaded) (bytes line rest : List ℕ) (result : Result T LoadFault) → IsBefore mid before
    → before.unfinished ++ bytes ≡ line ++ rest → 0 < length rest → longest_line < length line
    → IsWithoutLineFeed (before.unfinished ++ bytes) → OnOk result (length line ≤ longest_line) → JudgesAs line (judged line) mid result after
    → Takes bytes before result after
refuses before mid after bytes line [] result same split some long none short judges = absurd (omega arith)
refuses before mid after bytes line (c ∷ z) (Ok x) same split some long none short judges = absurd (omega arith)
refuses before mid after bytes line (c ∷ z) (Err f) same split some long none short judges = λ is more later.
    let fault = err_of (judged line) (judged_long line long) in
    let reported = judges is in
    let at_place : after_verdict tiger mid.limit mid.records (next_place mid line) (judged line) ≡ Err
    (fault_at (mid.parts + 1) (mid.judged + 1) fault.0) =
    ap (after_verdict tiger mid.limit mid.records (next_place mid line)) fault.1 in
    let a = same.parts in let b = same.judged in
    long_line before bytes line c z fault.0 split long none fault.1 more later ∙ cc

-- ---- pieces

pub leaves_all : (l : Loaded) (bytes : List ℕ) → IsWithoutLineFeed l.unfinished → LeavesRest l bytes bytes l
leaves_all l bytes none = record { taken = []; bytes_are = refl; takes = takes_none l none }

pub leaves_after : (before mid after : Loaded) (bytes rest line left : List ℕ) → LeavesRest before bytes rest mid → rest ≡ line ++ 10 ∷ left
    → TakesLines mid (line ++ 10 ∷ []) after → LeavesRest before bytes left after
leaves_after before mid after bytes rest line left p split q = record {
  taken = p.taken ++ (line ++ 10 ∷ []);
  bytes_are = p.bytes_are ∙ ap (λ (l : List ℕ). p.taken ++ l) split ∙ simp append_assoc;
  takes = takes_both before mid after p.taken (line ++ 10 ∷ []) p.takes q;
}

pub leaves_taken : {T : Type 0} (before mid after : Loaded) (bytes rest : List ℕ) (result : Result T LoadFault)
    → LeavesRest before bytes rest mid → Takes rest mid result after → Takes bytes before result after
leaves_taken before mid after bytes rest (Ok x) p q = search (rules, takes_both)
leaves_taken before mid after bytes rest (Err f) p q = λ is more later.
    ap (λ (l : List ℕ). to_come before l later) (ap (λ (l : List ℕ). l ++ more) p.bytes_are ∙ append_assoc p.taken rest more)
    ∙ takes_comes before mid p.taken (rest ++ more) later p.takes ∙ q is more later

pub leaves_fault : (T : Type 0) (before mid after : Loaded) (bytes rest line left : List ℕ) (f : LoadFault)
    → LeavesRest before bytes rest mid → rest ≡ line ++ 10 ∷ left → Takes {T = T} (line ++ 10 ∷ []) mid (Err f) after
    → Takes {T = T} bytes before (Err f) after
leaves_fault T before mid after bytes rest line left f p split q =
    let same : rest ≡ (line ++ 10 ∷ []) ++ left = split ∙ simp append_assoc in
    leaves_taken {T = T} before mid after bytes rest (Err f) p
    (subst (λ (l : List ℕ). Takes {T = T} l mid (Err f) after) (sym same) (fault_then T T mid after after (line ++ 10 ∷ []) left f q))

-- ---- the end of a part

-- no bytes were kept, so the part has no more lines
pub ends_empty : (before after : Loaded) → before.unfinished ≡ [] → after.records ≡ before.records → to_end before ≡ Ok after.records
unfolding numbered_lines outcome_after
ends_empty before after none same =
    ap (λ (l : List ℕ). outcome_after tiger before.limit before.records (numbered_lines (before.parts + 1) (before.judged + 1) (lines l)))
    none
    ∙ ap (λ (l : List (List ℕ)). outcome_after tiger before.limit before.records (numbered_lines (before.parts + 1) (before.judged + 1) l))
    lines_none
    ∙ ap (λ (r : List Record). Ok r) (sym same)

last_of : (a : List ℕ) → 0 < length a → last_line a ≡ without_return a ∷ []
unfolding last_line
last_of [] h = absurd (omega arith)
last_of (b ∷ a) h = refl

pub ends_part : {T : Type 0} (before mid after : Loaded) (line : List ℕ) (result : Result T LoadFault) → IsBefore mid before
    → 0 < length before.unfinished → IsWithoutLineFeed before.unfinished → line ≡ without_return before.unfinished
    → JudgesAs line (judged line) mid result after → Ends before result after
ends_part {T} before mid after line result same some none is judges = go result judges
  where
    first : to_end before ≡ (after_verdict tiger mid.limit mid.records (next_place mid line) (judged line) then_with λ records. Ok records)
    first =
        ap (λ (l : List (List ℕ)). outcome_after tiger before.limit before.records
        (numbered_lines (before.parts + 1) (before.judged + 1) l))
        (lines_rest before.unfinished none ∙ last_of before.unfinished some ∙ ap (λ (l : List ℕ). l ∷ []) (sym is))
        ∙ one_line before line
        ∙ ap (λ (r : Result (List Record) LoadFault). r then_with λ records. Ok records) (sym (verdict_before mid before line same))

    go : (r : Result T LoadFault) → JudgesAs line (judged line) mid r after → Ends before r after
    go (Ok x) j = first ∙ ap (λ (r : Result (List Record) LoadFault). r then_with λ records. Ok records) j
    go (Err f) j = λ is_of. first ∙ ap (λ (r : Result (List Record) LoadFault). r then_with λ records. Ok records) (j is_of)

-- the final result if the open part ends here
pub comes_at_end : (l : Loaded) (later : List (List ℕ))
    → to_come l [] later ≡ (to_end l then_with λ records. outcome_after tiger l.limit records (lines_from_part (l.parts + 1 + 1) later))
unfolding to_come
comes_at_end l later =
    ap (λ (b : List ℕ). outcome_after tiger l.limit l.records
    (numbered_lines (l.parts + 1) (l.judged + 1) (lines b) ++ lines_from_part (l.parts + 1 + 1) later)) (append-nil l.unfinished)
    ∙ outcome_after-append tiger l.limit l.records (numbered_lines (l.parts + 1) (l.judged + 1) (lines l.unfinished))
    (lines_from_part (l.parts + 1 + 1) later)

pub closed_comes : (T : Type 0) (before after : Loaded) (f : LoadFault) (later : List (List ℕ)) → to_end before ≡ Err f
    → to_come before [] later ≡ Err f
closed_comes T before after f later e = comes_at_end before later
    ∙ ap (λ (r : Result (List Record) LoadFault). r then_with λ records. outcome_after tiger before.limit records
    (lines_from_part (before.parts + 1 + 1) later)) e

-- ---- parts that are read

pub reads_closed : {T : Type 0} (a b c : Loaded) (taken : List ℕ) (at_end : Type 0) (result : Result T LoadFault) → TakesLines a taken b
    → Closes b result c → at_end → ReadsPart taken at_end a result c
reads_closed a b c taken at_end (Ok x) p q e = (e, record { at_end = b; takes = p; closes = q })
reads_closed {T} a b c taken at_end (Err f) p q e = λ is. inl (
  e,
  λ later.
      ap (λ (l : List ℕ). to_come a l later) (sym (append-nil taken)) ∙ takes_comes a b taken [] later p
      ∙ closed_comes T b c f later (q is),
)

pub reads_fault : (T : Type 0) (a b c : Loaded) (taken bytes : List ℕ) (at_end : Type 0) (f : LoadFault) → TakesLines a taken b
    → Takes {T = T} bytes b (Err f) c → ReadsPart {T = T} (taken ++ bytes) at_end a (Err f) c
reads_fault T a b c taken bytes at_end f p q = λ is. inr (λ more later.
    ap (λ (l : List ℕ). to_come a l later) (append_assoc taken bytes more) ∙ takes_comes a b taken (bytes ++ more) later p
    ∙ q is more later)
