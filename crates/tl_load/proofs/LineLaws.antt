-- A line is judged as the record that it spells.
use Rattle.tl_load.proofs.Common.{Bool, Err, FieldFault, IsFaultIn, IsLine, IsLineOf, LineFault, List, Ok, Result, [], ap, arith, cond, fails_before_first, false, filled, get_or, is_allowed, le-ltb, length, lt-ltb, ltb, ltb-false, ltb-true, not, not-false, not-true, not_from_true, passes_at_first, position_or_len_is, refl, rules, take, true, ℕ, ◌+◌, ◌<◌, ◌↔◌, ◌∙◌, ◌∷◌, ◌≡◌, ◌≤◌}
use Rattle.tl_load.proofs.Filling.{begins_filled, length_filled}
use Rattle.tl_layout.specs.Bytes.{AreAllowed}
use Rattle.tl_load.specs.LineOf.{IsLeftmostBadByte, first_bad, judged_as, judged_full, of_reading}
use Rattle.tl_load.specs.declared.fault.LineFault.TheVariants as line_faults

-- what a layout promises about its reading and the lines that spell its records
pub record Reading {R : Type 0} (rtype len : ℕ) (reading : List ℕ → Result R FieldFault) (Spells : List ℕ → R → Type 0) : Type 0 where
  pub found : (line : List ℕ) (r : R) → IsLine rtype len line → reading line ≡ Ok r → Spells line r
  pub only : (line : List ℕ) (r : R) → IsLine rtype len line → Spells line r → reading line ≡ Ok r

-- what a layout promises about its reading and the faults of lines
abbrev pub ReportsFaults : {R : Type 0} → ℕ → ℕ → (List ℕ → Result R FieldFault) → (List ℕ → FieldFault → Type 0) → Type 0
ReportsFaults rtype len reading IsFault = (line : List ℕ) (fault : FieldFault) → IsLine rtype len line
    → (reading line ≡ Err fault ↔ IsFault line fault)

chosen : {A : Type 0} (b : Bool) (x : LineFault) (y : Result A LineFault) (r : A) → cond b (Err x) y ≡ Ok r → (b ≡ false) × (y ≡ Ok r)
chosen true x y r e = absurd cc
chosen false x y r e = (refl, e)

was_read : {R : Type 0} (read : Result R FieldFault) (r : R) → of_reading read ≡ Ok r → read ≡ Ok r
was_read (Ok x) r e = let same : x ≡ r = cc in ap (λ (z : _). Ok z) same
was_read (Err f) r e = absurd cc

none_bad : (line : List ℕ) → ltb (first_bad line) (length line) ≡ false → AreAllowed line
unfolding AreAllowed
none_bad line e k d lt = search (rules, ltb-false, not-false, fails_before_first)

pub bad_none : (line : List ℕ) → AreAllowed line → ltb (first_bad line) (length line) ≡ false
unfolding AreAllowed
bad_none line h =
    let at_end = position_or_len_is (λ b. not (is_allowed b)) line (length line) 0 (omega arith) (λ k lt. not_from_true _ (h k 0 lt))
    (λ lt. absurd (omega arith)) in
    le-ltb _ _ (omega arith)

full_line : (rtype len : ℕ) (line : List ℕ) → take 1 line ≡ rtype ∷ [] → length line ≤ len → AreAllowed (filled len line)
    → IsLine rtype len (filled len line)
full_line rtype len line begins short allowed = search (rules, begins_filled, length_filled)

pub judged_is_line : {R : Type 0} (rtype len : ℕ) (reading : List ℕ → Result R FieldFault) (Spells : List ℕ → R → Type 0)
    → Reading rtype len reading Spells → (line : List ℕ) (r : R) → take 1 line ≡ rtype ∷ [] → judged_as len reading line ≡ Ok r
    → IsLineOf rtype len Spells line r
unfolding judged_as judged_full
judged_is_line rtype len reading Spells laws line r begins e =
    let a = chosen (ltb len (length line)) line_faults.LineTooLong (judged_full reading (filled len line)) r e in
    let b = chosen (ltb (first_bad (filled len line)) (length (filled len line))) (line_faults.BadByte (first_bad (filled len line) + 1))
    (of_reading (reading (filled len line))) r a.1 in
    let short : length line ≤ len = ltb-false _ _ a.0 in
    let allowed = none_bad (filled len line) b.0 in
    record {
      begins = begins;
      short = short;
      allowed = allowed;
      spells =
          laws.found (filled len line) r (full_line rtype len line begins short allowed) (was_read _ r b.1);
    }

pub line_is_judged : {R : Type 0} (rtype len : ℕ) (reading : List ℕ → Result R FieldFault) (Spells : List ℕ → R → Type 0)
    → Reading rtype len reading Spells → (line : List ℕ) (r : R) → IsLineOf rtype len Spells line r → judged_as len reading line ≡ Ok r
unfolding judged_as judged_full
line_is_judged rtype len reading Spells laws line r h =
    let read = laws.only (filled len line) r (full_line rtype len line h.begins h.short h.allowed) h.spells in
    ap (λ (b : Bool). cond b (Err line_faults.LineTooLong) (judged_full reading (filled len line))) (le-ltb len (length line) h.short)
    ∙ ap (λ (b : Bool). cond b (Err (line_faults.BadByte (first_bad (filled len line) + 1))) (of_reading (reading (filled len line))))
    (bad_none (filled len line) h.allowed)
    ∙ ap of_reading read

-- a line spells only records that fit
pub line_fits : {R : Type 0} (rtype len : ℕ) (Spells : List ℕ → R → Type 0) (Fits : R → Type 0)
    → ((line : List ℕ) (r : R) → IsLine rtype len line → Spells line r → Fits r) → (line : List ℕ) (r : R)
    → IsLineOf rtype len Spells line r → Fits r
line_fits rtype len Spells Fits fits line r h = fits (filled len line) r (full_line rtype len line h.begins h.short h.allowed) h.spells

-- ---- faults

bad_is : (bytes : List ℕ) → first_bad bytes < length bytes → is_allowed (get_or bytes (first_bad bytes) 0) ≡ false
bad_is bytes lt = not-true (is_allowed (get_or bytes (first_bad bytes) 0)) (passes_at_first (λ b. not (is_allowed b)) bytes 0 lt)

-- the first bad byte is the leftmost one
bad_found : (bytes : List ℕ) → first_bad bytes < length bytes → IsLeftmostBadByte bytes (first_bad bytes + 1)
bad_found bytes lt = search (rules, bad_is, not-false, fails_before_first)

bad_only : (bytes : List ℕ) (column : ℕ) (h : IsLeftmostBadByte bytes column) → first_bad bytes ≡ h.place
bad_only bytes column h = search (rules, position_or_len_is, not_from_true)

line_err : {A : Type 0} (x y : LineFault) → ◌≡◌ {A = Result A LineFault} (Err x) (Err y) → x ≡ y
line_err x y e = cc

read_fails : {R : Type 0} (len : ℕ) (IsFault : List ℕ → FieldFault → Type 0) (line : List ℕ) (read : Result R FieldFault)
    (fault : LineFault) → length line ≤ len → AreAllowed (filled len line)
    → ((f : FieldFault) → read ≡ Err f → IsFault (filled len line) f) → of_reading read ≡ Err fault → IsFaultIn len IsFault line fault
read_fails len IsFault line (Ok r) fault short allowed found e = absurd cc
read_fails {R} len IsFault line (Err f) fault short allowed found e = search (rules, line_err, found)

-- the fault that a line of a layout is judged to have is its fault
pub judged_fault_found : {R : Type 0} (rtype len : ℕ) (reading : List ℕ → Result R FieldFault) (IsFault : List ℕ → FieldFault → Type 0)
    → ReportsFaults rtype len reading IsFault → (line : List ℕ) (fault : LineFault) → take 1 line ≡ rtype ∷ []
    → judged_as len reading line ≡ Err fault → IsFaultIn len IsFault line fault
unfolding judged_as judged_full
judged_fault_found {R} rtype len reading IsFault reports line fault begins =
    search (rules, line_err, bad_found, ltb-true, none_bad, read_fails, full_line, ltb-false)

-- a line of a layout is judged to have the fault that it has
pub judged_fault_only : {R : Type 0} (rtype len : ℕ) (reading : List ℕ → Result R FieldFault) (IsFault : List ℕ → FieldFault → Type 0)
    → ReportsFaults rtype len reading IsFault → (line : List ℕ) (fault : LineFault) → take 1 line ≡ rtype ∷ []
    → IsFaultIn len IsFault line fault → judged_as len reading line ≡ Err fault
unfolding judged_as judged_full
judged_fault_only rtype len reading IsFault reports line line_faults.UnknownType begins h = absurd h
judged_fault_only rtype len reading IsFault reports line line_faults.LineTooLong begins h = search (rules, lt-ltb)
judged_fault_only rtype len reading IsFault reports line (line_faults.BadByte column) begins h =
    let place = bad_only (filled len line) column h.1 in
    let within = h.1.within in
    let reported = h.1.reported in
    let same : first_bad (filled len line) + 1 ≡ column = omega arith in
    ap (λ (b : Bool). cond b (Err line_faults.LineTooLong) (judged_full reading (filled len line))) (le-ltb len (length line) h.0)
    ∙ ap (λ (b : Bool). cond b (Err (line_faults.BadByte (first_bad (filled len line) + 1))) (of_reading (reading (filled len line))))
    (lt-ltb (first_bad (filled len line)) (length (filled len line)) (omega arith))
    ∙ ap (λ (c : ℕ). Err (line_faults.BadByte c)) same
judged_fault_only rtype len reading IsFault reports line (line_faults.Field fault) begins h = search (rules, full_line, le-ltb, bad_none)

-- a line that has a record isn't longer than its layout
pub judged_short : {R : Type 0} (len : ℕ) (reading : List ℕ → Result R FieldFault) (line : List ℕ) (r : R)
    → judged_as len reading line ≡ Ok r → length line ≤ len
unfolding judged_as
judged_short len reading line r e = search (rules, ltb-false, chosen)
