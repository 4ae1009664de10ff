-- A line of more than 228 bytes is rejected, whatever follows these bytes.
use Rattle.tl_load.proofs.Common.{Bool, Err, FieldFault, IsErr, LineFault, List, Record, Result, [], arith, as_record, cond, eqb, false, length, length-append, longest_line, lt-ltb, refl, rules, true, ℕ, ◌++◌, ◌<◌, ◌∷◌, ◌≡◌, ◌≤◌}
use Rattle.tl_load.specs.Choice.{judged, judged_by}
use Rattle.tl_load.specs.LineOf.{judged_as}
use Rattle.tl_load.specs.declared.fault.LineFault.TheVariants as line_faults

too_long : {R : Type 0} (len : ℕ) (reading : List ℕ → Result R FieldFault) (wrap : R → Record) (line : List ℕ) → len ≤ longest_line
    → longest_line < length line → as_record wrap (judged_as len reading line) ≡ Err line_faults.LineTooLong
unfolding judged_as
too_long len reading wrap line low long = search (rules, lt-ltb)

-- the fault of a line of more than 228 bytes, by its first byte and these types
abbrev long_among : List ℕ → ℕ → Result Record LineFault
long_among [] rtype = Err line_faults.UnknownType
long_among (t ∷ types) rtype = cond (eqb rtype t) (Err line_faults.LineTooLong) (long_among types rtype)

-- the nine types, by their first bytes
abbrev types : List ℕ
types = 49 ∷ 50 ∷ 52 ∷ 53 ∷ 54 ∷ 55 ∷ 56 ∷ 73 ∷ 80 ∷ []

long_fault : ℕ → Result Record LineFault
long_fault rtype = long_among types rtype

long_by : (rtype : ℕ) (line : List ℕ) → longest_line < length line → judged_by rtype line ≡ long_fault rtype
unfolding judged_by long_fault
long_by rtype line long = search (rules, too_long)

err_cond : (b : Bool) (x y : Result Record LineFault) → IsErr x → IsErr y → IsErr (cond b x y)
err_cond true x y p q = p
err_cond false x y p q = q

err_among : (types : List ℕ) (rtype : ℕ) → IsErr (long_among types rtype)
err_among [] rtype = refl
err_among (t ∷ types) rtype = err_cond (eqb rtype t) _ _ refl (err_among types rtype)

err_long : (rtype : ℕ) → IsErr (long_fault rtype)
unfolding long_fault
err_long rtype = err_among types rtype

is_err_along : (x y : Result Record LineFault) → x ≡ y → IsErr y → IsErr x
is_err_along x y e h = rw e h

pub judged_long : (line : List ℕ) → longest_line < length line → IsErr (judged line)
unfolding judged
judged_long [] long = absurd (omega arith)
judged_long (b ∷ line) long = is_err_along _ _ (long_by b (b ∷ line) long) (err_long b)

pub judged_settles : (line more : List ℕ) → longest_line < length line → judged (line ++ more) ≡ judged line
unfolding judged
judged_settles [] more long = absurd (omega arith)
judged_settles (b ∷ line) more long = search (rules, long_by, length-append)
