use Rattle.tl_layout.proofs.Common.{IfSome, Option, Some, ap, chunk, drop_blanks, false, get_or, ne_eqb, number_after, refl, subst, sym, ℕ, ◌∙◌, ◌∷◌, ◌≡◌}
use Rattle.tl_layout.proofs.CoordinateSteps.{two_and_eight}
use Rattle.tl_layout.specs.NumberField.{is_blank}
use Rattle.tl_layout.specs.NumberReading.{number_of}
use Rattle.tl_layout.proofs.number.usual_number.Goals as goal

pub returns-then-field-eq32-2 : goal.returns-then-field-eq32-2
unfolding number_of
returns-then-field-eq32-2 c =
    let field = c.args.field.now in
    let blanks : drop_blanks field ≡ drop_blanks (chunk 2 8 field) =
    ap drop_blanks (two_and_eight field c.in-10.is) ∙ rw (c.if-field-eq32.true, c.if-field-eq32-2.true) refl in
    let P : Option ℕ → Type 0 = λ found. IfSome c.right_justified-then-field-eq32-2.result (λ number. found ≡ Some number) in
    subst P (ap (number_after 0) (sym blanks)) c.right_justified-then-field-eq32-2.ensures

pub returns-else-field-eq32-2 : goal.returns-else-field-eq32-2
unfolding number_of
returns-else-field-eq32-2 c =
    let field = c.args.field.now in
    let digit : is_blank (get_or field 1 0) ≡ false = ne_eqb (get_or field 1 0) 32 c.if-field-eq32-2.false in
    let blank : drop_blanks field ≡ get_or field 1 0 ∷ chunk 2 8 field =
    ap drop_blanks (two_and_eight field c.in-10.is) ∙ rw (c.if-field-eq32.true, digit) refl in
    let P : Option ℕ → Type 0 = λ found. IfSome c.nine_digits.result (λ number. found ≡ Some number) in
    subst P (ap (number_after 0) (sym blank)) c.nine_digits.ensures.value
