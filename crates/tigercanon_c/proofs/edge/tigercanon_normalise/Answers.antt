use Rattle.tigercanon.specs.Sets.{IsOneCanonicalTextInView}
use Rattle.tigercanon.specs.Normalising.{IsOnlyTextInView}
use Rattle.std.proofs.Common.{List, inr, subst, sym, ℕ, ◌∙◌}
use Rattle.county_chart.specs.MaskedCounty.{masked}
use Rattle.tigercanon_c.specs.Answers.{bytes_of_lent, mask_of}
use Rattle.tigercanon_c.proofs.edge.tigercanon_normalise.Goals as goal

pub returns-in-Ok-clause-only : goal.returns-in-Ok-clause-only
returns-in-Ok-clause-only c = λ zero.
    subst (λ (text : List ℕ). IsOnlyTextInView (masked (mask_of c.args.no_sources c.args.no_reserved)) (bytes_of_lent c.args.parts.now) text)
    (sym c.answer_text.ensures.text)
    (subst (λ mask. IsOnlyTextInView (masked mask) (bytes_of_lent c.args.parts.now) c.in-Ok.bytes.now) c.mask_of-mask.ensures
    c.in-Ok.ensures.only)

pub returns-in-Ok-clause-again : goal.returns-in-Ok-clause-again
returns-in-Ok-clause-again c = λ bytes is zero. c.answer_text.ensures.text ∙ c.in-Ok.ensures.again bytes
    (subst (λ mask. IsOneCanonicalTextInView (masked mask) (bytes_of_lent c.args.parts.now) bytes) (sym c.mask_of-mask.ensures) is)

pub returns-in-Err-clause-again_succeeds : goal.returns-in-Err-clause-again_succeeds
returns-in-Err-clause-again_succeeds c = λ bytes is. inr (c.report.ensures.memory (c.in-Err.ensures.again_succeeds bytes
    (subst (λ mask. IsOneCanonicalTextInView (masked mask) (bytes_of_lent c.args.parts.now) bytes) (sym c.mask_of-mask.ensures) is)))
