use Rattle.tigercanon.specs.Sets.{IsOneCanonicalTextInView}
use Rattle.tigercanon.specs.Normalising.{IsOnlyTextInView}
use Rattle.std.proofs.Common.{ap, subst, sym, ◌∙◌}
use Rattle.tigercanon.specs.LentParts.{bytes_of_parts}
use Rattle.county_chart.specs.MaskedCounty.{masked}
use Rattle.tigercanon_c.proofs.calls.normalise_parts.Goals as goal

pub returns-in-Ok-clause-only : goal.returns-in-Ok-clause-only
returns-in-Ok-clause-only c =
    subst (λ parts. IsOnlyTextInView (masked c.args.mask) parts c.handed_out.result.now)
    (ap bytes_of_parts c.as_slice.ensures.value ∙ c.in_ok-slices.ensures)
    (subst (λ text. IsOnlyTextInView (masked c.args.mask) (bytes_of_parts c.as_slice.result.now) text) (sym c.handed_out.ensures)
    c.in-Ok.ensures.only)

pub returns-in-Ok-clause-again : goal.returns-in-Ok-clause-again
returns-in-Ok-clause-again c = λ bytes is. c.handed_out.ensures ∙ c.in-Ok.ensures.again bytes
    (subst (λ parts. IsOneCanonicalTextInView (masked c.args.mask) parts bytes)
    (sym (ap bytes_of_parts c.as_slice.ensures.value ∙ c.in_ok-slices.ensures)) is)

pub returns-clause-again_succeeds : goal.returns-clause-again_succeeds
returns-clause-again_succeeds c = λ bytes is. c.in-Err.ensures.again_succeeds bytes
    (subst (λ parts. IsOneCanonicalTextInView (masked c.args.mask) parts bytes)
    (sym (ap bytes_of_parts c.as_slice.ensures.value ∙ c.in_ok-slices.ensures)) is)
