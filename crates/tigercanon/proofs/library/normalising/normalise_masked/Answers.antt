use Rattle.tigercanon.proofs.CanonicalTexts.{again, one_text_accepted}
use Rattle.tigercanon.proofs.Common.{IfOk-at_ok, err_from_is_err_and, masked, masked_view, refl}
use Rattle.tigercanon.proofs.Sets.{only_text, text_as_it_is}
use Rattle.tigercanon.proofs.Reported.{accepted_wants_memory}
use Rattle.tigercanon.proofs.library.normalising.normalise_masked.Goals as goal

pub returns-clause-canonical : goal.returns-clause-canonical
returns-clause-canonical c = IfOk-at_ok _ c.in_ok-text.was (c.in_ok-made.ensures.made _ refl)

pub returns-clause-only : goal.returns-clause-only
returns-clause-only c = only_text (masked c.args.mask) (masked_view c.args.mask) _ _ (returns-clause-canonical c)

pub returns-clause-again : goal.returns-clause-again
returns-clause-again c = λ text one. again c.args.mask _ _ (returns-clause-canonical c) text one

pub returns-clause-plain : goal.returns-clause-plain
returns-clause-plain c = text_as_it_is (masked c.args.mask) (masked_view c.args.mask) _ _ (returns-clause-canonical c)

pub returns-in_err-made-clause-refused : goal.returns-in_err-made-clause-refused
returns-in_err-made-clause-refused c =
    let p = err_from_is_err_and c.from_residual.result c.from_residual.ensures.1 in rw (p.1, p.2) (c.in_err-made.ensures.refused _ refl).0

pub returns-in_err-made-clause-succeeds : goal.returns-in_err-made-clause-succeeds
returns-in_err-made-clause-succeeds c = λ records accepted.
    let p = err_from_is_err_and c.from_residual.result c.from_residual.ensures.1 in
    rw (p.1, p.2) (accepted_wants_memory _ records accepted c.in_err-made.field-0.0 (c.in_err-made.ensures.refused _ refl))

pub returns-in_err-made-clause-again_succeeds : goal.returns-in_err-made-clause-again_succeeds
returns-in_err-made-clause-again_succeeds c = λ text one.
    let p = err_from_is_err_and c.from_residual.result c.from_residual.ensures.1 in
    let set = one_text_accepted c.args.mask _ text one in
    rw (p.1, p.2) (accepted_wants_memory _ set.0 set.1 c.in_err-made.field-0.0 (c.in_err-made.ensures.refused _ refl))
