use Rattle.tigercanon.proofs.Common.{IfOk-at_ok, err_from_is_err_and, masked, masked_view, refl}
use Rattle.tigercanon.proofs.Reported.{accepted_wants_memory}
use Rattle.tigercanon.proofs.Sets.{only_text}
use Rattle.tigercanon.proofs.library.normalising.normalise_with_renaming_masked.Goals as goal

pub returns-clause-canonical : goal.returns-clause-canonical
returns-clause-canonical c = (IfOk-at_ok _ c.in_ok-answer.was (c.in_ok-made.ensures.made _ refl)).0

pub returns-clause-only : goal.returns-clause-only
returns-clause-only c = only_text (masked c.args.mask) (masked_view c.args.mask) _ _ (returns-clause-canonical c)

pub returns-clause-carries : goal.returns-clause-carries
returns-clause-carries c = (IfOk-at_ok _ c.in_ok-answer.was (c.in_ok-made.ensures.made _ refl)).1

pub returns-in_err-made-clause-refused : goal.returns-in_err-made-clause-refused
returns-in_err-made-clause-refused c =
    let p = err_from_is_err_and c.from_residual.result c.from_residual.ensures.1 in rw (p.1, p.2) (c.in_err-made.ensures.refused _ refl).0

pub returns-in_err-made-clause-succeeds : goal.returns-in_err-made-clause-succeeds
returns-in_err-made-clause-succeeds c = λ records accepted.
    let p = err_from_is_err_and c.from_residual.result c.from_residual.ensures.1 in
    rw (p.1, p.2) (accepted_wants_memory _ records accepted c.in_err-made.field-0.0 (c.in_err-made.ensures.refused _ refl))
