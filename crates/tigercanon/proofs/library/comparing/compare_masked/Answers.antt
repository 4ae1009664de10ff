use Rattle.tigercanon.proofs.Common.{err_from_is_err_and, refl}
use Rattle.tigercanon.proofs.Reported.{one_refused, one_succeeds}
use Rattle.tigercanon.proofs.library.comparing.compare_masked.Goals as goal

pub returns-in_err-found-clause-refused : goal.returns-in_err-found-clause-refused
returns-in_err-found-clause-refused c =
    let p = err_from_is_err_and c.from_residual.result c.from_residual.ensures.1 in
    rw (p.1, p.2) (one_refused _ _ c.in_err-found.field-0.0 (c.in_err-found.ensures.refused _ _ refl refl))

pub returns-in_err-found-clause-succeeds : goal.returns-in_err-found-clause-succeeds
returns-in_err-found-clause-succeeds c =
    let p = err_from_is_err_and c.from_residual.result c.from_residual.ensures.1 in
    rw (p.1, p.2) (one_succeeds _ _ c.in_err-found.field-0.0 (c.in_err-found.ensures.refused _ _ refl refl))
