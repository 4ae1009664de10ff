use Rattle.tigercanon.proofs.Common.{err_from_is_err_and}
use Rattle.tigercanon.proofs.Reported.{memory_alone}
use Rattle.tigercanon.proofs.library.respelling.respell.Goals as goal

pub returns-in_err-text-clause-succeeds : goal.returns-in_err-text-clause-succeeds
returns-in_err-text-clause-succeeds c = λ records accepts.
    let p = err_from_is_err_and c.from_residual.result c.from_residual.ensures.1 in
    rw (p.1, p.2) (memory_alone _ records c.in_err-text.field-0.0 accepts c.in_err-text.ensures.faulty c.in_err-text.ensures.no_device)
