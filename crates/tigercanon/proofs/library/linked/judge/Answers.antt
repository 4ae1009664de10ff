use Rattle.tigercanon.proofs.Common.{Device, err_from_is_err_and}
use Rattle.tigercanon.proofs.library.linked.judge.Goals as goal

pub returns-clause-accepted : goal.returns-clause-accepted
returns-clause-accepted g c = λ parts says.
    let set = c.in_ok-admitted_county.ensures.view parts (c.in_ok-linked.ensures.linked parts says) in (set.records, set.accepted)

pub returns-in_err-admitted_county-clause-refused : goal.returns-in_err-admitted_county-clause-refused
returns-in_err-admitted_county-clause-refused g c parts says =
    let p = err_from_is_err_and c.from_residual-in_err-admitted_county.result c.from_residual-in_err-admitted_county.ensures.1 in
    let refused = c.in_err-admitted_county.ensures.refused parts (c.in_ok-linked.ensures.linked parts says) in
    rw (p.1, p.2) (refused.0, refused.1 Device)
