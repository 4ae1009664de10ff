use Rattle.tigercanon.proofs.Common.{Err, ap, err_from_is_err_and}
use Rattle.tigercanon.proofs.program.counted.do_counted.Goals as goal

pub returns-in_err-refuse_missing-clause-did : goal.returns-in_err-refuse_missing-clause-did
returns-in_err-refuse_missing-clause-did g c = λ none.
    absurd (none (rw (c.lacks_counted_file.ensures, c.lacks_counted_file-2.ensures) at c.in_err-refuse_missing.ensures.missing.0))

pub returns-in_err-refuse_missing-clause-missing : goal.returns-in_err-refuse_missing-clause-missing
returns-in_err-refuse_missing-clause-missing g c = λ missing.
    let p = err_from_is_err_and c.from_residual.result c.from_residual.ensures.1 in
    rw (p.1, p.2) (ap Err (rw c.lacks_counted_file.ensures at c.in_err-refuse_missing.ensures.missing.1))

pub returns-clause-missing : goal.returns-clause-missing
returns-clause-missing g c = λ missing.
    let found = rw (c.lacks_counted_file.ensures, c.lacks_counted_file-2.ensures) at c.in_ok-refuse_missing.ensures.found in
    absurd (cc (missing, found))

pub returns-clause-missing_silent : goal.returns-clause-missing_silent
returns-clause-missing_silent g c = λ missing.
    let found = rw (c.lacks_counted_file.ensures, c.lacks_counted_file-2.ensures) at c.in_ok-refuse_missing.ensures.found in
    absurd (cc (missing, found))

pub do_job-requires-clause-first : goal.do_job-requires-clause-first
do_job-requires-clause-first g c = c.requires.first.below

pub do_job-requires-clause-second : goal.do_job-requires-clause-second
do_job-requires-clause-second g c = c.requires.second.below
