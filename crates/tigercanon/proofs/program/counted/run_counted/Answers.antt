use Rattle.tigercanon.proofs.Common.{IfErr-at_err, ap, arith, status_of_outcome, sym, ◌∙◌}
use Rattle.tigercanon.proofs.Refused.{device, different, done, no_device_reported, status_is_one, unreported, why}
use Rattle.tigercanon.proofs.program.counted.run_counted.Goals as goal

pub returns-clause-statuses : goal.returns-clause-statuses
returns-clause-statuses g c = rw c.report_outcome.ensures.status (status_is_one c.do_counted-outcome.result)

pub returns-clause-done : goal.returns-clause-done
returns-clause-done g c = λ zero.
    let o = c.do_counted-outcome in
    let is = sym c.report_outcome.ensures.status ∙ zero in
    done _ _ _ _ _ o.result (o.ensures.did (λ missing. absurd (omega (arith, is, ap status_of_outcome (o.ensures.missing missing))))) is

pub returns-clause-different : goal.returns-clause-different
returns-clause-different g c = λ one.
    let o = c.do_counted-outcome in
    let is = sym c.report_outcome.ensures.status ∙ one in
    different _ _ _ _ _ o.result (o.ensures.did (λ missing. absurd (omega (arith, is, ap status_of_outcome (o.ensures.missing missing))))) is

pub returns-clause-reported : goal.returns-clause-reported
returns-clause-reported g c = λ above none.
    why _ _ _ _ _ c.do_counted-outcome.result c.report_outcome.result _ (c.do_counted-outcome.ensures.did none) c.report_outcome.ensures.status
    c.report_outcome.ensures.reported above

pub returns-clause-unreported : goal.returns-clause-unreported
returns-clause-unreported g c = λ most.
    let is = c.report_outcome.ensures.status in
    unreported c.do_counted-outcome.result c.report_outcome.ensures.unreported (omega (arith, is, most))

pub returns-clause-device : goal.returns-clause-device
returns-clause-device g c = λ four none.
    device _ _ _ _ _ _ _ (returns-clause-reported g c (omega (arith, four)) none) four

pub returns-clause-no_device : goal.returns-clause-no_device
returns-clause-no_device g c = λ other.
    c.do_counted-outcome.ensures.no_device
    (no_device_reported c.do_counted-outcome.result (λ four. other (c.report_outcome.ensures.status ∙ four)))

pub returns-clause-missing : goal.returns-clause-missing
returns-clause-missing g c = λ missing.
    c.report_outcome.ensures.status ∙ ap status_of_outcome (c.do_counted-outcome.ensures.missing missing)

pub returns-clause-missing_reported : goal.returns-clause-missing_reported
returns-clause-missing_reported g c = λ missing.
    IfErr-at_err _ (c.do_counted-outcome.ensures.missing missing) c.report_outcome.ensures.reported
