use Rattle.tigercanon.proofs.Common.{AreCounted, Err, IfErr-at_err, opened_of, refl}
use Rattle.tigercanon.proofs.FileSources.{known_of_files, sources_of, unopened_left}
use Rattle.tigercanon.proofs.GivenSets.{printed_to_itself, run_of}
use Rattle.tigercanon.proofs.Refused.{run_with}
use Rattle.tigercanon.specs.Files.{bytes_of}
use Rattle.tigercanon.specs.Outcomes.{ReportsLineTo}
use Rattle.tigercanon.specs.Refusals.{fault_line}
use Rattle.tigercanon.specs.Running.{IsMissingOne}
use Rattle.tigercanon.proofs.program.running.run_files.Goals as goal

pub returns-in-Ok-clause-ran : goal.returns-in-Ok-clause-ran
returns-in-Ok-clause-ran g c =
    let remaining = g.R.Read.remaining in
    let first : AreCounted c.deref_mut.result.now c.args.first.items = rw c.deref_mut.ensures.value c.in-Ok.ensures.opened.0 in
    let second : AreCounted c.deref_mut-in-Ok.result.now c.args.second.items = rw c.deref_mut-in-Ok.ensures.value c.in-Ok.ensures.opened.1 in
    let found : ¬ IsMissingOne c.args.job (opened_of c.deref_mut.result.now) (opened_of c.deref_mut-in-Ok.result.now) =
    rw (first.0, second.0) c.in-Ok.ensures.found in
    let ran = c.run_counted.ensures in
    run_of _ _ _ _
    (known_of_files (λ s. bytes_of remaining s.inner) (λ s. s.given) remaining c.args.first.items c.deref_mut.result.now
    c.run_counted.new.first (sources_of remaining _ _ first) c.args.job (λ s. s.failures) (λ s. s.reads))
    (known_of_files (λ s. bytes_of remaining s.inner) (λ s. s.given) remaining c.args.second.items c.deref_mut-in-Ok.result.now
    c.run_counted.new.second (sources_of remaining _ _ second) c.args.job (λ s. s.failures) (λ s. s.reads))
    c.args.mask c.args.job _ _ (printed_to_itself _) _ _ _ _ (λ line told. told) (λ none. none) c.run_counted.result
    (record {
      statuses = ran.statuses;
      done = ran.done;
      different = ran.different;
      stopped = λ above. ran.reported above found;
      silent = ran.unreported;
    })

pub returns-in-Err-clause-ran : goal.returns-in-Err-clause-ran
returns-in-Err-clause-ran g c =
    run_with c.args.mask c.args.job _ _ _ (Err c.in-Err.stopped) c.report_outcome.result _ _
    (unopened_left g.R.Read.remaining c.args.mask _ refl c.args.first.items c.args.second.items c.args.job c.in-Err.stopped
    c.in-Err.ensures.unopened)
    c.report_outcome.ensures.status c.report_outcome.ensures.reported c.report_outcome.ensures.unreported

pub returns-in-Err-clause-missing_reported : goal.returns-in-Err-clause-missing_reported
returns-in-Err-clause-missing_reported g c = λ missing.
    IfErr-at_err (λ s. ReportsLineTo g.E.Sink.failed g.E.Sink.holds c.args.err.now c.report_outcome.new.err (fault_line s.fault s.set))
    (c.in-Err.ensures.missing missing) c.report_outcome.ensures.reported
