use Rattle.tigercanon.proofs.Common.{Bool, Compare, Done, Err, IsTextOf, Normalise, Respell, ap, err_from_is_err_and, if◌then◌else◌, set_of_sources, subst, sym, ◌+◌, ◌∙◌}
use Rattle.tigercanon.proofs.SourceSets.{normalised_leave, text_printed}
use Rattle.tigercanon.proofs.program.jobs.do_job.Goals as goal

pub returns-in_ok-text-in-Respell-clause-did : goal.returns-in_ok-text-in-Respell-clause-did
returns-in_ok-text-in-Respell-clause-did g c =
    let sets = set_of_sources Respell g.R.Source.remaining g.R.Source.given g.R.Source.failed g.R.Source.reads in
    rw c.in-Respell.is (text_printed c.args.mask (sets c.args.first.now c.spelling_of.new.set) (sets c.args.second.now c.args.second.now)
    g.W.Sink.failed g.W.Sink.holds c.args.out.now c.print_text.new.out Respell Done c.in_ok-text-in-Respell.text.bytes.items
    c.in_ok-text-in-Respell.ensures.respelt c.print_text.result (rw c.deref.ensures.value at c.print_text.ensures))

pub returns-in_err-normalise_to_masked-in-Normalise-clause-did : goal.returns-in_err-normalise_to_masked-in-Normalise-clause-did
returns-in_err-normalise_to_masked-in-Normalise-clause-did g c =
    let p = err_from_is_err_and c.from_residual-in_err-normalise_to_masked-in-Normalise.result c.from_residual-in_err-normalise_to_masked-in-Normalise.ensures.1 in
    let was = g.W.Sink.failed c.args.out.now in
    let n = c.in_err-normalise_to_masked-in-Normalise.ensures in
    rw (p.1, p.2, c.in-Normalise.is) (normalised_leave g.R.Source.remaining g.R.Source.given g.R.Source.failed g.R.Source.reads c.args.first.now
    c.normalise_to_masked.new.parts g.W.Sink.failed g.W.Sink.holds c.args.out.now c.normalise_to_masked.new.out c.args.mask
    c.in_err-normalise_to_masked-in-Normalise.field-0.0 (λ f e. n.stopped f (ap Err e))
    (λ e. n.failures ∙ ap (λ (b : Bool). if b then was + 1 else was) e) n.refused n.silent (λ e. n.device (ap Err e))
    (set_of_sources Normalise g.R.Source.remaining g.R.Source.given g.R.Source.failed g.R.Source.reads c.args.second.now c.args.second.now))

pub returns-in_ok-ending-in-Compare-clause-did : goal.returns-in_ok-ending-in-Compare-clause-did
returns-in_ok-ending-in-Compare-clause-did g c =
    let sets = set_of_sources Compare g.R.Source.remaining g.R.Source.given g.R.Source.failed g.R.Source.reads in
    let first = sets c.args.first.now c.compare_sources.new.first in
    let second = sets c.args.second.now c.compare_sources.new.second in
    rw c.in-Compare.is (text_printed c.args.mask first second g.W.Sink.failed g.W.Sink.holds c.args.out.now c.print_text-in-Compare.new.out
    Compare c.in_ok-ending-in-Compare.ending c.line_of_ending.result.now
    (subst (IsTextOf c.args.mask Compare first second c.in_ok-ending-in-Compare.ending) (sym c.line_of_ending.ensures)
    c.in_ok-ending-in-Compare.ensures.verdict) c.print_text-in-Compare.result c.print_text-in-Compare.ensures)

pub returns-in_ok-normalise_to_masked-in-Normalise-clause-did : goal.returns-in_ok-normalise_to_masked-in-Normalise-clause-did
returns-in_ok-normalise_to_masked-in-Normalise-clause-did g c =
    let n = c.in_ok-normalise_to_masked-in-Normalise.ensures.written in
    rw c.in-Normalise.is (record {
      text = n.0;
      answered = record { parts = n.1.parts; held = n.1.read; answered = n.1.canonical };
      printed = n.3;
    })
