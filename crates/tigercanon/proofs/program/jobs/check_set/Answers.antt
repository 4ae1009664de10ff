use Rattle.tigercanon.proofs.Common.{Check, Done, None, err_from_is_err_and, no_mask, refl, set_of_sources, to_sink}
use Rattle.tigercanon.proofs.SourceSets.{left_untouched, read_reported, text_printed}
use Rattle.tigercanon.proofs.program.jobs.check_set.Goals as goal

pub returns-clause-did : goal.returns-clause-did
returns-clause-did g c =
    let set = set_of_sources Check g.R.Source.remaining g.R.Source.given g.R.Source.failed g.R.Source.reads c.args.set.now c.read_to_ends.new.sources in
    let l = c.in_ok-loader.ensures.fed in
    let a = c.in_ok-judge.ensures.accepted l.0 l.2 in
    text_printed no_mask set set g.W.Sink.failed g.W.Sink.holds c.args.out.now c.print_text.new.out Check Done _
    (record { parts = l.0; held = l.1; answered = record { records = a.0; accepted = a.1; text_is = refl } })
    c.print_text.result c.print_text.ensures

pub returns-in_err-judge-clause-did : goal.returns-in_err-judge-clause-did
returns-in_err-judge-clause-did g c =
    let p = err_from_is_err_and c.from_residual-in_err-judge.result c.from_residual-in_err-judge.ensures.1 in
    let set = set_of_sources Check g.R.Source.remaining g.R.Source.given g.R.Source.failed g.R.Source.reads c.args.set.now c.read_to_ends.new.sources in
    let l = c.in_ok-loader.ensures.fed in
    let fault = c.in_err-judge.field-0.0 in
    rw (p.1, p.2) (left_untouched no_mask set set (to_sink g.W.Sink.failed g.W.Sink.holds c.args.out.now c.args.out.now) refl Check fault None
    (refl, (read_reported set l.0 (λ f refused. record { parts = l.0; read = l.1; refused = refused }) fault (c.in_err-judge.ensures.refused l.0 l.2), tt)))
