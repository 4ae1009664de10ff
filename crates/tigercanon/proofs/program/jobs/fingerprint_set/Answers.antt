use Rattle.tigercanon.proofs.Common.{Done, Fingerprint, None, err_from_is_err_and, refl, set_of_sources, to_sink}
use Rattle.tigercanon.proofs.SourceSets.{left_untouched, read_reported, text_printed}
use Rattle.tigercanon.proofs.program.jobs.fingerprint_set.Goals as goal

pub returns-clause-did : goal.returns-clause-did
returns-clause-did g c =
    let set = set_of_sources Fingerprint g.R.Source.remaining g.R.Source.given g.R.Source.failed g.R.Source.reads c.args.set.now c.read_to_ends.new.sources in
    let l = c.in_ok-loader.ensures.fed in
    text_printed c.args.mask set set g.W.Sink.failed g.W.Sink.holds c.args.out.now c.print_text.new.out Fingerprint Done _
    (record {
      parts = l.0;
      held = l.1;
      answered = record {
        bytes = _;
        fingerprint = c.in_ok-hash.ensures.made l.0 l.2;
        text_is = c.in_ok-line.ensures.digits;
      };
    })
    c.print_text.result (rw c.as_bytes.ensures.value at c.print_text.ensures)

pub returns-in_err-hash-clause-did : goal.returns-in_err-hash-clause-did
returns-in_err-hash-clause-did g c =
    let p = err_from_is_err_and c.from_residual-in_err-hash.result c.from_residual-in_err-hash.ensures.1 in
    let set = set_of_sources Fingerprint g.R.Source.remaining g.R.Source.given g.R.Source.failed g.R.Source.reads c.args.set.now c.read_to_ends.new.sources in
    let l = c.in_ok-loader.ensures.fed in
    let fault = c.in_err-hash.field-0.0 in
    rw (p.1, p.2) (left_untouched c.args.mask set set (to_sink g.W.Sink.failed g.W.Sink.holds c.args.out.now c.args.out.now) refl Fingerprint fault None
    (refl, (read_reported set l.0 (λ f refused. record { parts = l.0; read = l.1; refused = refused }) fault (c.in_err-hash.ensures.refused l.0 l.2), tt)))
