use Rattle.tigercanon.proofs.Common.{Device, Fault, IsSetRefusal, Load, MatchResult-at_err, MatchResult-at_ok, RefusesSpelled, Took, Write, ap, cond, err_from_is_err_and, length, masked, masked_view, subst, sym, take, ◌+◌, ◌<◌, ◌∙◌, ◌≡◌}
use Rattle.tigercanon.proofs.Refusing.{not_of_sink, read_refused}
use Rattle.tigercanon.proofs.Sets.{only_text}
use Rattle.tigercanon.proofs.library.normalising.normalise_to_masked.Goals as goal

pub returns-clause-written : goal.returns-clause-written
returns-clause-written g c =
    let l = c.in_ok-linked.ensures.linked in
    let w = c.in_ok-made.ensures.made l.0 l.2 in
    let out = MatchResult-at_ok _ _ _ c.in_ok-written.was w.out in
    let only = only_text (masked c.args.mask) (masked_view c.args.mask) l.0 w.text w.canonical in
    (w.text, record { parts = l.0; read = l.1; canonical = w.canonical; only = only }, out.0.0, out.0.1)

pub returns-clause-failures : goal.returns-clause-failures
returns-clause-failures g c =
    let l = c.in_ok-linked.ensures.linked in
    let w = c.in_ok-made.ensures.made l.0 l.2 in (MatchResult-at_ok _ _ _ c.in_ok-written.was w.out).1

pub returns-in_err-written-clause-stopped : goal.returns-in_err-written-clause-stopped
returns-in_err-written-clause-stopped g c =
    let p = err_from_is_err_and c.from_residual-in_err-written.result c.from_residual-in_err-written.ensures.1 in
    let l = c.in_ok-linked.ensures.linked in
    let w = c.in_ok-made.ensures.made l.0 l.2 in
    let out = MatchResult-at_err _ _ _ c.in_err-written.was w.out in
    let only = only_text (masked c.args.mask) (masked_view c.args.mask) l.0 w.text w.canonical in
    rw (p.1, p.2) (λ fault is.
    let e : c.in_err-written.field-0.0.written ≡ fault.written = cc in
    record {
      text = w.text;
      normalised = record { parts = l.0; read = l.1; canonical = w.canonical; only = only };
      short = subst (λ n. n < length w.text) e out.0.0;
      took = subst (λ n. Took g.W.Sink.holds c.args.out.now c.make_of_linked.new.device (take n w.text)) e out.0.1;
    })

pub returns-in_err-written-clause-failures : goal.returns-in_err-written-clause-failures
returns-in_err-written-clause-failures g c =
    let p = err_from_is_err_and c.from_residual-in_err-written.result c.from_residual-in_err-written.ensures.1 in
    let l = c.in_ok-linked.ensures.linked in
    let w = c.in_ok-made.ensures.made l.0 l.2 in
    rw (p.1, p.2) (MatchResult-at_err _ _ _ c.in_err-written.was w.out).1

pub returns-in_err-made-clause-failures : goal.returns-in_err-made-clause-failures
returns-in_err-made-clause-failures g c =
    let p = err_from_is_err_and c.from_residual-in_err-made.result c.from_residual-in_err-made.ensures.1 in
    let l = c.in_ok-linked.ensures.linked in
    let failed = g.W.Sink.failed c.args.out.now in
    rw (p.1, p.2) (ap g.W.Sink.failed c.in_err-made.ensures.untouched ∙ ap (λ b. cond b (failed + 1) failed)
    (sym (not_of_sink (IsSetRefusal l.0) c.in_err-made.field-0.0 (c.in_err-made.ensures.refused l.0 l.2).0)))

pub returns-in_err-made-clause-stopped : goal.returns-in_err-made-clause-stopped
returns-in_err-made-clause-stopped g c = λ fault is.
    let p = err_from_is_err_and c.from_residual-in_err-made.result c.from_residual-in_err-made.ensures.1 in
    let l = c.in_ok-linked.ensures.linked in
    let e : c.in_err-made.field-0.0 ≡ Write fault = cc in
    absurd ((subst (λ (f : Fault). RefusesSpelled l.0 f) e (c.in_err-made.ensures.refused l.0 l.2)).0)

pub returns-in_err-made-clause-device : goal.returns-in_err-made-clause-device
returns-in_err-made-clause-device g c = λ is.
    let p = err_from_is_err_and c.from_residual-in_err-made.result c.from_residual-in_err-made.ensures.1 in
    let l = c.in_ok-linked.ensures.linked in
    let e : c.in_err-made.field-0.0 ≡ Load Device = cc in
    absurd ((c.in_err-made.ensures.refused l.0 l.2).1 Device e)

pub returns-in_err-made-clause-refused : goal.returns-in_err-made-clause-refused
returns-in_err-made-clause-refused g c =
    let p = err_from_is_err_and c.from_residual-in_err-made.result c.from_residual-in_err-made.ensures.1 in
    let l = c.in_ok-linked.ensures.linked in
    rw (p.1, p.2) (read_refused g.R.Source.remaining g.R.Source.given g.R.Source.reads c.args.parts.now c.link_sources.new.parts l.0 l.1
    c.in_err-made.field-0.0 (c.in_err-made.ensures.refused l.0 l.2))
