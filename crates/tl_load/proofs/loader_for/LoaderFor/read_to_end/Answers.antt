use Rattle.tl_load.proofs.Common.{Consumes, IsWithoutLineFeed, RoseBy, [], ap, arith, bytes_used, err_from_is_err_and, length, length-append, length-take, most_taken, most_unfinished, refl, seen, subst, sym, take, ℕ, ◌++◌, ◌<◌, ◌∙◌, ◌≡◌, ◌≤◌}
use Rattle.tl_load.proofs.Steps.{reads_closed, reads_fault, takes_both, takes_none}
use Rattle.tl_load.proofs.Counts.{few_records}
use Rattle.tl_load.proofs.ReadSteps.{gave_more, gave_none, gave_same}
use Rattle.tl_load.proofs.loader_for.LoaderFor.read_to_end.Goals as goal

pub loop-count-init : goal.loop-count-init
loop-count-init g c =
    let s = c.self.inside in
    let most : bytes_used c.args.self.now ≤ most_taken =
    rw (← c.self.view_is)
    (omega (arith, few_records s.counts s.line.items s.parts s.judged s.limit c.self.invariant, c.self.invariant.short)) in
    let none : IsWithoutLineFeed c.args.self.now.unfinished = rw (← c.self.view_is) c.self.invariant.no_feed in
    let short : length c.args.self.now.unfinished ≤ most_unfinished = rw (← c.self.view_is) (omega (arith, c.self.invariant.short)) in
    record {
      reads = ([], gave_none _ _ _, omega arith, λ records kept. (records, kept, takes_none (seen c.args.self.now records) none));
      same_part = record { parts = refl; limit = refl; fault = refl };
      most = most;
      short = short;
      failures = refl;
    }

pub returns-then-count-eq0-clause-reads : goal.returns-then-count-eq0-clause-reads
returns-then-count-eq0-clause-reads g c =
    let r = c.loop-count.invariant.reads in
    let none : take c.in-Ok.count c.read.new.buf ≡ [] = ap (λ (n : ℕ). take n c.read.new.buf) c.if-count-eq0.true in
    let some : 0 < length c.read.new.buf = omega arith in
    let at_end = c.in-Ok.ensures.bytes.1 c.if-count-eq0.true some in
    let nothing : Consumes (g.R.Source.remaining c.loop-count.source) (g.R.Source.remaining c.read.new.self) [] =
    subst (Consumes (g.R.Source.remaining c.loop-count.source) (g.R.Source.remaining c.read.new.self)) none c.in-Ok.ensures.bytes.0 in
    let counted : RoseBy 0 (g.R.Source.given c.loop-count.source) (g.R.Source.given c.read.new.self) =
    subst (λ (n : ℕ). RoseBy n (g.R.Source.given c.loop-count.source)
    (g.R.Source.given c.read.new.self)) c.if-count-eq0.true c.in-Ok.ensures.given in (
      r.0,
      gave_same _ _ _ _ _ _ r.1 nothing counted,
      omega (arith, r.2, c.loop-count.invariant.most),
      λ records kept.
          let t = r.3 records kept in
          let u = c.close_part.ensures.closes t.0 t.1 in (
            u.0,
            u.1,
            reads_closed (seen c.args.self.now records) (seen c.loop-count.self t.0)
                (seen c.close_part.new.self u.0) r.0 _ c.close_part.result t.2 u.2 at_end,
          ),
    )

pub loop-count-preserved : goal.loop-count-preserved
loop-count-preserved g c =
    let r = c.loop-count.invariant.reads in
    let piece = take c.in-Ok.count c.read.new.buf in
    let part = c.loop-count.invariant.same_part in let next = c.in_ok-take_piece.ensures.same_part in
    let used = c.in_ok-take_piece.ensures.used in
    let len : length piece ≡ c.in-Ok.count = omega (arith, length-take c.in-Ok.count c.read.new.buf, c.in-Ok.ensures.bound) in
    let counted = subst (λ (n : ℕ). RoseBy n (g.R.Source.given c.loop-count.source) (g.R.Source.given c.read.new.self))
    (sym len) c.in-Ok.ensures.given in
    record {
      reads = (
        r.0 ++ piece,
        gave_more _ _ _ _ _ _ _ r.1 c.in-Ok.ensures.bytes.0 counted,
        omega (arith, r.2, used, length-append r.0 piece),
        λ records kept.
            let t = r.3 records kept in
            let u = c.in_ok-take_piece.ensures.takes t.0 t.1 in (
              u.0,
              u.1,
              takes_both (seen c.args.self.now records) (seen c.loop-count.self t.0)
                  (seen c.take_piece.new.self u.0) r.0 piece t.2 u.2,
            ),
      );
      same_part = record { parts = next.parts ∙ part.parts; limit = next.limit ∙ part.limit; fault = next.fault ∙ part.fault };
      most = c.in_ok-take_piece.ensures.most;
      short = c.in_ok-take_piece.ensures.short;
      failures = c.in-Ok.ensures.failures ∙ c.loop-count.invariant.failures;
    }

pub returns-in_err-take_piece-clause-reads : goal.returns-in_err-take_piece-clause-reads
returns-in_err-take_piece-clause-reads g c =
    let r = c.loop-count.invariant.reads in
    let piece = take c.in-Ok.count c.read.new.buf in
    let buffer : length c.read.new.buf ≡ length c.args.buffer.now = omega arith in
    let len : length piece ≡ c.in-Ok.count = omega (arith, length-take c.in-Ok.count c.read.new.buf, c.in-Ok.ensures.bound) in
    let counted = subst (λ (n : ℕ). RoseBy n (g.R.Source.given c.loop-count.source) (g.R.Source.given c.read.new.self))
    (sym len) c.in-Ok.ensures.given in
    let p = err_from_is_err_and c.from_residual.result c.from_residual.ensures.1 in
    rw (p.1, p.2) (
      r.0 ++ piece,
      gave_more _ _ _ _ _ _ _ r.1 c.in-Ok.ensures.bytes.0 counted,
      omega (arith, r.2, c.loop-count.invariant.most, buffer, length-append r.0 piece, length-take c.in-Ok.count c.read.new.buf),
      λ records kept.
          let t = r.3 records kept in
          let u = c.in_err-take_piece.ensures.takes t.0 t.1 in (
            records,
            tt,
            reads_fault (Unit {0}) (seen c.args.self.now records) (seen c.loop-count.self t.0)
                (seen c.take_piece.new.self u.0) r.0 piece _ _ t.2 u.2,
          ),
    )
