use Rattle.tigercanon.proofs.Common.{IsUnread, Load, MAX, [], ap, arith, err_from_is_err_and, inl, length-append, subst, sym, ℕ, ◌++◌, ◌+◌, ◌<◌, ◌∙◌, ◌∷◌}
use Rattle.tigercanon.proofs.ReadParts.{all_read, none_more, one_more, unread_at, untouched}
use Rattle.tigercanon.proofs.library.reading.read_to_ends.Goals as goal

pub read_past_faults-requires-clause-failures : goal.read_past_faults-requires-clause-failures
read_past_faults-requires-clause-failures g c =
    let i = c.loop-source.source-index in
    let d = c.source-item.result in
    let r = c.loop-source.invariant.read in
    subst (λ s. g.R.Source.failed s < MAX) (sym (untouched g.R.Source.remaining g.R.Source.given _ _ r.0 i d r.1 r.2))
    (c.requires i d c.loop-source-test.true)

pub returns-in_err-read_past_faults-clause-stopped : goal.returns-in_err-read_past_faults-clause-stopped
returns-in_err-read_past_faults-clause-stopped g c =
    let p = err_from_is_err_and c.from_residual-in_err-read_past_faults.result c.from_residual-in_err-read_past_faults.ensures.1 in
    let i = c.loop-source.source-index in
    let d = c.source-item.result in
    let r = c.loop-source.invariant.read in
    let same = untouched g.R.Source.remaining g.R.Source.given _ _ r.0 i d r.1 r.2 in
    let device = c.in_err-read_past_faults.ensures.device in
    rw (p.1, p.2) (inl (
      ap Load device.0,
      unread_at g.R.Source.failed g.R.Source.reads _ _ i d c.read_past_faults.new.source c.loop-source.invariant.none_failed
          c.loop-source-test.true
          (subst (λ s. IsUnread g.R.Source.failed g.R.Source.reads s c.read_past_faults.new.source) same device.1),
    ))

pub loop-source-preserved : goal.loop-source-preserved
loop-source-preserved g c =
    let i = c.loop-source.source-index in
    let d = c.source-item.result in
    let x = c.read_past_faults.new.source in
    let r = c.loop-source.invariant.read in
    let f = c.in_ok-read_past_faults.ensures.fed in
    record {
      read = (
        r.0 ++ f.0 ∷ [],
        one_more g.R.Source.remaining g.R.Source.given _ _ r.0 i d x f.0 r.1 r.2 c.loop-source-test.true f.1 f.2,
        length-append r.0 (f.0 ∷ []) ∙ ap (λ (n : ℕ). n + 1) r.2,
        f.3 r.0 r.3,
      );
      none_failed = none_more g.R.Source.failed _ _ i d x c.loop-source.invariant.none_failed c.in_ok-read_past_faults.ensures.none_failed;
      no_device = c.in_ok-read_past_faults.ensures.no_device;
      counted = omega (arith, c.loop-source.invariant.counted, c.in_ok-read_past_faults.ensures.parts);
    }

pub returns-clause-fed : goal.returns-clause-fed
returns-clause-fed g c =
    let r = c.loop-source.invariant.read in (
      r.0,
      all_read g.R.Source.remaining g.R.Source.given _ _ r.0 r.1 (omega (arith, r.2, c.loop-source-test.false)),
      r.3,
    )
