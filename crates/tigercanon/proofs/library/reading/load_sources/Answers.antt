use Rattle.tigercanon.proofs.Common.{Err, IfErr-weaker, IfOk-weaker, MAX, WasWellBefore, [], ap, arith, err_from_is_err_and, inl, inr, length-append, most_records, refl, set, subst, sym, ℕ, ◌++◌, ◌+◌, ◌<◌, ◌∙◌, ◌∷◌, ◌≡◌}
use Rattle.tigercanon.proofs.ReadParts.{all_read, next_changed, none_more, one_failed, one_more, untouched}
use Rattle.tigercanon.proofs.RecordedFaults.{counted_device, counted_none, none_recorded, recorded_fault}
use Rattle.tl_load.specs.declared.fault.LoadFault.TheVariants as faults
use Rattle.tigercanon.proofs.library.reading.load_sources.Goals as goal

pub read_part_by-requires-clause-failures : goal.read_part_by-requires-clause-failures
read_part_by-requires-clause-failures g c =
    let i = c.loop-source.source-index in
    let d = c.source-item.result in
    let r = c.loop-source.invariant.read in
    subst (λ s. g.R.Source.failed s < MAX) (sym (untouched g.R.Source.remaining g.R.Source.given _ _ r.0 i d r.1 r.2))
    (c.requires i d c.loop-source-test.true)

pub returns-in_err-read_part_by-clause-faulty : goal.returns-in_err-read_part_by-clause-faulty
returns-in_err-read_part_by-clause-faulty g c =
    let p = err_from_is_err_and c.from_residual.result c.from_residual.ensures.1 in
    rw (p.1, p.2) (λ lines.
    let i = c.loop-source.source-index in
    let d = c.source-item.result in
    let x = c.read_part_by.new.source in
    let r = c.loop-source.invariant.read in
    let f = c.in_err-read_part_by.ensures.fed in
    let fault = c.in_err-read_part_by.field-0.0 in
    let s = c.in_err-read_part_by.ensures.stops c.loop-source.invariant.no_fault in
    let well : WasWellBefore g.R.Source.remaining g.R.Source.given g.R.Source.reads c.args.sources.now (set c.loop-source.sources i x) = (
      r.0,
      s.taken,
      next_changed g.R.Source.remaining g.R.Source.given _ _ _ r.0 i d x r.1 r.2 c.loop-source-test.true
          (λ rest. ((s.last, s.gave, s.one_read), refl)),
      s.should most_records r.0 [] r.3,
    ) in
    elim (f.3 most_records r.0 [] r.3) [
      | inl (end, fed) ↦ (
        r.0 ++ f.0 ∷ [],
        [],
        inl (one_more g.R.Source.remaining g.R.Source.given _ _ r.0 i d x f.0 r.1 r.2 c.loop-source-test.true f.1 end, refl),
        recorded_fault g.K.Collector.holds c.read_part_by.new.self fault _ _ c.in_err-read_part_by.ensures.reported fed lines,
        well,
      )
      | inr fed ↦ (
        r.0,
        f.0,
        inr (next_changed g.R.Source.remaining g.R.Source.given _ _ _ r.0 i d x r.1 r.2 c.loop-source-test.true (λ rest. (f.1, refl))),
        recorded_fault g.K.Collector.holds c.read_part_by.new.self fault _ _ c.in_err-read_part_by.ensures.reported fed lines,
        well,
      )
    ])

pub returns-in_err-read_part_by-clause-device : goal.returns-in_err-read_part_by-clause-device
returns-in_err-read_part_by-clause-device g c = λ reported.
    let p = err_from_is_err_and c.from_residual.result c.from_residual.ensures.1 in
    let is : c.in_err-read_part_by.field-0.0 ≡ faults.Device = cc in
    let i = c.loop-source.source-index in
    let d = c.source-item.result in
    one_failed g.R.Source.failed _ _ i d c.read_part_by.new.source c.loop-source.invariant.none_failed c.loop-source-test.true
    (counted_device c.in_err-read_part_by.field-0.0 _ _ (c.in_err-read_part_by.ensures.device c.loop-source.invariant.no_fault) is)

pub returns-in_err-read_part_by-clause-no_device : goal.returns-in_err-read_part_by-clause-no_device
returns-in_err-read_part_by-clause-no_device g c = λ other.
    let p = err_from_is_err_and c.from_residual.result c.from_residual.ensures.1 in
    let i = c.loop-source.source-index in
    let d = c.source-item.result in
    none_more g.R.Source.failed _ _ i d c.read_part_by.new.source c.loop-source.invariant.none_failed
    (counted_none c.in_err-read_part_by.field-0.0 _ _ (c.in_err-read_part_by.ensures.device c.loop-source.invariant.no_fault)
    (λ is. other (p.1 ∙ ap Err (p.2 ∙ is))))

pub loop-source-preserved : goal.loop-source-preserved
loop-source-preserved g c =
    let i = c.loop-source.source-index in
    let d = c.source-item.result in
    let x = c.read_part_by.new.source in
    let r = c.loop-source.invariant.read in
    let f = c.in_ok-read_part_by.ensures.fed in
    let p = f.3 most_records r.0 [] r.3 in
    record {
      read = (
        r.0 ++ f.0 ∷ [],
        one_more g.R.Source.remaining g.R.Source.given _ _ r.0 i d x f.0 r.1 r.2 c.loop-source-test.true f.1 p.0,
        length-append r.0 (f.0 ∷ []) ∙ ap (λ (n : ℕ). n + 1) r.2,
        p.1,
      );
      none_failed = none_more g.R.Source.failed _ _ i d x c.loop-source.invariant.none_failed
          (c.in_ok-read_part_by.ensures.device c.loop-source.invariant.no_fault);
      no_fault = c.in_ok-read_part_by.ensures.ok;
      counted = c.in_ok-read_part_by.ensures.parts ∙ ap (λ (n : ℕ). n + 1) c.loop-source.invariant.counted;
    }

pub returns-clause-loaded : goal.returns-clause-loaded
returns-clause-loaded g c =
    let r = c.loop-source.invariant.read in
    IfOk-weaker c.finish.result _ _ (λ kept h. (
      r.0,
      all_read g.R.Source.remaining g.R.Source.given _ _ r.0 r.1 (omega (arith, r.2, c.loop-source-test.false)),
      h.0,
      h.1,
      h.2,
    ))
    (c.finish.ensures.loaded most_records r.0 [] r.3)

pub returns-clause-faulty : goal.returns-clause-faulty
returns-clause-faulty g c =
    let r = c.loop-source.invariant.read in
    IfErr-weaker c.finish.result _ _ (λ f at. λ lines.
    absurd (none_recorded g.K.Collector.holds c.loop-source.loader f r.0 c.loop-source.invariant.no_fault r.3 (at lines)))
    (c.finish.ensures.fault most_records r.0 [] r.3)
