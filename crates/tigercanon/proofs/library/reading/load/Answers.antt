use Rattle.tigercanon.proofs.Common.{IsFirstFault, IsOfLines, WasFedInto, [], ap, bytes_of_parts, exit_with, most_records, subst, ◌+◌, ◌∙◌}
use Rattle.tigercanon.proofs.Parts.{fault_of_all, fault_of_closed, parts_so_far}
use Rattle.tigercanon.proofs.library.reading.load.Goals as goal

pub returns-in_err-feed-clause-faulty : goal.returns-in_err-feed-clause-faulty
returns-in_err-feed-clause-faulty g c =
    exit_with _ _ (λ f. IsOfLines f → IsFirstFault (bytes_of_parts c.args.parts.now) f) c.from_residual.ensures.1
    (λ lines. fault_of_all _ _ _ _ c.loop-part-test.true (c.in_err-feed.ensures.fault _ _ _ c.loop-part.invariant.0 lines))

pub returns-in_err-end_part-clause-faulty : goal.returns-in_err-end_part-clause-faulty
returns-in_err-end_part-clause-faulty g c =
    let fed = c.in_ok-feed.ensures.fed _ _ _ c.loop-part.invariant.0 in
    exit_with _ _ (λ f. IsOfLines f → IsFirstFault (bytes_of_parts c.args.parts.now) f) c.from_residual-in_err-end_part.ensures.1
    (λ lines. fault_of_closed _ _ _ _ c.loop-part-test.true (c.in_err-end_part.ensures.fault _ _ _ fed lines))

pub loop-part-preserved : goal.loop-part-preserved
loop-part-preserved g c =
    let fed = c.in_ok-feed.ensures.fed _ _ _ c.loop-part.invariant.0 in (
      subst (λ ps. WasFedInto g.K.Collector.holds most_records c.end_part.new.self ps []) (parts_so_far _ _ _ c.loop-part-test.true)
          (c.in_ok-end_part.ensures.fed _ _ _ fed),
      c.in_ok-end_part.ensures.ok,
      c.in_ok-end_part.ensures.parts
          ∙ ap (λ n. n + 1) (c.in_ok-feed.ensures.parts ∙ c.loop-part.invariant.2),
    )
