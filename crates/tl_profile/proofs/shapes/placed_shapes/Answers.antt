use Rattle.tl_profile.proofs.Common.{AllByRecursion, HasFirstPoints, [], all_next, along_shape, ap, ap₂, arith, few_chains, map, map-append, map-range_with_len_more, placed_directed, subst, sym, ◌++◌, ◌∙◌, ◌∷◌}
use Rattle.tl_profile.proofs.shapes.placed_shapes.Goals as goal

pub loop-place-preserved : goal.loop-place-preserved
loop-place-preserved g c =
    let county = g.C.Chart.county c.args.chart.now in
    let shape = c.placed_shape.result in
    let items = c.in_ok-push.ensures.items in
    record {
      by_shape = ap (map placed_directed) items
          ∙ map-append placed_directed c.loop-place.shapes.items (shape ∷ [])
          ∙ ap₂ (λ by_shape directed. by_shape ++ (directed ∷ [])) c.loop-place.invariant.by_shape c.placed_shape.ensures.directed
          ∙ sym (map-range_with_len_more (along_shape county) 0 c.loop-place.place c.loop-place.place (omega arith));
      heads = subst (AllByRecursion (HasFirstPoints county)) (sym items)
          (all_next (HasFirstPoints county) c.loop-place.shapes.items shape c.loop-place.invariant.heads c.placed_shape.ensures.head);
    }

pub overflow_cast-place : goal.overflow_cast-place
overflow_cast-place g c =
    let few = few_chains (g.C.Chart.county c.args.chart.now) (g.met.C.Chart.within_limits c.args.chart.now) in
    let count = c.chain_count-count.ensures in
    omega (arith, few, count)
