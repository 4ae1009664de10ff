use Rattle.tl_number.proofs.Common.{DirectedChain, IfSome, Some, [], all_at, ap, arith, at_places, false, filter, get_or, get_or_from_slice_get, is_kept, length, map, map-append, range_with_len, rules, slice_get, slice_get-get_or, subst, sym, tlid_at, tlids, true, ◌++◌, ◌<◌, ◌∙◌, ◌∷◌, ◌≡◌}
use Rattle.tl_number.proofs.Ties.SearchSteps.{next_passed, next_taken}
use Rattle.tl_number.proofs.kept_places.kept_along.Goals as goal

pub keeps_place-requires-clause-within : goal.keeps_place-requires-clause-within
keeps_place-requires-clause-within g c = omega (arith, c.loop-place-test.true, ap length c.by_shape-by_shape.ensures, c.requires.count)

pub tlid_there-requires : goal.tlid_there-requires
tlid_there-requires g c =
    let first : DirectedChain = record { place = 0; turned = false } in
    let chain = get_or c.by_shape-by_shape.result.now c.loop-place.place first in
    let there : slice_get c.args.shape_order.now.by_shape c.loop-place.place ≡ Some chain =
    sym (ap (λ chains. slice_get chains c.loop-place.place) c.by_shape-by_shape.ensures)
    ∙ slice_get-get_or c.by_shape-by_shape.result.now c.loop-place.place first c.loop-place-test.true in
    subst (λ o. IfSome o (λ (d : DirectedChain). d.place < length (g.C.Chart.county c.args.chart.now).chains)) there
    (all_at _ c.args.shape_order.now.by_shape c.requires.there c.loop-place.place)

pub loop-place-preserved-then-not-kept : goal.loop-place-preserved-then-not-kept
loop-place-preserved-then-not-kept g c =
    let county = g.C.Chart.county c.args.chart.now in
    let fails : is_kept county c.args.shape_order.now c.args.still_open.now c.loop-place.place ≡ false = search rules in
    record {
      tlids = c.loop-place.invariant.tlids
          ∙ ap (map (λ directed. tlid_at county directed.place)) (sym (next_passed c.args.shape_order.now.by_shape (is_kept county c.args.shape_order.now c.args.still_open.now) c.loop-place.place fails));
      searches = c.in_ok-kept.ensures.searches;
    }

pub loop-place-preserved : goal.loop-place-preserved
loop-place-preserved g c =
    let county = g.C.Chart.county c.args.chart.now in
    let by_shape = c.args.shape_order.now.by_shape in
    let first : DirectedChain = record { place = 0; turned = false } in
    let chain = get_or c.by_shape-by_shape.result.now c.loop-place.place first in
    let passes : is_kept county c.args.shape_order.now c.args.still_open.now c.loop-place.place ≡ true = search rules in
    let there : slice_get by_shape c.loop-place.place ≡ Some chain =
    sym (ap (λ chains. slice_get chains c.loop-place.place) c.by_shape-by_shape.ensures)
    ∙ slice_get-get_or c.by_shape-by_shape.result.now c.loop-place.place first c.loop-place-test.true in
    let own : c.tlid_there.result ≡ tlid_at county chain.place = sym (get_or_from_slice_get (tlids county) chain.place c.tlid_there.result 0 (sym c.tlid_there.ensures)) in
    record {
      tlids = c.in_ok-push.ensures.items ∙ (λ i. c.loop-place.invariant.tlids i ++ (own i ∷ []))
          ∙ sym (map-append (λ (directed : DirectedChain). tlid_at county directed.place)
          (at_places by_shape (filter (is_kept county c.args.shape_order.now c.args.still_open.now) (range_with_len 0 c.loop-place.place))) (chain ∷ []))
          ∙ ap (map (λ (directed : DirectedChain). tlid_at county directed.place))
          (sym (next_taken by_shape (is_kept county c.args.shape_order.now c.args.still_open.now) c.loop-place.place chain passes there));
      searches = c.in_ok-kept.ensures.searches;
    }

pub returns-clause-names : goal.returns-clause-names
returns-clause-names g c = c.loop-place.invariant.searches.names.same

pub returns-clause-tlids : goal.returns-clause-tlids
returns-clause-tlids g c =
    let county = g.C.Chart.county c.args.chart.now in
    let count : c.loop-place.place ≡ length c.by_shape-by_shape.result.now = omega (arith, c.loop-place-test.false, c.loop-place.auto.place-end) in
    c.loop-place.invariant.tlids
    ∙ ap (λ count. map (λ directed. tlid_at county directed.place)
    (at_places c.args.shape_order.now.by_shape (filter (is_kept county c.args.shape_order.now c.args.still_open.now) (range_with_len 0 count)))) (count ∙ ap length c.by_shape-by_shape.ensures)
