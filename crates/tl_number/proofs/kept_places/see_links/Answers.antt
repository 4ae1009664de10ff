use Rattle.tl_number.proofs.Common.{ap, arith, drop, drop_all, drop_more, first_seen_after, flat_map, key_cmp, link_keys_at, sym, ◌+◌, ◌∙◌}
use Rattle.tl_number.proofs.Ties.SearchSteps.{seen_more}
use Rattle.tl_number.proofs.kept_places.see_links.Goals as goal

pub loop-landmark-preserved : goal.loop-landmark-preserved
loop-landmark-preserved g c =
    let own = link_keys_at (g.C.Chart.county c.args.chart.now) in
    let landmarks = c.args.landmarks.now in
    let i = c.loop-landmark.landmark-index in
    seen_more key_cmp _ (flat_map own (drop (i + 1) landmarks)) (flat_map own (drop i landmarks)) c.loop-landmark.polygons _ _
    (ap (flat_map own) (drop_more landmarks i _ c.loop-landmark-test.true)) c.in_ok-see_all.ensures c.loop-landmark.invariant

pub returns : goal.returns
returns g c =
    sym (ap (λ places. first_seen_after key_cmp c.loop-landmark.polygons (flat_map (link_keys_at (g.C.Chart.county c.args.chart.now)) places))
    (drop_all c.loop-landmark.landmark-index c.args.landmarks.now (omega (arith, c.loop-landmark-test.false))))
    ∙ c.loop-landmark.invariant
