use Rattle.arranged_county.proofs.Common.{ap, directed_chain, feats_along_arrangement, first_seen_after, nat_cmp, sym, ◌∙◌, ◌∷◌, ◌≡◌}
use Rattle.county_chart.specs.ChartWords.{feats_of}
use Rattle.arranged_county.proofs.Numbering.SeenLists.{seen_append}
use Rattle.arranged_county.proofs.name_order.number_uses.Goals as goal

pub loop-directed-preserved : goal.loop-directed-preserved
loop-directed-preserved g c =
    let county = g.C.Chart.county c.args.chart.now in
    let cut : c.loop-directed.rest.now ≡ c.in-Some.directed.now ∷ c.in-Some.later.now = c.in-Some.ensures.cases.0 in
    ap (λ seen. first_seen_after nat_cmp seen (feats_along_arrangement county c.in-Some.later.now))
    (c.in_ok-see_all.ensures ∙ ap (first_seen_after nat_cmp c.loop-directed.feats) c.feats.ensures)
    ∙ sym (seen_append nat_cmp c.loop-directed.feats (feats_of (directed_chain county c.in-Some.directed.now))
    (feats_along_arrangement county c.in-Some.later.now))
    ∙ ap (λ arrangement. first_seen_after nat_cmp c.loop-directed.feats (feats_along_arrangement county arrangement)) (sym cut) ∙ c.loop-directed.invariant
