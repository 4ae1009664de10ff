use Rattle.arranged_county.proofs.Common.{ap, arranged_by, arrangement_of, arranges, numbered, subst, sym, ◌∙◌}
use Rattle.canonical_form.proofs.Arrangements.Carrying.{arrangement_carries}
use Rattle.county_chart.specs.Renumbering.{Carries}
use Rattle.canonical_form.specs.Arrangement.{renaming_of}
use Rattle.arranged_county.proofs.arranged.Arranged.renaming.Goals as goal

pub returns-clause-value : goal.returns-clause-value
unfolding renaming_of
returns-clause-value g c =
    let view = c.args.self.now in
    let county = g.C.Chart.county view.chart in
    let order = arrangement_of county view.arrangement.items in
    c.new.ensures ∙ (λ i. record {
      chains = c.in_ok-chains.ensures.chains i;
      names = (c.in_ok-names.ensures ∙ ap numbered (c.keys.ensures ∙ view.names_stated.feats)) i;
      polygons = c.in_ok-polygons.ensures.polygons i;
      lands = c.in_ok-polygons.ensures.lands i;
      nodes = (c.in_ok-nodes.ensures ∙ ap numbered (c.keys-2.ensures ∙ view.nodes_stated.numbers)) i;
      turned = c.in_ok-chains.ensures.turned i;
    })

pub returns-clause-carries : goal.returns-clause-carries
returns-clause-carries g c =
    let view = c.args.self.now in
    let county = g.C.Chart.county view.chart in
    let is = g.met.C.Chart.is_county view.chart in
    subst (λ r. Carries r county (arranged_by county view.arrangement.items)) (sym (returns-clause-value g c))
    (arrangement_carries county (arrangement_of county view.arrangement.items) is (arranges county view.arrangement.items is view.whole) view.sides)
