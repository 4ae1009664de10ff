use Rattle.tl_number.proofs.Common.{AllKeysContained, HasChainsOf, NamesEachOnce, ap, arranged, arrangement_of, arrangement_of_number, arrangement_of_number_once, arrangement_of_number_there, numbered_arrangement, polygon_keys, polygons_along, subst, sym, ◌∙◌, ◌≡◌}
use Rattle.tl_number.proofs.choice_search.ComparedCounty.arrange.Given.{Over}
use Rattle.tl_number.proofs.choice_search.ComparedCounty.arrange.Goals.{After-new-chart}
use Rattle.tl_number.proofs.choice_search.ComparedCounty.arrange.Goals as goal

-- the county of the lent chart
lent_county : (g : Over) (c : After-new-chart g) → g.C.Chart.county c.new-chart.result.chart.now ≡ g.C.Chart.county c.args.self.now.classes.now.chart.now
lent_county g c = c.new-chart.ensures ∙ c.chart.ensures

pub arrange_in_classes-requires-clause-classes : goal.arrange_in_classes-requires-clause-classes
arrange_in_classes-requires-clause-classes g c = sym (lent_county g (goal.at.arrange_in_classes-requires-clause-classes g c).After-new-chart)

pub arrange_in_classes-requires-clause-sides : goal.arrange_in_classes-requires-clause-sides
arrange_in_classes-requires-clause-sides g c =
    subst (λ county. AllKeysContained (polygons_along county.chains) (polygon_keys county))
    (sym (lent_county g (goal.at.arrange_in_classes-requires-clause-sides g c).After-new-chart)) c.requires.sides

pub arrange_in_classes-requires-clause-there : goal.arrange_in_classes-requires-clause-there
arrange_in_classes-requires-clause-there g c =
    let chart = c.args.self.now.classes.now.chart.now in
    subst (λ county. HasChainsOf county c.in_ok-choice.choice.chains.items)
    (sym (lent_county g (goal.at.arrange_in_classes-requires-clause-there g c).After-new-chart))
    (arrangement_of_number_there (g.C.Chart.county chart) (g.met.C.Chart.is_county chart) c.args.self.now.shape_order.now.by_shape
    c.requires.order.by_shape c.args.self.now.shape_order.now.places (c.requires.order.places c.requires.few) c.in_ok-choice.choice.chains.items c.args.number
    (c.in_ok-choice.ensures.chosen ∙ ap (numbered_arrangement c.args.self.now.shape_order.now) c.in_ok-choice.ensures.number))

pub arrange_in_classes-requires-clause-once : goal.arrange_in_classes-requires-clause-once
arrange_in_classes-requires-clause-once g c =
    let chart = c.args.self.now.classes.now.chart.now in
    subst (λ county. NamesEachOnce county (arrangement_of county c.in_ok-choice.choice.chains.items))
    (sym (lent_county g (goal.at.arrange_in_classes-requires-clause-once g c).After-new-chart))
    (arrangement_of_number_once (g.C.Chart.county chart) (g.met.C.Chart.is_county chart) c.args.self.now.shape_order.now.by_shape
    c.requires.order.by_shape c.args.self.now.shape_order.now.places (c.requires.order.places c.requires.few) c.in_ok-choice.choice.chains.items c.args.number
    (c.in_ok-choice.ensures.chosen ∙ ap (numbered_arrangement c.args.self.now.shape_order.now) c.in_ok-choice.ensures.number))

pub returns-clause-arranged : goal.returns-clause-arranged
returns-clause-arranged g c =
    let chart = c.args.self.now.classes.now.chart.now in
    let county = g.C.Chart.county chart in
    let shapes = c.args.self.now.shape_order.now in
    let arrangement = c.in_ok-choice.choice.chains.items in
    let same = lent_county g (goal.at.returns-clause-arranged g c).After-new-chart in
    let chosen = c.in_ok-choice.ensures.chosen ∙ ap (numbered_arrangement shapes) c.in_ok-choice.ensures.number in
    let stated = arrangement_of_number county (g.met.C.Chart.is_county chart) shapes.by_shape c.requires.order.by_shape shapes.places
    (c.requires.order.places c.requires.few) arrangement c.args.number chosen in
    record {
      chains = ap (λ chains. chains.items) c.in_ok-county.ensures.order ∙ chosen;
      county = c.in_ok-county.ensures.county ∙ (λ j. arranged (same j) (arrangement_of (same j) arrangement)) ∙ ap (arranged county) stated;
    }
