use Rattle.tl_number.proofs.Common.{AgreeButOpen, DirectedChain, List, One, OpenPlace, ap₂, arranged, arrangement_of_number, groups_cmp, subst, sym, type_1_by_chain, ◌∙◌}
use Rattle.tl_number.proofs.Ties.ComparedChoices.{agree_in}
use Rattle.tl_number.proofs.type_1_choices.compare_by_type_1.Goals as goal

pub compare_ones-requires : goal.compare_ones-requires
compare_ones-requires g c =
    let chart = c.args.chart.now in
    subst (λ (p : List OpenPlace × List DirectedChain × List DirectedChain). AgreeButOpen (g.C.Chart.county chart) p.0 p.1 p.2)
    (λ i. (
      sym c.open_places.ensures i,
      sym (c.deref.ensures.value ∙ c.requires.one) i,
      sym (c.deref-2.ensures.value ∙ c.requires.other) i,
    ))
    (agree_in record {
      county = g.C.Chart.county chart;
      shapes = c.args.shape_order.now;
      known = c.requires.known;
      is = g.met.C.Chart.is_county chart;
      within = g.met.C.Chart.within_limits chart;
    } c.args.one.now.number c.args.other.now.number)

pub returns : goal.returns
returns g c =
    let county = g.C.Chart.county c.args.chart.now in
    let is = g.met.C.Chart.is_county c.args.chart.now in
    let by_shape = c.args.shape_order.now.by_shape in
    let places = c.args.shape_order.now.places in
    let there = c.requires.known.order.places c.requires.known.few in
    c.compare_ones.ensures
    ∙ ap₂ (λ one other. groups_cmp One (type_1_by_chain (arranged county one)) (type_1_by_chain (arranged county other)))
    (arrangement_of_number county is by_shape c.requires.known.order.by_shape places there c.deref.result.now c.args.one.now.number
    (c.deref.ensures.value ∙ c.requires.one))
    (arrangement_of_number county is by_shape c.requires.known.order.by_shape places there c.deref-2.result.now c.args.other.now.number
    (c.deref-2.ensures.value ∙ c.requires.other))
