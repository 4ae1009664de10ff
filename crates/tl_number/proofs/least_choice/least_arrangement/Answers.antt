use Rattle.tl_number.proofs.Common.{IsLeastChoice, arrangement_of_number, arrangement_of_number_once, arrangement_of_number_there, least_of_all, places_within, subst, sym}
use Rattle.tl_number.proofs.least_choice.least_arrangement.Goals as goal

pub least_choice-requires : goal.least_choice-requires
least_choice-requires g c = record {
  order = c.requires.order;
  few = c.requires.few;
  within = places_within (g.C.Chart.county c.args.chart.now) (g.met.C.Chart.is_county c.args.chart.now) c.args.shape_order.now.by_shape
      c.requires.order.by_shape c.args.shape_order.now.places (c.requires.order.places c.requires.few);
  sides = c.requires.sides;
}

pub returns : goal.returns
returns g c =
    let county = g.C.Chart.county c.args.chart.now in
    let is = g.met.C.Chart.is_county c.args.chart.now in
    let by_shape = c.args.shape_order.now.by_shape in
    let places = c.args.shape_order.now.places in
    let listed = c.requires.order.places c.requires.few in
    let number = c.in_ok-least.least.number in
    let arrangement = c.in_ok-least.least.chains.items in
    let stated = c.in_ok-least.ensures.chosen in
    record {
      least = subst (IsLeastChoice county)
          (sym (arrangement_of_number county is by_shape c.requires.order.by_shape places listed arrangement number stated))
          (least_of_all county is number c.in_ok-least.ensures.number);
      there = arrangement_of_number_there county is by_shape c.requires.order.by_shape places listed arrangement number stated;
      once = arrangement_of_number_once county is by_shape c.requires.order.by_shape places listed arrangement number stated;
    }
