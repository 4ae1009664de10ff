use Rattle.tl_number.proofs.Common.{places_within}
use Rattle.tl_number.proofs.least_choice.least_in_part.Goals as goal

pub least_among_choices-requires-clause-known : goal.least_among_choices-requires-clause-known
least_among_choices-requires-clause-known g c = record {
  order = c.in_ok-order.ensures;
  few = c.requires.few;
  within = places_within (g.C.Chart.county c.args.part.now) (g.met.C.Chart.is_county c.args.part.now) c.in_ok-order.order.by_shape
      c.in_ok-order.ensures.by_shape c.in_ok-order.order.places (c.in_ok-order.ensures.places c.requires.few);
  sides = c.requires.sides;
}
