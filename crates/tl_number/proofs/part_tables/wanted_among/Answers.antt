use Rattle.tl_number.proofs.Common.{ap, at_places, ◌∙◌}
use Rattle.tl_number.proofs.part_tables.wanted_among.Goals as goal

pub returns : goal.returns
returns g c = record {
  places = c.in_ok-places.ensures;
  keys = c.in_ok-keys.ensures ∙ ap (at_places (g.L.Listed.items c.args.all.now)) (c.deref.ensures.value ∙ c.in_ok-places.ensures);
}
