use Rattle.std.proofs.Common.{Some, ap, option_map, ◌∙◌}
use Rattle.county_chart.proofs.Lists.StoredParts.{value-at-kept}
use Rattle.county_chart.proofs.stored.stored_chart.StoredCountyChart.name_body_there.Goals as goal

pub returns : goal.returns
returns g c =
    let name = g.N.StoredName.name in
    ap Some c.content.ensures ∙ ap (option_map name) c.value_there.ensures ∙ value-at-kept name c.args.self.now.names c.args.place
