use Rattle.std.proofs.Common.{ap, option_map, ◌∙◌}
use Rattle.county_chart.proofs.Lists.StoredParts.{value-at-kept}
use Rattle.county_chart.proofs.stored.StoredCounty.chain_there.Goals as goal

pub returns : goal.returns
returns g c =
    let chain = g.C.StoredChain.chain in
    ap (option_map chain) c.value_there.ensures ∙ value-at-kept chain c.args.self.now.chains c.args.place
