use Rattle.arranged_county.proofs.Common.{places_fit, whole_arrangement}
use Rattle.arranged_county.proofs.arranging.with_tables.Goals as goal

pub invariant_of-result-clause-whole : goal.invariant_of-result-clause-whole
invariant_of-result-clause-whole g c =
    let county = g.C.Chart.county c.args.chart in
    let is = g.met.C.Chart.is_county c.args.chart in
    let within = g.met.C.Chart.within_limits c.args.chart in
    whole_arrangement county c.args.arrangement.items is within c.requires.there c.requires.once c.requires.sides
    (places_fit county is within c.requires.sides).chains

pub invariant_of-result-clause-stands : goal.invariant_of-result-clause-stands
invariant_of-result-clause-stands g c = ∣ tt ∣₁
