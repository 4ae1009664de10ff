use Rattle.arranged_county.proofs.Common.{ap, numbered, ◌∙◌}
use Rattle.arranged_county.proofs.Views.RenamingPairs.{lands_found}
use Rattle.arranged_county.proofs.number_pairs.land_pairs.Goals as goal

pub returns : goal.returns
returns g c = λ ls stated.
    c.in_ok-pairs.ensures
    ∙ ap numbered (c.deref.ensures.value ∙ c.in_ok-lands.ensures
    ∙ lands_found (g.C.Chart.county c.args.chart.now) c.args.places.now ls stated)
