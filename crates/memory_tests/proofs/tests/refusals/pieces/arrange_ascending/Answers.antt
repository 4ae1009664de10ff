use Rattle.std.proofs.Common.{subst, sym}
use Rattle.county_chart.specs.CountyRules.{tlids}
use Rattle.ordered_lists.proofs.ByKey.Keys.{nat_keys, times-permutation}
use Rattle.canonical_form.specs.Arrangement.{arranged_tlids, ascending}
use Rattle.canonical_form.specs.WholeArrangements.{NamesEachOnce}
use Rattle.canonical_form.proofs.CanonicalLists.Ascending.{sides_in_profile}
use Rattle.canonical_form.proofs.Choices.TidyChoices.{shapes_arrange}
use Rattle.memory_tests.proofs.tests.refusals.pieces.arrange_ascending.Goals as goal

pub arrange-requires-clause-once : goal.arrange-requires-clause-once
arrange-requires-clause-once g c =
    let county = g.C.Chart.county c.args.chart in
    subst (NamesEachOnce county) (sym c.requires.ascending)
    (λ tlid. sym (times-permutation nat_keys tlid (arranged_tlids (ascending county)) (tlids county)
    (shapes_arrange county (g.met.C.Chart.is_county c.args.chart))))

pub arrange-requires-clause-sides : goal.arrange-requires-clause-sides
arrange-requires-clause-sides g c =
    sides_in_profile (g.C.Chart.county c.args.chart) (g.met.C.Chart.is_county c.args.chart) c.requires.profile
