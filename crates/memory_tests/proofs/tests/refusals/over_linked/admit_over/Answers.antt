use Rattle.std.proofs.Common.{subst, sym}
use Rattle.county_chart.specs.County.{County}
use Rattle.county_chart.specs.CountyRules.{is_without_chain}
use Rattle.ordered_lists.specs.Keyed.{IsLeastPassing}
use Rattle.county_chart.specs.PolygonKeys.{key_cmp}
use Rattle.memory_tests.proofs.tests.refusals.over_linked.admit_over.Goals as goal

pub admit_linked-requires : goal.admit_linked-requires
admit_linked-requires c =
    subst (λ (county : County). IsLeastPassing key_cmp (is_without_chain county) c.polygon_without_chain.result) (sym c.requires)
    c.polygon_without_chain.ensures
