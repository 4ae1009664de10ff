use Rattle.tl_profile.proofs.Common.{AllByRecursion, HasFirstPoints, ap, is_eq, map, points_cmp, subst, sym, whole_shape, ◌∙◌}
use Rattle.tl_profile.proofs.PlacedOrder.{placed-whole}
use Rattle.county_chart.specs.Choices.{is_first}
use Rattle.tl_profile.proofs.open_places.is_twin.Goals as goal

pub returns-in-Some : goal.returns-in-Some
returns-in-Some g c =
    let county = g.C.Chart.county c.args.chart.now in
    let shape = c.args.shape.now in
    let next = c.in-Some.next.now in
    let split = c.in-Some.ensures.cases.0 in
    let heads = subst (AllByRecursion (HasFirstPoints county)) split c.requires.later in
    c.is_eq.ensures
    ∙ ap is_eq (c.compare_shapes.ensures ∙ placed-whole county shape next c.requires.shape heads.0)
    ∙ ap (λ l. is_first points_cmp (whole_shape county shape) (map (whole_shape county) l)) (sym split)
