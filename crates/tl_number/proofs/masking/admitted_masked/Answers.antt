use Rattle.tl_number.proofs.Common.{County, IsInProfile, IsShapeOrder, masked_in_profile, masked_shape_order, subst, sym}
use Rattle.tl_number.proofs.masking.admitted_masked.Goals as goal

pub known-requires-clause-profile : goal.known-requires-clause-profile
known-requires-clause-profile g c =
    subst IsInProfile (sym c.in_ok-masked_chart.ensures.county)
    (masked_in_profile c.args.mask (g.C.Chart.county c.into_parts-chart.result.0) c.into_parts-chart.ensures.in_profile)

pub known-requires-clause-shapes : goal.known-requires-clause-shapes
known-requires-clause-shapes g c =
    subst (λ (county : County). IsShapeOrder county c.into_parts-chart.result.1) (sym c.in_ok-masked_chart.ensures.county)
    (masked_shape_order c.args.mask (g.C.Chart.county c.into_parts-chart.result.0) c.into_parts-chart.result.1
    c.into_parts-chart.ensures.shapes)
