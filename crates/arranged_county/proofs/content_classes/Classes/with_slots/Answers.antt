use Rattle.arranged_county.proofs.Common.{County, HasAtMost, IsCounty, arith, few_landmarks, few_names, flat_map, length, subst, ◌≤◌}
use Rattle.county_chart.specs.Limits.{IsWithinLimits}
use Rattle.county_chart.specs.Laws.PackedTypes.{by_type_of}
use Rattle.county_chart.specs.Laws.TypeCounts.{by_type_within}
use Rattle.tl_layout.specs.Limits.{most_records}
use Rattle.county_chart.specs.Packing.{packed, packed_by_type, packed_sevens}
use Rattle.arranged_county.proofs.content_classes.Classes.with_slots.Goals as goal

-- a county has at most as many landmarks as records of one type
few_bodies : (county : County) → IsCounty county → IsWithinLimits most_records county → length county.landmarks ≤ most_records
few_bodies county is within =
    let counts : HasAtMost most_records (packed_by_type county) =
    subst (HasAtMost most_records) (by_type_of (packed_by_type county)) (by_type_within most_records (packed county) within.counts) in
    let sevens : length (flat_map packed_sevens county.landmarks) ≤ most_records = counts.of_type_7 in
    let lands = few_landmarks county is in
    omega (arith, sevens, lands)

pub invariant_of-contents : goal.invariant_of-contents
invariant_of-contents g c =
    let few = few_names (g.C.Chart.county c.args.chart.now) (g.met.C.Chart.within_limits c.args.chart.now) in
    record { few = omega (arith, few) }

pub invariant_of-bodies : goal.invariant_of-bodies
invariant_of-bodies g c =
    let few = few_bodies (g.C.Chart.county c.args.chart.now) (g.met.C.Chart.is_county c.args.chart.now) (g.met.C.Chart.within_limits c.args.chart.now) in
    record { few = omega (arith, few) }
