-- A county within its limits has few enough chains for 32-bit places.
use Rattle.county_chart.proofs.Common.{County, HasAtMost, IsWithinLimits, arith, by_type_of, by_type_within, length, length-map, map, most_records, subst, ◌<◌, ◌^◌, ◌≤◌}
use Rattle.county_chart.specs.Packing.{packed, packed_by_type, packed_one}

pub few_chains : (county : County) → IsWithinLimits most_records county → length county.chains < 2 ^ 32
few_chains county within =
    let counts : HasAtMost most_records (packed_by_type county) =
    subst (HasAtMost most_records) (by_type_of (packed_by_type county)) (by_type_within most_records (packed county) within.counts) in
    let ones : length (map packed_one county.chains) ≤ most_records = counts.of_type_1 in
    omega (arith, ones, length-map county.chains packed_one)
