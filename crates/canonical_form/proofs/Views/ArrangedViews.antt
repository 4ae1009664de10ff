-- Directed chains that name each chain once turn a county into a county.
use Rattle.canonical_form.proofs.Common.{AllKeysContained, AreWhole, Arrangement, Arranges, County, DirectedChain, HasChainsOf, IsApart, IsCounty, IsWithinLimits, List, NamesEachOnce, apart-permutation_of, apart_from_sorted, arith, arranged_tlids, arrangement_of, length, most_records, nat_cmp, nat_keys, polygon_keys, polygons_along, tlids, ◌<◌, ◌^◌}
use Rattle.canonical_form.proofs.Arrangements.ArrangedCounties.{arranged_county}
use Rattle.canonical_form.proofs.Arrangements.ArrangedNumbers.{arrangement_within}

pub arranges_once : (county : County) (order : Arrangement) → IsCounty county → NamesEachOnce county order → Arranges order county
arranges_once county order is once =
    let apart : IsApart nat_cmp (tlids county) = apart_from_sorted nat_keys (tlids county) is.ascending.chains in
    apart-permutation_of nat_keys (arranged_tlids order) (tlids county)
    (λ k. let same = once k in let few = apart k in omega (arith, same, few)) apart
    (λ k h. let same = once k in omega (arith, same, h)) (λ k h. let same = once k in omega (arith, same, h))

pub whole_arrangement : (county : County) (arrangement : List DirectedChain) → IsCounty county → IsWithinLimits most_records county → HasChainsOf county arrangement
    → NamesEachOnce county (arrangement_of county arrangement) → AllKeysContained (polygons_along county.chains) (polygon_keys county)
    → length county.chains < 2 ^ 32 → AreWhole county arrangement
whole_arrangement county arrangement is within there once sides few = record {
  there = there;
  once = once;
  few = few;
  is_county = arranged_county county (arrangement_of county arrangement) is
      (arranges_once county (arrangement_of county arrangement) is once) sides;
  within_limits = arrangement_within most_records (omega arith) county is (arrangement_of county arrangement)
      (arranges_once county (arrangement_of county arrangement) is once) sides within;
}
