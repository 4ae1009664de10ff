-- Records of types 4, I and P that fit and have the same spelling are the same.
use Rattle.record_groups.proofs.Common.{AllByRecursion, County, Eight, Four, IsCounty, IsWithinLimits, One, P, Two, all_left, all_right, all_unmap, grouped, map, most_records, packed-fits, subst, sym, topologies_of, type_1_by_chain, type_2_by_chain, type_4_by_chain, type_8_together, type_p_by_number, types_1_to_4, types_5_to_7, types_8_to_p, ◌++◌}
use Rattle.record_groups.proofs.Records.PackedGroups.{all_groups}
use Rattle.tl_layout.specs.RecordText.{FitsRecord}

-- the records of a county within its limits fit
module _ (county : County) (is : IsCounty county) (within : IsWithinLimits most_records county) where
  all_fit : AllByRecursion FitsRecord (types_1_to_4 county ++ (types_5_to_7 county ++ types_8_to_p county))
  all_fit = subst (AllByRecursion FitsRecord) (sym (all_groups county))
      (packed-fits county is.whole within.contents within.numbers within.lists)

  pub fours_fit : AllByRecursion (λ r. FitsRecord (Four r)) (grouped (type_4_by_chain county))
  fours_fit = all_unmap FitsRecord Four (grouped (type_4_by_chain county))
      (all_right FitsRecord (map Two (grouped (type_2_by_chain county))) (map Four (grouped (type_4_by_chain county)))
      (all_right FitsRecord (map One (grouped (type_1_by_chain county)))
      (map Two (grouped (type_2_by_chain county)) ++ map Four (grouped (type_4_by_chain county)))
      (all_left FitsRecord (types_1_to_4 county) (types_5_to_7 county ++ types_8_to_p county) all_fit)))

  last_fit : AllByRecursion FitsRecord (types_8_to_p county)
  last_fit = all_right FitsRecord (types_5_to_7 county) (types_8_to_p county)
      (all_right FitsRecord (types_1_to_4 county) (types_5_to_7 county ++ types_8_to_p county) all_fit)

  after_links : AllByRecursion FitsRecord (topologies_of county ++ map P (grouped (type_p_by_number county)))
  after_links = all_right FitsRecord (map Eight (grouped (type_8_together county))) (topologies_of county ++ map P (grouped (type_p_by_number county))) last_fit

  pub topologies_fit : AllByRecursion FitsRecord (topologies_of county)
  topologies_fit = all_left FitsRecord (topologies_of county) (map P (grouped (type_p_by_number county))) after_links

  pub polygons_fit : AllByRecursion (λ r. FitsRecord (P r)) (grouped (type_p_by_number county))
  polygons_fit = all_unmap FitsRecord P (grouped (type_p_by_number county))
      (all_right FitsRecord (topologies_of county) (map P (grouped (type_p_by_number county))) after_links)
