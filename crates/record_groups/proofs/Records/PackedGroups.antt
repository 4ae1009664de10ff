-- The groups of a county's records, joined, are its packing.
use Rattle.record_groups.proofs.Common.{BodyP, County, Eight, FieldsP, Five, Four, I, List, None, One, Option, P, PolygonKey, Seven, Six, Some, Two, ap, append-nil, append_assoc, entry_polyid, filter_map, flat_map, grouped, in_order, map, nat_cmp, on, p_polyid, packed, packed_body, packed_five, packed_fours, packed_i, packed_one, packed_p, packed_sevens, packed_sixes, packed_twos, polygons_by_number, type_1_by_chain, type_2_by_chain, type_4_by_chain, type_5_by_name, type_6_by_chain, type_7_by_landmark, type_8_together, type_i_by_chain, type_p_by_number, types_1_to_4, types_5_to_7, types_8_to_p, ◌++◌, ◌∙◌, ◌≡◌}
use Rattle.record_groups.proofs.Records.Grouped.{grouped_lone, grouped_map}
use Rattle.record_groups.proofs.Records.Selected.{grouped_selected, selected_in_order}

same_polyid : (entry : PolygonKey × Option BodyP) (r : FieldsP) → packed_p entry ≡ Some r → entry_polyid entry ≡ p_polyid r
same_polyid entry r e = go entry.1 e
  where
    go : (o : Option BodyP) → packed_body entry.0 o ≡ Some r → entry.0.1 ≡ p_polyid r
    go None f = cc
    go (Some body) f = ap p_polyid (let same : record { cenid = entry.0.0; polyid = entry.0.1; body = body } ≡ r = cc in same)

-- three lists before a fourth
three_more : {X : Type 0} (a b c rest : List X) → (a ++ (b ++ c)) ++ rest ≡ a ++ (b ++ (c ++ rest))
three_more a b c rest = append_assoc a (b ++ c) rest ∙ ap (λ xs. a ++ xs) (append_assoc b c rest)

module _ (county : County) where
  pub ones : map One (grouped (type_1_by_chain county)) ≡ map One (map packed_one county.chains)
  ones = ap (map One) (grouped_lone packed_one county.chains)

  pub twos : map Two (grouped (type_2_by_chain county)) ≡ map Two (flat_map packed_twos county.chains)
  twos = ap (map Two) (grouped_map packed_twos county.chains)

  pub fours : map Four (grouped (type_4_by_chain county)) ≡ map Four (flat_map packed_fours county.chains)
  fours = ap (map Four) (grouped_map packed_fours county.chains)

  pub fives : map Five (grouped (type_5_by_name county)) ≡ map Five (map packed_five county.names)
  fives = ap (map Five) (grouped_lone packed_five county.names)

  pub sixes : map Six (grouped (type_6_by_chain county)) ≡ map Six (flat_map packed_sixes county.chains)
  sixes = ap (map Six) (grouped_map packed_sixes county.chains)

  pub sevens : map Seven (grouped (type_7_by_landmark county)) ≡ map Seven (flat_map packed_sevens county.landmarks)
  sevens = ap (map Seven) (grouped_map packed_sevens county.landmarks)

  pub eights : map Eight (grouped (type_8_together county)) ≡ map Eight county.links
  eights = ap (map Eight) (append-nil county.links)

  pub is : map I (grouped (type_i_by_chain county)) ≡ map I (map packed_i county.chains)
  is = ap (map I) (grouped_lone packed_i county.chains)

  pub ps : map P (grouped (type_p_by_number county)) ≡ map P (in_order (on p_polyid nat_cmp) (filter_map packed_p county.polygons))
  ps = ap (map P) (grouped_selected packed_p (polygons_by_number county)
      ∙ selected_in_order entry_polyid p_polyid packed_p same_polyid county.polygons)

  -- The groups of all types are the packing.
  pub all_groups : types_1_to_4 county ++ (types_5_to_7 county ++ types_8_to_p county) ≡ packed county
  all_groups = three_more (map One (grouped (type_1_by_chain county))) (map Two (grouped (type_2_by_chain county)))
      (map Four (grouped (type_4_by_chain county))) (types_5_to_7 county ++ types_8_to_p county)
      ∙ (λ i. ones i ++ (twos i ++ (fours i ++ three_more (map Five (grouped (type_5_by_name county)))
      (map Six (grouped (type_6_by_chain county))) (map Seven (grouped (type_7_by_landmark county))) (types_8_to_p county) i)))
      ∙ (λ i. map One (map packed_one county.chains) ++ (map Two (flat_map packed_twos county.chains)
      ++ (map Four (flat_map packed_fours county.chains) ++ (fives i ++ (sixes i ++ (sevens i ++ (eights i ++ (is i ++ ps i))))))))
