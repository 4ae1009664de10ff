-- The packing of a county is linked.
use Rattle.canonical_form.proofs.Common.{Bool, County, IsApart, IsCounty, IsLinked, IsTrue, Known, LandUnknown, LinkMissing, LinkTwice, List, NameTwice, NameUnknown, NoChain, PolygonTwice, PolygonUnknown, SequenceBroken, all_map, ap, apart_from_sorted, chain_tlids, contains, eight_land, false, false≢true, flat_map, i_tlid, key_cmp, key_keys, known_all, lands, le-ltb, link_key, lt-ltb, ltb-true, map, nat_cmp, nat_keys, nat_lt, not, of_type_7, of_type_8, of_type_i, of_type_p, p_key, packed, polygon_keys, refl, rules, seven_land, side_keys, times, tlids, true, ℕ, ◌&&◌, ◌++◌, ◌∙◌, ◌≡◌}
use Rattle.canonical_form.proofs.Packing.PackedNumbers.{chain_numbers, eights, link_numbers, name_numbers, tlids_apart}
use Rattle.canonical_form.proofs.Packing.PackedChains.{all_linked, sequence}
use Rattle.canonical_form.proofs.Packing.PackedNamed.{few_polygons, key_contained, land_contained, named}
use Rattle.county_chart.specs.declared.fault.LinkFault.TheVariants.{ChainTwice, Memory}

-- if the second of two tests holds whenever the first does, the first never holds alone
implied : (a b : Bool) → (a ≡ true → b ≡ true) → (a && not b) ≡ false
implied true true h = refl
implied true false h = absurd (false≢true (h refl))
implied false true h = refl
implied false false h = refl

module _ (c : County) (is : IsCounty c) where
  -- if numbers are distinct, no rule on numbers that occur twice is broken
  once : (numbers known : List ℕ) → numbers ≡ known → IsApart nat_cmp known → (n : ℕ) → nat_lt 1 (times nat_cmp n numbers) ≡ false
  once numbers known e apart n = ap (λ ks. nat_lt 1 (times nat_cmp n ks)) e ∙ le-ltb 1 (times nat_cmp n known) (apart n)

  pub packed_linked : IsLinked (packed c)
  packed_linked (ChainTwice tlid) = once (chain_tlids (packed c)) (tlids c) (chain_numbers c is) (tlids_apart c is) tlid
  packed_linked (NoChain rtype tlid) = search (rules, implied, known_all, nat_keys, all_linked, ltb-true, chain_numbers, lt-ltb)
  packed_linked (SequenceBroken rtype tlid) = (sequence c is) rtype tlid
  packed_linked (LinkMissing tlid) = search (rules, implied, link_numbers, chain_numbers)
  packed_linked (LinkTwice tlid) = once (map i_tlid (of_type_i (packed c))) (tlids c) (link_numbers c is) (tlids_apart c is) tlid
  packed_linked (NameTwice feat) = search (rules, once, name_numbers, apart_from_sorted, nat_keys)
  packed_linked (NameUnknown tlid feat) = search (rules, implied, name_numbers, known_all, nat_keys, named, ltb-true)
  packed_linked (PolygonTwice cenid polyid) = search (rules, le-ltb, few_polygons)
  packed_linked (LandUnknown land) =
      implied (contains nat_cmp land (map eight_land (of_type_8 (packed c))))
      (contains nat_cmp land (map seven_land (of_type_7 (packed c))))
      (λ t. let known : Known nat_cmp (map eight_land c.links) land = search (rules, eights, ltb-true) in
      let listed : IsTrue (contains nat_cmp land (lands c)) =
      known_all nat_keys (λ n. IsTrue (contains nat_cmp n (lands c))) (map eight_land c.links)
      (all_map (λ n. IsTrue (contains nat_cmp n (lands c))) eight_land c.links is.closed.link_lands) land known in
      lt-ltb 0 (times nat_cmp land (map seven_land (of_type_7 (packed c))))
      ((land_contained c is) land (ltb-true 0 (times nat_cmp land (lands c)) listed)))
  packed_linked (PolygonUnknown cenid polyid) =
      implied (contains key_cmp (cenid, polyid) (map link_key (of_type_8 (packed c))))
      (contains key_cmp (cenid, polyid) (flat_map side_keys (of_type_i (packed c)) ++ map p_key (of_type_p (packed c))))
      (λ t. let known : Known key_cmp (map link_key c.links) (cenid, polyid) = search (rules, eights, ltb-true) in
      let listed : IsTrue (contains key_cmp (cenid, polyid) (polygon_keys c)) =
      known_all key_keys (λ k. IsTrue (contains key_cmp k (polygon_keys c))) (map link_key c.links)
      (all_map (λ k. IsTrue (contains key_cmp k (polygon_keys c))) link_key c.links is.closed.link_polygons) (cenid, polyid) known in
      lt-ltb 0 (times key_cmp (cenid, polyid) (flat_map side_keys (of_type_i (packed c)) ++ map p_key (of_type_p (packed c))))
      ((key_contained c is) (cenid, polyid) (ltb-true 0 (times key_cmp (cenid, polyid) (polygon_keys c)) listed)))
  packed_linked Memory = refl
