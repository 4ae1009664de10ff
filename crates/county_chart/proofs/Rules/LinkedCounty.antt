-- The county of a linked list of records: its numbers ascend, and each number that it names exists.
use Rattle.county_chart.proofs.Common.{AllByRecursion, AllKeysContained, Among, Body7, Bool, Chain, ChainTwice, Fields1, Fields4, Fields5, Fields7, Fields8, FieldsI, FieldsP, I, IsApart, IsCounty, IsLinked, IsStrictlySortedBy, IsTrue, IsWhole, Known, LandUnknown, LinkMissing, LinkTwice, List, NameTwice, NameUnknown, NoChain, PolygonKey, PolygonUnknown, Record, [], all-in_order, all_everywhere, all_joined, all_known, all_map, all_weaker, among-map, among-pieces, among-unmap, among_known, ap, arith, chain_of, chain_tlids, chains_of, common_steps, cond, contains, county_of, distinct, distinct-strict, each_from, eight_land, eq-eqb, false, false≢true, feats, filter, first, five_feat, flat_map, four_rtsq, four_tlid, from_in_order, further_names, i_tlid, in_order, in_order-in_order, in_order-map, inl, inr, is_eq, is_some, key_cmp, key_keys, known-append, known-distinct, known-left, known_from_distinct, known_is_among, landmark_body_cmp, landmark_body_keys, lands, length, length-append, length-in_order, length-map, link_key, link_keys, lt-ltb, ltb-false, ltb-true, map, map-id, map-map, named_feats, nat_cmp, nat_cmp_total, nat_keys, nat_lt, not, of_number, of_type_1, of_type_4, of_type_5, of_type_7, of_type_8, of_type_i, of_type_p, on, on_total, one_tlid, only_one, or_left, or_right, p_key, polygon_body, polygon_keys, polygons_along, refl, rules, seven_land, shape_points, side_keys, strict_from_order, subst, sym, times, times-in_order, times-no, tlids, to_filter, to_in_order, true, ℕ, ◌&&◌, ◌++◌, ◌<◌, ◌||◌, ◌∙◌, ◌∷◌, ◌≡◌, ◌≤◌, ◌⊎◌}
use Rattle.county_chart.proofs.Lists.OfNumber.{of_number-among, times-of_number}
use Rattle.county_chart.proofs.Sameness.Carried.{among-unpieces}

-- if a test never holds without another, the other holds whenever it does
pub needed : (a b : Bool) → (a && not b) ≡ false → a ≡ true → b ≡ true
needed a true e t = refl
needed true false e t = absurd (false≢true (sym e))
needed false false e t = absurd (false≢true t)

-- a polygon that has a type P record has content
some_body : (key : PolygonKey) (rs : List FieldsP) → Known key_cmp (map p_key rs) key
    → is_some (first (map (λ (r : FieldsP). r.body) (filter (λ r. is_eq (key_cmp key (p_key r))) rs))) ≡ true
some_body key [] k = absurd (omega (arith, k))
some_body key (r ∷ rs) k = go (is_eq (key_cmp key (p_key r))) refl (some_body key rs)
  where
    go : (b : Bool) → is_eq (key_cmp key (p_key r)) ≡ b
        → (Known key_cmp (map p_key rs) key
        → is_some (first (map (λ (q : FieldsP). q.body) (filter (λ q. is_eq (key_cmp key (p_key q))) rs))) ≡ true)
        → is_some (first
        (map (λ (q : FieldsP). q.body)
        (cond b (r ∷ filter (λ q. is_eq (key_cmp key (p_key q))) rs) (filter (λ q. is_eq (key_cmp key (p_key q))) rs)))) ≡ true
    go true e ih = refl
    go false e ih = ih (omega (arith, times-no key_keys key (p_key r) (map p_key rs) e, k))

module _ (records : List Record) (linked : IsLinked records) where
  pub apart_chains : IsApart nat_cmp (chain_tlids records)
  apart_chains n = ltb-false 1 (times nat_cmp n (chain_tlids records)) (linked (ChainTwice n))

  -- a chain has exactly one type I record
  pub one_link : (n : ℕ) → Known nat_cmp (chain_tlids records) n → times nat_cmp n (map i_tlid (of_type_i records)) ≡ 1
  one_link n k =
      let some : 0 < times nat_cmp n (map i_tlid (of_type_i records)) =
      ltb-true 0 (times nat_cmp n (map i_tlid (of_type_i records)))
      (needed (contains nat_cmp n (chain_tlids records)) (contains nat_cmp n (map i_tlid (of_type_i records)))
      (linked (LinkMissing n)) (lt-ltb 0 (times nat_cmp n (chain_tlids records)) k)) in
      let few : times nat_cmp n (map i_tlid (of_type_i records)) ≤ 1 =
      ltb-false 1 (times nat_cmp n (map i_tlid (of_type_i records))) (linked (LinkTwice n)) in
      omega arith

  pub the_link : (n : ℕ) → Known nat_cmp (chain_tlids records) n → (link : FieldsI) × (of_number i_tlid n (of_type_i records) ≡ link ∷ [])
  the_link n k = only_one (of_number i_tlid n (of_type_i records)) (sym (times-of_number i_tlid n (of_type_i records)) ∙ one_link n k)

  tlids_of : (rs : List Fields1) → AllByRecursion (λ r. Known nat_cmp (chain_tlids records) r.tlid) rs
      → map (λ (c : ℕ × Chain). c.0)
      (flat_map (λ r. map (λ link. (r.tlid, chain_of records r link)) (of_number i_tlid r.tlid (of_type_i records))) rs) ≡ map one_tlid rs
  tlids_of [] h = refl
  tlids_of (r ∷ rs) h = search (rules, the_link, tlids_of rs h.1)

  ones_known : AllByRecursion (λ r. Known nat_cmp (chain_tlids records) r.tlid) (in_order (on one_tlid nat_cmp) (of_type_1 records))
  ones_known = search (rules, common_steps, all-in_order, each_from, among_known, nat_keys, among-map)

  pub tlids-county : tlids (county_of records) ≡ map one_tlid (in_order (on one_tlid nat_cmp) (of_type_1 records))
  tlids-county = tlids_of (in_order (on one_tlid nat_cmp) (of_type_1 records)) ones_known

  strict_numbers : {X : Type 0} (f : X → ℕ) (xs : List X) → ((n : ℕ) → times nat_cmp n (map f xs) ≤ 1)
      → IsStrictlySortedBy nat_cmp (map f (in_order (on f nat_cmp) xs))
  strict_numbers f xs few =
      search (rules, strict_from_order, nat_keys, in_order-map, in_order-in_order, on_total, nat_cmp_total, times-in_order)

  pub feats-county : feats (county_of records) ≡ map five_feat (in_order (on five_feat nat_cmp) (of_type_5 records))
  feats-county = map-map (λ (d : ℕ × _). d.0) (λ (r : Fields5). (r.feat, r.body)) (in_order (on five_feat nat_cmp) (of_type_5 records))

  abbrev all_keys : List PolygonKey
  all_keys = flat_map side_keys (of_type_i records) ++ map p_key (of_type_p records)

  pub keys-county : polygon_keys (county_of records) ≡ distinct key_cmp all_keys
  keys-county = search (rules, common_steps, map-map, map-id)

  pub lands-county : lands (county_of records) ≡ distinct nat_cmp (map seven_land (of_type_7 records))
  lands-county = search (rules, common_steps, map-map, map-id)

  -- each name of a chain has a type 5 record
  name_contained : (n y : ℕ) → Among y (further_names records n) → IsTrue (contains nat_cmp y (feats (county_of records)))
  name_contained n y m =
      let r = among-unpieces (λ (q : Fields4). q.feats) y (in_order (on four_rtsq nat_cmp) (of_number four_tlid n (of_type_4 records))) m in
      let named : Known nat_cmp (named_feats n records) y = search (rules, among_known, nat_keys, among-pieces, from_in_order) in
      let t : contains nat_cmp y (map five_feat (of_type_5 records)) ≡ true =
      needed (contains nat_cmp y (named_feats n records)) (contains nat_cmp y (map five_feat (of_type_5 records)))
      (linked (NameUnknown n y)) (lt-ltb 0 (times nat_cmp y (named_feats n records)) named) in
      ap (contains nat_cmp y) feats-county ∙ ap (nat_lt 0) (times-in_order nat_cmp five_feat (on five_feat nat_cmp) (of_type_5 records) y)
      ∙ t

  key_contained : (k : PolygonKey) → Known key_cmp all_keys k → IsTrue (contains key_cmp k (polygon_keys (county_of records)))
  key_contained k l = search (rules, keys-county, lt-ltb, known-distinct, key_keys)

  side_contained : (link : FieldsI) → Among link (of_type_i records) → AllKeysContained (polygon_keys (county_of records)) (side_keys link)
  side_contained link m = search (rules, each_from, key_contained, known-left, key_keys, among_known, among-pieces)

  -- a property of the chain of each pair of records is a property of each chain of the county
  pub chains_all : (P : ℕ × Chain → Type 0) → ((r : Fields1) (link : FieldsI) → Among r (of_type_1 records) → Among link (of_type_i records)
      → P (r.tlid, chain_of records r link)) → AllByRecursion P (chains_of records)
  chains_all P h = all_joined P (λ r. map (λ link. (r.tlid, chain_of records r link)) (of_number i_tlid r.tlid (of_type_i records)))
      (in_order (on one_tlid nat_cmp) (of_type_1 records))
      (each_from (λ r. AllByRecursion P (map (λ link. (r.tlid, chain_of records r link)) (of_number i_tlid r.tlid (of_type_i records))))
      (in_order (on one_tlid nat_cmp) (of_type_1 records))
      (λ r n. all_map P (λ link. (r.tlid, chain_of records r link)) (of_number i_tlid r.tlid (of_type_i records))
      (all_weaker (λ link. Among link (of_type_i records)) (λ link. P (r.tlid, chain_of records r link))
      (λ link. h r link (from_in_order (on one_tlid nat_cmp) (of_type_1 records) r n)) (of_number i_tlid r.tlid (of_type_i records))
      (of_number-among i_tlid r.tlid (of_type_i records)))))

  land_contained : (link : Fields8) → Among link (of_type_8 records) → IsTrue (contains nat_cmp link.land (lands (county_of records)))
  land_contained link m =
      let named : Known nat_cmp (map eight_land (of_type_8 records)) link.land = search (rules, among_known, nat_keys, among-map) in
      let t : contains nat_cmp link.land (map seven_land (of_type_7 records)) ≡ true =
      needed (contains nat_cmp link.land (map eight_land (of_type_8 records)))
      (contains nat_cmp link.land (map seven_land (of_type_7 records))) (linked (LandUnknown link.land))
      (lt-ltb 0 (times nat_cmp link.land (map eight_land (of_type_8 records))) named) in
      ap (contains nat_cmp link.land) lands-county
      ∙ lt-ltb 0 (times nat_cmp link.land (distinct nat_cmp (map seven_land (of_type_7 records))))
      (known-distinct nat_keys (map seven_land (of_type_7 records)) link.land
      (ltb-true 0 (times nat_cmp link.land (map seven_land (of_type_7 records))) t))

  link_key_contained : (link : Fields8) → Among link (of_type_8 records)
      → IsTrue (contains key_cmp (link_key link) (polygon_keys (county_of records)))
  link_key_contained link m =
      let named : Known key_cmp (map link_key (of_type_8 records)) (link_key link) = search (rules, among_known, key_keys, among-map) in
      let t : contains key_cmp (link_key link) all_keys ≡ true =
      needed (contains key_cmp (link_key link) (map link_key (of_type_8 records))) (contains key_cmp (link_key link) all_keys)
      (linked (PolygonUnknown link.cenid link.polyid))
      (lt-ltb 0 (times key_cmp (link_key link) (map link_key (of_type_8 records))) named) in
      key_contained (link_key link) (ltb-true 0 (times key_cmp (link_key link) all_keys) t)

  -- each type I record belongs to a chain of the county
  pub linked_chain : (link : FieldsI) → Among link (of_type_i records)
      → (r : Fields1) × Among (r.tlid, chain_of records r link) (chains_of records)
  linked_chain link m =
      let named : Known nat_cmp (map i_tlid (of_type_i records)) link.tlid = search (rules, among_known, nat_keys, among-map) in
      let t : contains nat_cmp link.tlid (chain_tlids records) ≡ true =
      needed (contains nat_cmp link.tlid (map i_tlid (of_type_i records))) (contains nat_cmp link.tlid (chain_tlids records))
      (linked (NoChain I link.tlid)) (lt-ltb 0 (times nat_cmp link.tlid (map i_tlid (of_type_i records))) named) in
      let r = among-unmap one_tlid link.tlid (of_type_1 records)
      (known_is_among nat_keys link.tlid (chain_tlids records) (ltb-true 0 (times nat_cmp link.tlid (chain_tlids records)) t)) in
      let there : Among link (of_number i_tlid r.0.tlid (of_type_i records)) = search (rules, to_filter, eq-eqb) in (
        r.0,
        among-pieces (λ (q : Fields1). map (λ l. (q.tlid, chain_of records q l)) (of_number i_tlid q.tlid (of_type_i records))) r.0
            (r.0.tlid, chain_of records r.0 link) (in_order (on one_tlid nat_cmp) (of_type_1 records))
            (to_in_order (on one_tlid nat_cmp) (of_type_1 records) r.0 r.1)
            (among-map (λ l. (r.0.tlid, chain_of records r.0 l)) link (of_number i_tlid r.0.tlid (of_type_i records)) there),
      )

  polygon_whole : (key : PolygonKey) → Known key_cmp (distinct key_cmp all_keys) key
      → IsTrue (is_some (polygon_body records key) || contains key_cmp key (polygons_along (chains_of records)))
  polygon_whole key k =
      go (known-append key_keys key (flat_map side_keys (of_type_i records)) (map p_key (of_type_p records))
      (known_from_distinct key_keys all_keys key k))
    where
      go : Known key_cmp (flat_map side_keys (of_type_i records)) key ⊎ Known key_cmp (map p_key (of_type_p records)) key
          → IsTrue (is_some (polygon_body records key) || contains key_cmp key (polygons_along (chains_of records)))
      go (inl side) =
          let link = among-unpieces side_keys key (of_type_i records)
          (known_is_among key_keys key (flat_map side_keys (of_type_i records)) side) in
          let chain = linked_chain link.0 link.1 in
          let along : Among key (polygons_along (chains_of records)) = search (rules, among-pieces) in
          or_right (is_some (polygon_body records key)) (contains key_cmp key (polygons_along (chains_of records)))
          (lt-ltb 0 (times key_cmp key (polygons_along (chains_of records)))
          (among_known key_keys key (polygons_along (chains_of records)) along))
      go (inr body) = search (rules, or_left, some_body)

  some_content : (land : ℕ) → Known nat_cmp (distinct nat_cmp (map seven_land (of_type_7 records))) land
      → 1 ≤ length (in_order landmark_body_cmp (map (λ (r : Fields7). r.body) (of_number seven_land land (of_type_7 records))))
  some_content land k =
      let known : 0 < times nat_cmp land (map seven_land (of_type_7 records)) = search (rules, known_from_distinct, nat_keys) in
      let bodies : List Body7 = map (λ (r : Fields7). r.body) (of_number seven_land land (of_type_7 records)) in
      let put : length (in_order landmark_body_cmp bodies) ≡ length bodies = length-in_order landmark_body_cmp bodies in
      let mapped : length bodies ≡ length (of_number seven_land land (of_type_7 records)) = search (rules, length-map) in
      let counted : times nat_cmp land (map seven_land (of_type_7 records)) ≡ length (of_number seven_land land (of_type_7 records)) =
      search (rules, times-of_number) in
      omega arith

  some_points : (r : Fields1) → 2 ≤ length (r.start ∷ (shape_points records r.tlid ++ (r.end ∷ [])))
  some_points r = search (rules, length-append)

  county_whole : IsWhole (county_of records)
  county_whole = search (rules, common_steps, chains_all, some_points, all_map, all_known, nat_keys, some_content, key_keys, polygon_whole)

  pub county-is_county : IsCounty (county_of records)
  county-is_county = record {
    whole = county_whole;
    ascending = record {
      chains = subst (IsStrictlySortedBy nat_cmp) (sym tlids-county) (strict_numbers one_tlid (of_type_1 records) apart_chains);
      names = subst (IsStrictlySortedBy nat_cmp) (sym feats-county)
          (strict_numbers five_feat (of_type_5 records)
          (λ n. ltb-false 1 (times nat_cmp n (map five_feat (of_type_5 records))) (linked (NameTwice n))));
      polygons = subst (IsStrictlySortedBy key_cmp) (sym keys-county) (distinct-strict key_keys all_keys);
      landmarks = subst (IsStrictlySortedBy nat_cmp) (sym lands-county) (distinct-strict nat_keys (map seven_land (of_type_7 records)));
      bodies = search (rules, all_map, all_everywhere, in_order-in_order, landmark_body_keys);
      links = in_order-in_order link_keys.total (of_type_8 records);
    };
    closed = search (rules, chains_all, each_from, name_contained, side_contained, all-in_order, land_contained, link_key_contained);
  }
