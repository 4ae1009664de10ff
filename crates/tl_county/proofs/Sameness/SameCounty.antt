-- The county depends neither on the order of the records, nor on the packing of types 2 and 4, nor on the choice of RTSQs.
use Rattle.tl_county.proofs.Common.{ChainTwice, Fields1, Fields2, Fields4, Fields5, Fields6, Fields7, FieldsI, FieldsP, IsLinked, IsPermutation, LinkTwice, List, NameTwice, PolygonKey, PolygonTwice, Record, RecordType, SameElements, SequenceBroken, Type1, Type2, Type4, Type5, Type6, Type7, Type8, TypeI, TypeP, [], ap, apart_from_no_repeat, arith, chain_of, chain_tlids, chains_of, common_steps, count-map, county_of, distinct, distinct_same, false, few_same, filter, first, five_feat, flat_map, four_rtsq, four_tlid, from_permutation, has_repeat, i_tlid, in_order, is_eq, key_cmp, key_keys, landmark_body_cmp, landmark_body_keys, landmarks_of, length, link_keys, ltb-false, map, map_agree_everywhere, nat_cmp, nat_keys, nat_lt, numbered_same, of_number, of_type, of_type_1, of_type_2, of_type_4, of_type_5, of_type_6, of_type_7, of_type_8, of_type_i, of_type_p, on, one_tlid, ordered_same, p_key, polygon_body, polygons_of, rules, same-filter, same-map, seven_land, six_rtsq, six_tlid, sym, times, times-of_number, times-same, two_rtsq, two_tlid, ℕ, ◌++◌, ◌==◌, ◌∙◌, ◌∷◌, ◌≡◌, ◌≤◌}
use Rattle.tl_county.proofs.Sameness.SameChains.{chains_alike}
use Rattle.tl_county.proofs.Sameness.SameRules.{keys_alike, same-linked, same_in_type, same_of_type}
use Rattle.county_chart.specs.declared.fault.SequencedType.TheVariants as sequenced

module _ (xs ys : List Record) (p : IsPermutation xs ys) (linked : IsLinked xs) where
  s_all : SameElements xs ys
  s_all = from_permutation xs ys p

  same : (t : RecordType) → SameElements (of_type t xs) (of_type t ys)
  same = same_of_type xs ys s_all

  pub reordered-linked : IsLinked ys
  reordered-linked = same-linked xs ys s_all linked

  -- the parts of the county
  in_sequence : {X : Type 0} (f g : X → ℕ) (n : ℕ) (us vs : List X) → SameElements us vs
      → has_repeat nat_cmp (map g (of_number f n us)) ≡ false
      → in_order (on g nat_cmp) (of_number f n us) ≡ in_order (on g nat_cmp) (of_number f n vs)
  in_sequence f g n us vs s e = search (rules, numbered_same, same-filter, apart_from_no_repeat, nat_keys)

  chain_same : (r : Fields1) (link : FieldsI) → chain_of xs r link ≡ chain_of ys r link
  chain_same r link = λ i. record (chain_of xs r link) {
    points = r.start ∷ (flat_map (λ (q : Fields2). q.points)
        (in_sequence two_tlid two_rtsq r.tlid (of_type_2 xs) (of_type_2 ys) (same Type2) (linked (SequenceBroken sequenced.Two r.tlid)) i) ++
        (r.end ∷ []));
    feats = flat_map (λ (q : Fields4). q.feats) (in_sequence four_tlid four_rtsq r.tlid (of_type_4 xs) (of_type_4 ys) (same Type4)
        (linked (SequenceBroken sequenced.Four r.tlid)) i);
    ranges = map (λ (q : Fields6). q.ranges) (in_sequence six_tlid six_rtsq r.tlid (of_type_6 xs) (of_type_6 ys) (same Type6)
        (linked (SequenceBroken sequenced.Six r.tlid)) i);
  }

  links_same : (n : ℕ) → of_number i_tlid n (of_type_i xs) ≡ of_number i_tlid n (of_type_i ys)
  links_same n = few_same (of_number i_tlid n (of_type_i xs)) (of_number i_tlid n (of_type_i ys))
      (let t : times nat_cmp n (map i_tlid (of_type_i xs)) ≡ length (of_number i_tlid n (of_type_i xs)) = search (rules, times-of_number) in
      let u : times nat_cmp n (map i_tlid (of_type_i xs)) ≤ 1 =
      ltb-false 1 (times nat_cmp n (map i_tlid (of_type_i xs))) (linked (LinkTwice n)) in omega arith)
      (same-filter (λ l. l.tlid == n) (of_type_i xs) (of_type_i ys) (same TypeI))

  chains_same : chains_of xs ≡ chains_of ys
  chains_same = chains_alike xs ys chain_same links_same (numbered_same one_tlid (of_type_1 xs) (of_type_1 ys) (same Type1)
      (λ n. ltb-false 1 (times nat_cmp n (chain_tlids xs)) (linked (ChainTwice n))))

  body_same : (k : PolygonKey) → polygon_body xs k ≡ polygon_body ys k
  body_same k = ap (λ qs. first (map (λ (q : FieldsP). q.body) qs))
      (few_same (filter (λ q. is_eq (key_cmp k (p_key q))) (of_type_p xs)) (filter (λ q. is_eq (key_cmp k (p_key q))) (of_type_p ys))
      (let t : times key_cmp k (map p_key (of_type_p xs)) ≡ length (filter (λ q. is_eq (key_cmp k (p_key q))) (of_type_p xs)) =
      search (rules, count-map) in
      let u : times key_cmp k (map p_key (of_type_p xs)) ≤ 1 =
      ltb-false 1 (times key_cmp k (map p_key (of_type_p xs))) (linked (PolygonTwice k.0 k.1)) in omega arith)
      (same-filter (λ q. is_eq (key_cmp k (p_key q))) (of_type_p xs) (of_type_p ys) (same TypeP)))

  polygons_same : polygons_of xs ≡ polygons_of ys
  polygons_same = search (rules, common_steps, map_agree_everywhere, body_same, distinct_same, key_keys, keys_alike, s_all)

  landmarks_same : landmarks_of xs ≡ landmarks_of ys
  landmarks_same =
      map_agree_everywhere (λ land. (
        land,
        in_order landmark_body_cmp
            (map (λ (q : Fields7). q.body) (of_number seven_land land (of_type_7 xs))),
      ))
      (λ land. (land, in_order landmark_body_cmp (map (λ (q : Fields7). q.body) (of_number seven_land land (of_type_7 ys)))))
      (λ land i. (
        land,
        ordered_same landmark_body_keys (map (λ (q : Fields7). q.body) (of_number seven_land land (of_type_7 xs)))
            (map (λ (q : Fields7). q.body) (of_number seven_land land (of_type_7 ys)))
            (same-map (λ (q : Fields7). q.body) (of_number seven_land land (of_type_7 xs)) (of_number seven_land land (of_type_7 ys))
            (same-filter (λ q. q.land == land) (of_type_7 xs) (of_type_7 ys) (same Type7))) i,
      ))
      (distinct nat_cmp (map seven_land (of_type_7 xs)))
      ∙ ap (map (λ land. (land, in_order landmark_body_cmp (map (λ (q : Fields7). q.body) (of_number seven_land land (of_type_7 ys))))))
      (distinct_same nat_keys (map seven_land (of_type_7 xs)) (map seven_land (of_type_7 ys)) (λ n. ap (nat_lt 0) (times-same nat_cmp (map seven_land (of_type_7 xs)) (map seven_land (of_type_7 ys))
      (same_in_type xs ys s_all Type7 seven_land) n)))

  pub reordered-county : county_of ys ≡ county_of xs
  reordered-county = λ i. record {
    chains = sym chains_same i;
    names = map (λ (r : Fields5). (r.feat, r.body))
        (sym (numbered_same five_feat (of_type_5 xs) (of_type_5 ys) (same Type5)
        (λ n. ltb-false 1 (times nat_cmp n (map five_feat (of_type_5 xs))) (linked (NameTwice n)))) i);
    polygons = sym polygons_same i;
    landmarks = sym landmarks_same i;
    links = sym (ordered_same link_keys (of_type_8 xs) (of_type_8 ys) (same Type8)) i;
  }
