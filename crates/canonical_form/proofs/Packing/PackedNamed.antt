-- The FEATs, LANDs and polygons that the records of a packed county name are in the county.
use Rattle.canonical_form.proofs.Common.{AllByRecursion, AllContained, Among, Body7, BodyP, Chain, County, Fields4, Fields7, FieldsP, IsApart, IsCounty, IsTrue, Known, List, None, Option, PolygonKey, Some, [], all_among, all_in_pieces, all_joined, all_map, all_numbered_from, all_weaker, among-map, among-pieces, among-unmap, among_known, ap, apart_from_sorted, arith, common_steps, contains, false≢true, feats, filter_map, flat_map, four_tlid, in_pieces, inl, inr, is_some, key_cmp, key_keys, known-left, known-right, known_is_among, lands, length, ltb-true, map, named_feats, nat_cmp, nat_keys, numbered_from, of_number, of_type_7, of_type_i, of_type_p, or_cases, p_key, packed, packed_body, packed_fours, packed_i, packed_p, packed_sevens, polygon_keys, polygons_along, refl, rules, same_or_not, seven_land, side_keys, subst, sym, times, times-cons, times-in_order, times-no, times-yes, to_filter_map, to_in_order, true, ℕ, ◌++◌, ◌+◌, ◌<◌, ◌||◌, ◌∙◌, ◌∷◌, ◌≡◌, ◌≤◌, ◌⊎◌}
use Rattle.canonical_form.proofs.Packing.PackedGroups.{group_holds}
use Rattle.canonical_form.proofs.Packing.PackedNumbers.{four_own, fours, links_of_chains, polygons_packed, sevens, tlids_apart}

-- a polygon has at most as many records as entries
pub few_packed_keys : (k : PolygonKey) (es : List (PolygonKey × Option BodyP))
    → times key_cmp k (map p_key (filter_map packed_p es)) ≤ times key_cmp k (map (λ (e : PolygonKey × Option BodyP). e.0) es)
few_packed_keys k [] = omega arith
few_packed_keys k (e ∷ es) = grind (arith, common_steps, same_or_not, key_keys, times-cons, times-yes, times-no, few_packed_keys k es)

module _ (c : County) (is : IsCounty c) where
  -- a test of names, of polygons and of landmarks
  pub named : (tlid : ℕ) → AllByRecursion (λ n. IsTrue (contains nat_cmp n (feats c))) (named_feats tlid (packed c))
  named tlid = subst (λ xs. AllByRecursion (λ n. IsTrue (contains nat_cmp n (feats c)))
      (flat_map (λ (r : Fields4). r.feats) (of_number four_tlid tlid xs))) (sym (fours c is))
      (group_holds four_tlid packed_fours four_own
      (λ xs. AllByRecursion (λ n. IsTrue (contains nat_cmp n (feats c)))
      (flat_map (λ (r : Fields4). r.feats) xs)) tt c.chains (tlids_apart c is)
      (all_weaker (λ e. AllContained (feats c) e.1.feats)
      (λ e. AllByRecursion (λ n. IsTrue (contains nat_cmp n (feats c))) (flat_map (λ (r : Fields4). r.feats) (packed_fours e)))
      (λ e a. all_joined (λ n. IsTrue (contains nat_cmp n (feats c))) (λ (r : Fields4). r.feats) (packed_fours e)
      (all_map (λ (r : Fields4). AllByRecursion (λ n. IsTrue (contains nat_cmp n (feats c))) r.feats)
      (λ (piece : ℕ × List ℕ). record { tlid = e.0; rtsq = piece.0; feats = piece.1 }) (numbered_from 1 (in_pieces 5 e.1.feats))
      (all_weaker (λ (piece : ℕ × List ℕ). (1 ≤ piece.0)
      × ((piece.0 < 1 + length (in_pieces 5 e.1.feats)) × AllByRecursion (λ n. IsTrue (contains nat_cmp n (feats c))) piece.1))
      (λ piece. AllByRecursion (λ n. IsTrue (contains nat_cmp n (feats c))) piece.1) (λ piece h. h.1.1)
      (numbered_from 1 (in_pieces 5 e.1.feats))
      (all_numbered_from (AllByRecursion (λ n. IsTrue (contains nat_cmp n (feats c)))) 1 (in_pieces 5 e.1.feats)
      (all_in_pieces (λ n. IsTrue (contains nat_cmp n (feats c))) 5 (length e.1.feats) e.1.feats a)))))
      c.chains is.closed.names) tlid)

  landmark_contained : (e : ℕ × List Body7) → Among e c.landmarks → Known nat_cmp (map seven_land (of_type_7 (packed c))) e.0
  landmark_contained e m =
      let some : 1 ≤ length e.1 = all_among (λ d. 1 ≤ length d.1) e c.landmarks is.whole.bodies m in
      subst (λ xs. Known nat_cmp (map seven_land xs) e.0) (sym (sevens c is)) (at e.1 refl some)
    where
      at : (bodies : List Body7) → e.1 ≡ bodies → 1 ≤ length e.1 → Known nat_cmp (map seven_land (flat_map packed_sevens c.landmarks)) e.0
      at [] same some = absurd (let t : length e.1 ≡ 0 = ap length same in omega (arith, t, some))
      at (body ∷ bodies) same some =
          let r : Fields7 = record { land = e.0; body = body } in
          let there : Among r (packed_sevens e) = search rules in
          among_known nat_keys e.0 (map seven_land (flat_map packed_sevens c.landmarks))
          (among-map seven_land r (flat_map packed_sevens c.landmarks) (among-pieces packed_sevens e r c.landmarks m there))

  pub land_contained : (land : ℕ) → Known nat_cmp (lands c) land → Known nat_cmp (map seven_land (of_type_7 (packed c))) land
  land_contained land k = search (rules, among-unmap, known_is_among, nat_keys, landmark_contained)

  pub sides_along : flat_map side_keys (of_type_i (packed c)) ≡ polygons_along c.chains
  sides_along = ap (flat_map side_keys) (links_of_chains c is) ∙ joined c.chains
    where
      joined : (es : List (ℕ × Chain)) → flat_map side_keys (map packed_i es) ≡ polygons_along es
      joined [] = refl
      joined (e ∷ es) = ap (λ ks. side_keys (packed_i e) ++ ks) (joined es)

  -- a polygon of the county is on a side or has a record
  pub key_contained : (key : PolygonKey) → Known key_cmp (polygon_keys c) key
      → Known key_cmp (flat_map side_keys (of_type_i (packed c)) ++ map p_key (of_type_p (packed c))) key
  key_contained key k =
      let e = among-unmap (λ (d : PolygonKey × Option BodyP). d.0) key c.polygons (known_is_among key_keys key (polygon_keys c) k) in
      let whole : (is_some e.0.1 || contains key_cmp e.0.0 (polygons_along c.chains)) ≡ true = search (rules, all_among) in
      subst (Known key_cmp (flat_map side_keys (of_type_i (packed c)) ++ map p_key (of_type_p (packed c)))) (sym e.2)
      (go e.0 e.1 (or_cases (is_some e.0.1) (contains key_cmp e.0.0 (polygons_along c.chains)) whole))
    where
      with_body : (d : PolygonKey × Option BodyP) → Among d c.polygons → (o : Option BodyP) → d.1 ≡ o → is_some o ≡ true
          → Known key_cmp (map p_key (of_type_p (packed c))) d.0
      with_body d m None same some = absurd (false≢true some)
      with_body d m (Some body) same some =
          let r : FieldsP = record { cenid = d.0.0; polyid = d.0.1; body = body } in
          let listed : Among r (filter_map packed_p c.polygons) = to_filter_map packed_p d r c.polygons m (ap (packed_body d.0) same) in
          let ordered : Among r (of_type_p (packed c)) = search (rules, polygons_packed, to_in_order) in
          among_known key_keys d.0 (map p_key (of_type_p (packed c))) (among-map p_key r (of_type_p (packed c)) ordered)

      go : (d : PolygonKey × Option BodyP) → Among d c.polygons
          → (is_some d.1 ≡ true) ⊎ (contains key_cmp d.0 (polygons_along c.chains) ≡ true)
          → Known key_cmp (flat_map side_keys (of_type_i (packed c)) ++ map p_key (of_type_p (packed c))) d.0
      go d m (inl some) = search (rules, known-right, key_keys, with_body)
      go d m (inr side) = search (rules, known-left, key_keys, sides_along, ltb-true)

  pub few_polygons : IsApart key_cmp (map p_key (of_type_p (packed c)))
  few_polygons k = search (rules, times-in_order, few_packed_keys, apart_from_sorted, key_keys, polygons_packed)
