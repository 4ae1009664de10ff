-- The county of the packing of a county is that county.
use Rattle.canonical_form.proofs.Common.{AllByRecursion, Among, Body7, BodyP, Chain, Coordinates, County, Fields1, Fields2, Fields4, Fields5, Fields6, Fields7, FieldsP, IsCounty, IsInOrder, IsStrictlySortedBy, IsTrue, Known, List, None, Option, PolygonKey, Ranges, Some, [], all_among, all_joined, all_themselves, among-map, among-unmap, among-unpieces, among_known, ap, apart_from_sorted, arith, chain_of, chains_of, common_steps, contains, county_of, distinct, distinct-strict, drop, each_from, filter_map, first_point, five_feat, flat_map, flat_map-map, four_rtsq, four_tlid, from_in_order, further_names, further_ranges, i_tlid, in_filter_map, in_order, in_order-from_strict, in_order-itself, in_pieces, inl, inner_points, inr, key_cmp, key_keys, known-append, known-distinct, known_all, known_from_distinct, known_is_among, landmark_body_cmp, landmarks_of, lands, last_point, length, length-drop, ltb-true, map, map-id, map-map, map_agree_all, names_of, nat_cmp, nat_keys, numbered_from, of_number, of_type_7, of_type_i, of_type_p, on, one_entry, one_tlid, p_key, packed, packed_body, packed_five, packed_fours, packed_i, packed_one, packed_p, packed_sevens, packed_sixes, packed_twos, pieces, polygon_body, polygon_keys, polygons_along, polygons_of, refl, rules, seven_land, shape_points, side_keys, six_rtsq, six_tlid, strict-equal, subst, suc, sym, take, take-append-drop, times, to_filter_map, to_in_order, two_rtsq, two_tlid, without_last, zero, ℕ, ◌++◌, ◌∙◌, ◌∷◌, ◌≡◌, ◌≤◌, ◌⊎◌}
use Rattle.canonical_form.proofs.Packing.PackedNumbers.{contents_made, eights, fives, four_own, fours, links_of_chains, ones, polygons_packed, rtsqs_ordered, seven_own, sevens, six_own, sixes, tlids_apart, two_own, twos}
use Rattle.canonical_form.proofs.Packing.PackedNamed.{few_polygons, key_contained, land_contained, sides_along}
use Rattle.canonical_form.proofs.Packing.PackedGroups.{group_of}
use Rattle.canonical_form.proofs.Packing.PolygonBodies.{body_found, first_body}
use Rattle.std.proofs.lemmas.List.Concat.{flat_map_single}

-- a list of at least two points is its first point, those between and its last point
last_behind : (p : Coordinates) (points : List Coordinates) → 1 ≤ length points
    → without_last points ++ (last_point (p ∷ points) ∷ []) ≡ points
last_behind p [] h = absurd (omega (arith, h))
last_behind p (q ∷ []) h = refl
last_behind p (q ∷ s ∷ points) h = ap (λ rest. q ∷ rest) (last_behind q (s ∷ points) (omega arith))

pub ends_and_inner : (points : List Coordinates) → 2 ≤ length points
    → first_point points ∷ (inner_points points ++ (last_point points ∷ [])) ≡ points
ends_and_inner [] h = absurd (omega (arith, h))
ends_and_inner (p ∷ points) h = ap (λ rest. p ∷ rest) (last_behind p points (omega arith))

-- pieces joined again
pub pieces_together : {X : Type 0} (n most : ℕ) (xs : List X) → 1 ≤ n → length xs ≤ most → flat_map (λ piece. piece) (pieces n most xs) ≡ xs
pieces_together n zero [] one h = refl
pieces_together n (suc most) [] one h = refl
pieces_together n zero (x ∷ xs) one h = absurd (omega arith)
pieces_together n (suc most) (x ∷ xs) one h =
    ap (λ rest. take n (x ∷ xs) ++ rest) (pieces_together n most (drop n (x ∷ xs)) one (let t = length-drop n (x ∷ xs) in omega arith))
    ∙ take-append-drop n (x ∷ xs)

-- records with the RTSQs 1, 2, 3, .. are in order, and hold the items put into them
module _ {X Y : Type 0} (rtsq : X → ℕ) (make : ℕ × Y → X) (stated : (piece : ℕ × Y) → rtsq (make piece) ≡ piece.0) where
  pub in_sequence : (ys : List Y) → in_order (on rtsq nat_cmp) (map make (numbered_from 1 ys)) ≡ map make (numbered_from 1 ys)
  in_sequence ys = in_order-itself (on rtsq nat_cmp) (map make (numbered_from 1 ys)) (rtsqs_ordered rtsq make stated ys)

  pub held_in_order : {Z : Type 0} (content : X → Z) (back : Y → Z) → ((piece : ℕ × Y) → content (make piece) ≡ back piece.1)
      → (ys : List Y) → map content (in_order (on rtsq nat_cmp) (map make (numbered_from 1 ys))) ≡ map back ys
  held_in_order content back holds ys = ap (map content) (in_sequence ys) ∙ contents_made rtsq make stated content back holds ys

each_alone : {X : Type 0} (f : X → List X) (xs : List X) → AllByRecursion (λ x. f x ≡ x ∷ []) xs → flat_map f xs ≡ xs
each_alone f [] a = refl
each_alone f (x ∷ xs) a = λ i. a.0 i ++ each_alone f xs a.1 i

module _ (c : County) (is : IsCounty c) where
  -- a chain's records
  inner : (e : ℕ × Chain) → Among e c.chains → shape_points (packed c) e.0 ≡ inner_points e.1.points
  inner e m =
      let make : ℕ × List Coordinates → Fields2 = λ piece. record { tlid = e.0; rtsq = piece.0; points = piece.1 } in
      ap (λ xs. flat_map (λ (r : Fields2). r.points) (in_order (on two_rtsq nat_cmp) (of_number two_tlid e.0 xs))) (twos c is)
      ∙ ap (λ xs. flat_map (λ (r : Fields2). r.points) (in_order (on two_rtsq nat_cmp) xs))
      (group_of two_tlid packed_twos two_own c.chains (tlids_apart c is) e m)
      ∙ sym (flat_map-map (λ piece. piece) (λ (r : Fields2). r.points) (in_order (on two_rtsq nat_cmp) (packed_twos e)))
      ∙ ap (flat_map (λ piece. piece)) (held_in_order two_rtsq make (λ piece. refl) (λ (r : Fields2). r.points)
      (λ (piece : List Coordinates). piece) (λ piece. refl) (in_pieces 10 (inner_points e.1.points))
      ∙ map-id (in_pieces 10 (inner_points e.1.points)))
      ∙ pieces_together 10 (length (inner_points e.1.points)) (inner_points e.1.points) (omega arith) (omega arith)

  names_back : (e : ℕ × Chain) → Among e c.chains → further_names (packed c) e.0 ≡ e.1.feats
  names_back e m =
      let make : ℕ × List ℕ → Fields4 = λ piece. record { tlid = e.0; rtsq = piece.0; feats = piece.1 } in
      ap (λ xs. flat_map (λ (r : Fields4). r.feats) (in_order (on four_rtsq nat_cmp) (of_number four_tlid e.0 xs))) (fours c is)
      ∙ ap (λ xs. flat_map (λ (r : Fields4). r.feats) (in_order (on four_rtsq nat_cmp) xs))
      (group_of four_tlid packed_fours four_own c.chains (tlids_apart c is) e m)
      ∙ sym (flat_map-map (λ piece. piece) (λ (r : Fields4). r.feats) (in_order (on four_rtsq nat_cmp) (packed_fours e)))
      ∙ ap (flat_map (λ piece. piece)) (held_in_order four_rtsq make (λ piece. refl) (λ (r : Fields4). r.feats) (λ (piece : List ℕ). piece)
      (λ piece. refl) (in_pieces 5 e.1.feats) ∙ map-id (in_pieces 5 e.1.feats))
      ∙ pieces_together 5 (length e.1.feats) e.1.feats (omega arith) (omega arith)

  ranges_back : (e : ℕ × Chain) → Among e c.chains → further_ranges (packed c) e.0 ≡ e.1.ranges
  ranges_back e m =
      let make : ℕ × Ranges → Fields6 = λ piece. record { tlid = e.0; rtsq = piece.0; ranges = piece.1 } in
      ap (λ xs. map (λ (r : Fields6). r.ranges) (in_order (on six_rtsq nat_cmp) (of_number six_tlid e.0 xs))) (sixes c is)
      ∙ ap (λ xs. map (λ (r : Fields6). r.ranges) (in_order (on six_rtsq nat_cmp) xs))
      (group_of six_tlid packed_sixes six_own c.chains (tlids_apart c is) e m)
      ∙ held_in_order six_rtsq make (λ piece. refl) (λ (r : Fields6). r.ranges) (λ (entry : Ranges). entry) (λ piece. refl) e.1.ranges
      ∙ map-id e.1.ranges

  link_back : (e : ℕ × Chain) → Among e c.chains → of_number i_tlid e.0 (of_type_i (packed c)) ≡ packed_i e ∷ []
  link_back e m =
      ap (of_number i_tlid e.0) (links_of_chains c is ∙ sym (flat_map_single packed_i c.chains))
      ∙ group_of i_tlid (λ (d : ℕ × Chain). packed_i d ∷ []) (λ d. (refl, tt)) c.chains (tlids_apart c is) e m

  chain_back : (e : ℕ × Chain) → Among e c.chains → chain_of (packed c) (packed_one e) (packed_i e) ≡ e.1
  chain_back e m = search (rules, all_among, inner, ends_and_inner, names_back, ranges_back)

  chains_back : chains_of (packed c) ≡ c.chains
  chains_back =
      let entries : Fields1 → List (ℕ × Chain) =
      λ r. map (λ link. (r.tlid, chain_of (packed c) r link)) (of_number i_tlid r.tlid (of_type_i (packed c))) in
      let ordered : in_order (on one_tlid nat_cmp) (map packed_one c.chains) ≡ map packed_one c.chains =
      search (rules, in_order-itself, in_order-from_strict, map-map) in
      ap (λ rs. flat_map entries (in_order (on one_tlid nat_cmp) rs)) (ones c is)
      ∙ ap (flat_map entries) ordered
      ∙ flat_map-map entries packed_one c.chains
      ∙ each_alone (λ e. entries (packed_one e)) c.chains
      (each_from (λ e. entries (packed_one e) ≡ e ∷ []) c.chains
      (λ e m. ap (map (λ link. (e.0, chain_of (packed c) (packed_one e) link))) (link_back e m) ∙ (λ i. (e.0, chain_back e m i) ∷ [])))

  names_are : names_of (packed c) ≡ c.names
  names_are =
      ap (λ rs. map (λ (r : Fields5). (r.feat, r.body)) (in_order (on five_feat nat_cmp) rs)) (fives c is)
      ∙ ap (map (λ (r : Fields5). (r.feat, r.body)))
      (in_order-itself (on five_feat nat_cmp) (map packed_five c.names)
      (in_order-from_strict five_feat (map packed_five c.names)
      (subst (IsStrictlySortedBy nat_cmp) (sym (map-map five_feat packed_five c.names)) is.ascending.names)))
      ∙ map-map (λ (r : Fields5). (r.feat, r.body)) packed_five c.names ∙ map-id c.names

  -- polygons
  abbrev keys : List PolygonKey
  keys = flat_map side_keys (of_type_i (packed c)) ++ map p_key (of_type_p (packed c))

  abbrev is_entry : PolygonKey → Type 0
  is_entry k = Among k (polygon_keys c)

  record_entry : (r : FieldsP) → Among r (of_type_p (packed c))
      → (d : PolygonKey × Option BodyP) × Among d c.polygons × ((p_key r ≡ d.0) × (Some r.body ≡ d.1))
  record_entry r m = search (rules, from_in_order, polygons_packed, in_filter_map)

  from_keys : (k : PolygonKey) → Known key_cmp keys k → is_entry k
  from_keys k l = go (known-append key_keys k (flat_map side_keys (of_type_i (packed c))) (map p_key (of_type_p (packed c))) l)
    where
      go : Known key_cmp (flat_map side_keys (of_type_i (packed c))) k ⊎ Known key_cmp (map p_key (of_type_p (packed c))) k → is_entry k
      go (inl side) =
          let along : Known key_cmp (polygons_along c.chains) k = subst (λ ks. Known key_cmp ks k) (sides_along c is) side in
          let all : AllByRecursion (λ j. IsTrue (contains key_cmp j (polygon_keys c))) (polygons_along c.chains) =
          search (rules, all_joined) in
          known_is_among key_keys k (polygon_keys c)
          (ltb-true 0 (times key_cmp k (polygon_keys c))
          (known_all key_keys (λ j. IsTrue (contains key_cmp j (polygon_keys c))) (polygons_along c.chains) all k along))
      go (inr body) =
          let r = among-unmap p_key k (of_type_p (packed c)) (known_is_among key_keys k (map p_key (of_type_p (packed c))) body) in
          let d = record_entry r.0 r.1 in
          subst is_entry (sym (r.2 ∙ d.2.0)) (among-map (λ (e : PolygonKey × Option BodyP). e.0) d.0 c.polygons d.1)

  keys_back : distinct key_cmp keys ≡ polygon_keys c
  keys_back = strict-equal key_keys.total (λ (k : PolygonKey). k) (distinct key_cmp keys) (polygon_keys c)
      (distinct-strict key_keys keys) is.ascending.polygons
      (λ k m. from_keys k (known_from_distinct key_keys keys k (among_known key_keys k (distinct key_cmp keys) m)))
      (λ k m. known_is_among key_keys k (distinct key_cmp keys)
      (known-distinct key_keys keys k (key_contained c is k (among_known key_keys k (polygon_keys c) m))))

  body_back : (e : PolygonKey × Option BodyP) → Among e c.polygons → polygon_body (packed c) e.0 ≡ e.1
  body_back e m = go e.1 refl (polygon_body (packed c) e.0) refl
    where
      go : (o : Option BodyP) → e.1 ≡ o → (f : Option BodyP) → polygon_body (packed c) e.0 ≡ f → f ≡ e.1
      go (Some body) same f found =
          let r : FieldsP = record { cenid = e.0.0; polyid = e.0.1; body = body } in
          let listed : Among r (filter_map packed_p c.polygons) = to_filter_map packed_p e r c.polygons m (ap (packed_body e.0) same) in
          let there : Among r (of_type_p (packed c)) = search (rules, polygons_packed, to_in_order) in
          sym found ∙ body_found r (of_type_p (packed c)) (few_polygons c is) there ∙ sym same
      go None same None found = sym same
      go None same (Some body) found =
          let r = first_body e.0 body (of_type_p (packed c)) found in
          let d = record_entry r.0 r.1 in
          let one : e ≡ d.0 = search (rules, one_entry, key_keys, apart_from_sorted) in
          absurd (none_some (sym same ∙ ap (λ (x : PolygonKey × Option BodyP). x.1) one ∙ sym d.2.1))
        where
          none_some : {B : Type 0} {b : B} → None ≡ Some b → ⊥
          none_some e = cc

  polygons_back : polygons_of (packed c) ≡ c.polygons
  polygons_back =
      ap (map (λ key. (key, polygon_body (packed c) key))) keys_back
      ∙ map-map (λ key. (key, polygon_body (packed c) key)) (λ (e : PolygonKey × Option BodyP). e.0) c.polygons
      ∙ map_agree_all (λ (e : PolygonKey × Option BodyP). (e.0, polygon_body (packed c) e.0)) (λ e. e) (λ e. Among e c.polygons)
      (λ e m i. (e.0, body_back e m i)) c.polygons (all_themselves c.polygons)
      ∙ map-id c.polygons

  -- landmarks
  lands_back : distinct nat_cmp (map seven_land (of_type_7 (packed c))) ≡ lands c
  lands_back = strict-equal nat_keys.total (λ (n : ℕ). n) (distinct nat_cmp (map seven_land (of_type_7 (packed c)))) (lands c)
      (distinct-strict nat_keys (map seven_land (of_type_7 (packed c)))) is.ascending.landmarks
      (λ n m. let r = among-unmap seven_land n (flat_map packed_sevens c.landmarks)
      (subst (λ xs. Among n (map seven_land xs)) (sevens c is)
      (known_is_among nat_keys n (map seven_land (of_type_7 (packed c)))
      (known_from_distinct nat_keys (map seven_land (of_type_7 (packed c))) n
      (among_known nat_keys n (distinct nat_cmp (map seven_land (of_type_7 (packed c)))) m)))) in
      let e = among-unpieces packed_sevens r.0 c.landmarks r.1 in
      subst (λ k. Among k (lands c)) (sym (r.2 ∙ all_among (λ x. seven_land x ≡ e.0.0) r.0 (packed_sevens e.0) (seven_own e.0) e.2))
      (among-map (λ (d : ℕ × List Body7). d.0) e.0 c.landmarks e.1))
      (λ n m. known_is_among nat_keys n (distinct nat_cmp (map seven_land (of_type_7 (packed c))))
      (known-distinct nat_keys (map seven_land (of_type_7 (packed c))) n (land_contained c is n (among_known nat_keys n (lands c) m))))

  bodies_back : (e : ℕ × List Body7) → Among e c.landmarks
      → in_order landmark_body_cmp (map (λ (r : Fields7). r.body) (of_number seven_land e.0 (of_type_7 (packed c)))) ≡ e.1
  bodies_back e m =
      ap (λ xs. in_order landmark_body_cmp (map (λ (r : Fields7). r.body) (of_number seven_land e.0 xs))) (sevens c is)
      ∙ ap (λ xs. in_order landmark_body_cmp (map (λ (r : Fields7). r.body) xs))
      (group_of seven_land packed_sevens seven_own c.landmarks (apart_from_sorted nat_keys (lands c) is.ascending.landmarks) e m)
      ∙ ap (in_order landmark_body_cmp) (map-map (λ (r : Fields7). r.body) (λ body. record { land = e.0; body = body }) e.1 ∙ map-id e.1)
      ∙ in_order-itself landmark_body_cmp e.1 (all_among (λ d. IsInOrder landmark_body_cmp d.1) e c.landmarks is.ascending.bodies m)

  landmarks_back : landmarks_of (packed c) ≡ c.landmarks
  landmarks_back =
      let bodies : ℕ → List Body7 =
      λ land. in_order landmark_body_cmp (map (λ (r : Fields7). r.body) (of_number seven_land land (of_type_7 (packed c)))) in
      ap (map (λ land. (land, bodies land))) lands_back
      ∙ map-map (λ land. (land, bodies land)) (λ (e : ℕ × List Body7). e.0) c.landmarks
      ∙ map_agree_all (λ (e : ℕ × List Body7). (e.0, bodies e.0)) (λ e. e) (λ e. Among e c.landmarks)
      (λ e m i. (e.0, bodies_back e m i)) c.landmarks (all_themselves c.landmarks)
      ∙ map-id c.landmarks

  pub packed_county : county_of (packed c) ≡ c
  packed_county = search (rules, common_steps, chains_back, names_are, polygons_back, landmarks_back, eights, in_order-itself)
