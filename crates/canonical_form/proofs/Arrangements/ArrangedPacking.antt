-- The packing of an arranged county is an arranged list of records.
use Rattle.canonical_form.proofs.Common.{AllByRecursion, AreFull, AreRecordsInOrder, Body7, Chain, Coordinates, County, Fields2, Fields4, Fields6, Fields7, IsArranged, IsArrangedList, IsCounty, IsInOrder, IsPacked, IsStrictlySortedBy, List, Ordering, Ranges, SequencedType, [], all_everywhere, all_weaker, ap, ap₂, arith, by_type_of, drop, false, filter_map, five_feat, four_rtsq, four_tlid, i_tlid, in_order-from_strict, in_order-in_order, in_pieces, inner_points, is_gt, landmark_body_cmp, landmark_cmp, length, length-drop, length-map, length-take, link_cmp, map, map-id, map-map, min, nat_cmp, nat_cmp_total, of_number, of_type_2, of_type_4, of_type_6, on, on_total, one_tlid, p_polyid, packed, packed_by_type, packed_five, packed_fours, packed_i, packed_one, packed_p, packed_sevens, packed_sixes, packed_twos, pieces, refl, rtsqs, seven_land, six_rtsq, six_tlid, subst, suc, sym, take, then_cmp, two_rtsq, two_tlid, type_after_type, up_to, zero, ℕ, ◌-◌, ◌∙◌, ◌∷◌, ◌≡◌, ◌≤◌}
use Rattle.canonical_form.proofs.Packing.PackedGroups.{groups_in_order}
use Rattle.canonical_form.proofs.Packing.PackedNumbers.{contents_made, eights, fives, four_own, fours, links_of_chains, ones, polygons_packed, rtsqs_counted, rtsqs_ordered, seven_own, sevens, six_own, sixes, two_own, twos}
use Rattle.canonical_form.proofs.Packing.PackedCounty.{packed_county}
use Rattle.canonical_form.proofs.Packing.PackedLinked.{packed_linked}
use Rattle.canonical_form.proofs.Packing.TypeOrder.{type_by_type}
use Rattle.county_chart.specs.declared.fault.SequencedType.TheVariants as sequenced
use Rattle.canonical_form.proofs.Packing.PackedChains.{in_group}

-- pieces except the last are full
full_pieces : {X : Type 0} (n most : ℕ) (xs : List X) → 1 ≤ n → length xs ≤ most → AreFull n (pieces n most xs)
full_pieces n zero [] one h = tt
full_pieces n (suc most) [] one h = tt
full_pieces n zero (x ∷ xs) one h = absurd (omega arith)
full_pieces {X} n (suc most) (x ∷ xs) one h =
    go most (drop n (x ∷ xs)) (length-drop n (x ∷ xs)) (length-take n (x ∷ xs)) (omega (arith, length-drop n (x ∷ xs)))
    (full_pieces n most (drop n (x ∷ xs)) one (omega (arith, length-drop n (x ∷ xs))))
  where
    go : (left : ℕ) (rest : List X) → length rest ≡ length (x ∷ xs) - n → length (take n (x ∷ xs)) ≡ min n (length (x ∷ xs))
        → length rest ≤ left → AreFull n (pieces n left rest) → AreFull n (take n (x ∷ xs) ∷ pieces n left rest)
    go zero [] l t few ih = (omega (arith, t), omega (arith, t))
    go (suc left) [] l t few ih = (omega (arith, t), omega (arith, t))
    go zero (y ∷ rest) l t few ih = absurd (omega (arith, few))
    go (suc left) (y ∷ rest) l t few ih = ((let full : length (take n (x ∷ xs)) ≡ n = omega (arith, t, l) in full), ih)

-- an ordered list, as records that contain it
in_order-made : {X Y : Type 0} (cmp : Y → Y → Ordering) (key : X → Y) (make : Y → X) → ((y : Y) → key (make y) ≡ y) → (ys : List Y)
    → IsInOrder cmp ys → IsInOrder (on key cmp) (map make ys)
in_order-made cmp key make stated [] h = tt
in_order-made {X} {Y} cmp key make stated (y ∷ ys) h = (each ys h.0, in_order-made cmp key make stated ys h.1)
  where
    each : (zs : List Y) → AllByRecursion (λ z. is_gt (cmp y z) ≡ false) zs
        → AllByRecursion (λ x. is_gt (cmp (key (make y)) (key x)) ≡ false) (map make zs)
    each [] a = tt
    each (z ∷ zs) a = (ap₂ (λ k j. is_gt (cmp k j)) (stated y) (stated z) ∙ a.0, each zs a.1)

module _ (c : County) (is : IsCounty c) where
  make_2 : ℕ × Chain → ℕ × List Coordinates → Fields2
  make_2 e piece = record { tlid = e.0; rtsq = piece.0; points = piece.1 }

  make_4 : ℕ × Chain → ℕ × List ℕ → Fields4
  make_4 e piece = record { tlid = e.0; rtsq = piece.0; feats = piece.1 }

  make_6 : ℕ × Chain → ℕ × Ranges → Fields6
  make_6 e piece = record { tlid = e.0; rtsq = piece.0; ranges = piece.1 }

  pub packed_in_order : AreRecordsInOrder (packed c)
  unfolding make_2 make_4 make_6
  packed_in_order = record {
    types = sym (ap type_after_type (by_type_of (packed_by_type c))) ∙ type_by_type (packed c);
    of_type_1 = subst (IsInOrder (on one_tlid nat_cmp)) (sym (ones c is))
        (in_order-from_strict one_tlid (map packed_one c.chains)
        (subst (IsStrictlySortedBy nat_cmp) (sym (map-map one_tlid packed_one c.chains)) is.ascending.chains));
    of_type_2 = subst (IsInOrder (then_cmp (on two_tlid nat_cmp) (on two_rtsq nat_cmp))) (sym (twos c is))
        (groups_in_order two_tlid packed_twos two_own (on two_rtsq nat_cmp) c.chains is.ascending.chains
        (all_everywhere (λ e. IsInOrder (on two_rtsq nat_cmp) (packed_twos e))
        (λ e. rtsqs_ordered two_rtsq (make_2 e) (λ piece. refl) (in_pieces 10 (inner_points e.1.points))) c.chains));
    of_type_4 = subst (IsInOrder (then_cmp (on four_tlid nat_cmp) (on four_rtsq nat_cmp))) (sym (fours c is))
        (groups_in_order four_tlid packed_fours four_own (on four_rtsq nat_cmp) c.chains is.ascending.chains
        (all_everywhere (λ e. IsInOrder (on four_rtsq nat_cmp) (packed_fours e))
        (λ e. rtsqs_ordered four_rtsq (make_4 e) (λ piece. refl) (in_pieces 5 e.1.feats)) c.chains));
    of_type_5 = subst (IsInOrder (on five_feat nat_cmp)) (sym (fives c is))
        (in_order-from_strict five_feat (map packed_five c.names)
        (subst (IsStrictlySortedBy nat_cmp) (sym (map-map five_feat packed_five c.names)) is.ascending.names));
    of_type_6 = subst (IsInOrder (then_cmp (on six_tlid nat_cmp) (on six_rtsq nat_cmp))) (sym (sixes c is))
        (groups_in_order six_tlid packed_sixes six_own (on six_rtsq nat_cmp) c.chains is.ascending.chains
        (all_everywhere (λ e. IsInOrder (on six_rtsq nat_cmp) (packed_sixes e))
        (λ e. rtsqs_ordered six_rtsq (make_6 e) (λ piece. refl) e.1.ranges) c.chains));
    of_type_7 = subst (IsInOrder landmark_cmp) (sym (sevens c is))
        (groups_in_order seven_land packed_sevens seven_own
        (on (λ (r : Fields7). r.body) landmark_body_cmp) c.landmarks is.ascending.landmarks
        (all_weaker (λ (e : ℕ × List Body7). IsInOrder landmark_body_cmp e.1)
        (λ e. IsInOrder (on (λ (r : Fields7). r.body) landmark_body_cmp) (packed_sevens e))
        (λ e h. in_order-made landmark_body_cmp (λ (r : Fields7). r.body) (λ body. record { land = e.0; body = body })
        (λ body. refl) e.1 h) c.landmarks is.ascending.bodies));
    of_type_8 = subst (IsInOrder link_cmp) (sym (eights c is)) is.ascending.links;
    of_type_i = subst (IsInOrder (on i_tlid nat_cmp)) (sym (links_of_chains c is))
        (in_order-from_strict i_tlid (map packed_i c.chains)
        (subst (IsStrictlySortedBy nat_cmp) (sym (map-map i_tlid packed_i c.chains)) is.ascending.chains));
    of_type_p = subst (IsInOrder (on p_polyid nat_cmp)) (sym (polygons_packed c is))
        (in_order-in_order (on_total p_polyid nat_cmp_total) (filter_map packed_p c.polygons));
  }

  -- numbers that count from 1, as many as there are of them
  counted : {X : Type 0} (number : X → ℕ) (xs : List X) → map number xs ≡ up_to (length xs) → map number xs ≡ up_to (length (map number xs))
  counted number xs e = e ∙ ap up_to (sym (length-map xs number))

  packed_rtsqs : (rtype : SequencedType) (tlid : ℕ) → rtsqs rtype tlid (packed c) ≡ up_to (length (rtsqs rtype tlid (packed c)))
  unfolding make_2 make_4 make_6
  packed_rtsqs sequenced.Two tlid = counted two_rtsq (of_number two_tlid tlid (of_type_2 (packed c)))
      (in_group c is two_tlid packed_twos two_own (λ xs. map two_rtsq xs ≡ up_to (length xs)) refl
      (λ e. rtsqs_counted two_rtsq (make_2 e) (λ piece. refl) (in_pieces 10 (inner_points e.1.points))) _ (twos c is) tlid)
  packed_rtsqs sequenced.Four tlid = counted four_rtsq (of_number four_tlid tlid (of_type_4 (packed c)))
      (in_group c is four_tlid packed_fours four_own (λ xs. map four_rtsq xs ≡ up_to (length xs)) refl
      (λ e. rtsqs_counted four_rtsq (make_4 e) (λ piece. refl) (in_pieces 5 e.1.feats)) _ (fours c is) tlid)
  packed_rtsqs sequenced.Six tlid = counted six_rtsq (of_number six_tlid tlid (of_type_6 (packed c)))
      (in_group c is six_tlid packed_sixes six_own (λ xs. map six_rtsq xs ≡ up_to (length xs)) refl
      (λ e. rtsqs_counted six_rtsq (make_6 e) (λ piece. refl) e.1.ranges) _ (sixes c is) tlid)

  pub packed_is_packed : IsPacked (packed c)
  unfolding make_2 make_4 make_6
  packed_is_packed = record {
    points = in_group c is two_tlid packed_twos two_own (λ xs. AreFull 10 (map (λ (r : Fields2). r.points) xs)) tt
        (λ e. subst (AreFull 10)
        (sym (contents_made two_rtsq (make_2 e) (λ piece. refl) (λ (r : Fields2). r.points) (λ (piece : List Coordinates). piece)
        (λ piece. refl) (in_pieces 10 (inner_points e.1.points)) ∙ map-id (in_pieces 10 (inner_points e.1.points))))
        (full_pieces 10 (length (inner_points e.1.points)) (inner_points e.1.points) (omega arith) (omega arith))) _ (twos c is);
    feats = in_group c is four_tlid packed_fours four_own (λ xs. AreFull 5 (map (λ (r : Fields4). r.feats) xs)) tt
        (λ e. subst (AreFull 5)
        (sym (contents_made four_rtsq (make_4 e) (λ piece. refl) (λ (r : Fields4). r.feats) (λ (piece : List ℕ). piece) (λ piece. refl)
        (in_pieces 5 e.1.feats) ∙ map-id (in_pieces 5 e.1.feats)))
        (full_pieces 5 (length e.1.feats) e.1.feats (omega arith) (omega arith))) _ (fours c is);
    rtsqs = packed_rtsqs;
  }

  -- The packing of an arranged county is an arranged list.
  pub packed_arranged : IsArranged c → IsArrangedList (packed c)
  packed_arranged in_form = record {
    linked = packed_linked c is;
    order = packed_in_order;
    packed = packed_is_packed;
    numbers = subst IsArranged (sym (packed_county c is)) in_form;
  }
