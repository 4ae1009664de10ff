-- A canonical list of records is the packing of its county: chains, names and landmarks.
use Rattle.canonical_form.proofs.Common.{AllByRecursion, AreFull, AreRecordsInOrder, Chain, Coordinates, Fields1, Fields2, Fields4, Fields5, Fields6, Fields7, FieldsI, IsInOrder, IsLinked, IsPacked, IsStrictlySortedBy, Known, LinkedType, List, NoChain, Ranges, Record, [], all_known, all_unmap, ap, apart_chains, ap₂, arith, chain_of, chain_tlids, chains_of, contains, distinct, distinct-strict, five_feat, flat_map, flat_map_agree, four_rtsq, four_tlid, further_names, i_tlid, in_order, in_order-from_strict, in_order-itself, in_order-map, in_pieces, known-distinct, landmark_body_cmp, landmark_cmp, landmarks_of, last_point, length, length-map, linked_tlids, lt-ltb, ltb-true, map, map-append, map-id, map-map, map_agree_all, names_of, nat_cmp, nat_keys, needed, numbered_from, of_number, of_number-all, of_type_1, of_type_2, of_type_4, of_type_5, of_type_6, of_type_7, of_type_i, on, one_tlid, packed_five, packed_fours, packed_i, packed_one, packed_sevens, packed_sixes, packed_twos, refl, seven_land, shape_points, six_rtsq, six_tlid, strict_from_order, subst, sym, the_link, then_cmp, times, two_rtsq, two_tlid, up_to, without_last, ℕ, ◌++◌, ◌==◌, ◌∙◌, ◌∷◌, ◌≡◌, ◌≤◌}
use Rattle.ordered_lists.proofs.Lists.Elements.{flat_map-map}
use Rattle.canonical_form.proofs.Lists.Counting.{up_to-strict}
use Rattle.canonical_form.proofs.Lists.Grouping.{grouped, in_order-weaker, parts_in_order, pieces-joined, rtsqs-back, then-first}
use Rattle.ordered_lists.proofs.ByKey.KeyedLists.{in_order-filter}
use Rattle.county_chart.specs.declared.fault.LinkedType.TheVariants.{Four, I, Six, Two}
use Rattle.county_chart.specs.declared.fault.SequencedType.TheVariants as sequenced

-- the points between the ends, and the last one
inner_back : (s : Coordinates) (ps : List Coordinates) (e : Coordinates) → without_last (ps ++ (e ∷ [])) ≡ ps
inner_back s [] e = refl
inner_back s (p ∷ []) e = refl
inner_back s (p ∷ q ∷ ps) e = ap (λ rs. p ∷ rs) (inner_back s (q ∷ ps) e)

last_back : (s : Coordinates) (ps : List Coordinates) (e : Coordinates) → last_point (s ∷ (ps ++ (e ∷ []))) ≡ e
last_back s [] e = refl
last_back s (p ∷ ps) e = last_back p ps e

-- In a linked list each type 1 record has one type I record, and the chains are the type 1 records with their type I records.
module _ (records : List Record) (linked : IsLinked records) where
  chain_entries : Fields1 → List (ℕ × Chain)
  chain_entries r = map (λ link. (r.tlid, chain_of records r link)) (of_number i_tlid r.tlid (of_type_i records))

  -- a value that depends only on the type 1 record, once for each chain
  each_chain : {Y : Type 0} (f : ℕ × Chain → Y) (g : Fields1 → Y)
      → ((r : Fields1) (link : FieldsI) → f (r.tlid, chain_of records r link) ≡ g r) → (rs : List Fields1)
      → AllByRecursion (λ r. Known nat_cmp (chain_tlids records) r.tlid) rs → map f (flat_map chain_entries rs) ≡ map g rs
  unfolding chain_entries
  each_chain f g h [] a = refl
  each_chain f g h (r ∷ rs) a =
      let one = the_link records linked r.tlid a.0 in
      ap (λ ls. map f (map (λ link. (r.tlid, chain_of records r link)) ls ++ flat_map chain_entries rs)) one.1
      ∙ ap₂ (λ y ys. y ∷ ys) (h r one.0) (each_chain f g h rs a.1)

  each_chain_list : {Y : Type 0} (f : ℕ × Chain → List Y) (g : Fields1 → List Y)
      → ((r : Fields1) (link : FieldsI) → f (r.tlid, chain_of records r link) ≡ g r) → (rs : List Fields1)
      → AllByRecursion (λ r. Known nat_cmp (chain_tlids records) r.tlid) rs → flat_map f (flat_map chain_entries rs) ≡ flat_map g rs
  unfolding chain_entries
  each_chain_list f g h [] a = refl
  each_chain_list f g h (r ∷ rs) a =
      let one = the_link records linked r.tlid a.0 in
      ap (λ ls. flat_map f (map (λ link. (r.tlid, chain_of records r link)) ls ++ flat_map chain_entries rs)) one.1
      ∙ ap₂ (λ y ys. y ++ ys) (h r one.0) (each_chain_list f g h rs a.1)

  each_link : {Y : Type 0} (f : ℕ × Chain → Y) (g : FieldsI → Y)
      → ((r : Fields1) (link : FieldsI) → link.tlid ≡ r.tlid → f (r.tlid, chain_of records r link) ≡ g link) → (rs : List Fields1)
      → map f (flat_map chain_entries rs) ≡ map g (flat_map (λ r. of_number i_tlid r.tlid (of_type_i records)) rs)
  unfolding chain_entries
  each_link f g h [] = refl
  each_link f g h (r ∷ rs) =
      map-append f (map (λ link. (r.tlid, chain_of records r link)) (of_number i_tlid r.tlid (of_type_i records)))
      (flat_map chain_entries rs)
      ∙ ap₂ (λ ys zs. ys ++ zs)
      (map-map f (λ link. (r.tlid, chain_of records r link)) (of_number i_tlid r.tlid (of_type_i records))
      ∙ map_agree_all (λ link. f (r.tlid, chain_of records r link)) g (λ link. link.tlid ≡ r.tlid) (h r)
      (of_number i_tlid r.tlid (of_type_i records)) (of_number-all i_tlid r.tlid (of_type_i records)))
      (each_link f g h rs)
      ∙ sym (map-append g (of_number i_tlid r.tlid (of_type_i records)) (flat_map (λ q. of_number i_tlid q.tlid (of_type_i records)) rs))

  module _ (order : AreRecordsInOrder records) (full : IsPacked records) where
    chains_are : chains_of records ≡ flat_map chain_entries (of_type_1 records)
    unfolding chain_entries
    chains_are = ap (flat_map chain_entries) (in_order-itself (on one_tlid nat_cmp) (of_type_1 records) order.of_type_1)

    ones_known : AllByRecursion (λ r. Known nat_cmp (chain_tlids records) r.tlid) (of_type_1 records)
    ones_known = all_unmap (Known nat_cmp (chain_tlids records)) one_tlid (of_type_1 records)
        (all_known nat_keys (Known nat_cmp (chain_tlids records)) (chain_tlids records) (λ n k. k))

    tlids_strict : IsStrictlySortedBy nat_cmp (chain_tlids records)
    tlids_strict = strict_from_order nat_keys (chain_tlids records) (in_order-map nat_cmp one_tlid (of_type_1 records) order.of_type_1)
        (apart_chains records linked)

    -- each record of the types of chains has a chain
    linked_known : (t : LinkedType) → AllByRecursion (Known nat_cmp (chain_tlids records)) (linked_tlids t records)
    linked_known t = all_known nat_keys (Known nat_cmp (chain_tlids records)) (linked_tlids t records)
        (λ n k. ltb-true 0 (times nat_cmp n (chain_tlids records))
        (needed (contains nat_cmp n (linked_tlids t records)) (contains nat_cmp n (chain_tlids records)) (linked (NoChain t n))
        (lt-ltb 0 (times nat_cmp n (linked_tlids t records)) k)))

    by_chain : {X : Type 0} (tlid : X → ℕ) (xs : List X) → IsInOrder (on tlid nat_cmp) xs
        → AllByRecursion (λ x. Known nat_cmp (chain_tlids records) (tlid x)) xs
        → flat_map (λ r. of_number tlid r.tlid xs) (of_type_1 records) ≡ xs
    by_chain tlid xs h a = sym (flat_map-map (λ n. of_number tlid n xs) one_tlid (of_type_1 records))
        ∙ grouped tlid xs h (chain_tlids records) tlids_strict a

    pub ones_back : map packed_one (chains_of records) ≡ of_type_1 records
    unfolding chain_entries
    ones_back =
        ap (map packed_one) chains_are
        ∙ each_chain packed_one (λ r. r) (λ r link i. record {
          tlid = r.tlid;
          body = r.body;
          start = r.start;
          end =
              last_back r.start (shape_points records r.tlid) r.end i;
        }) (of_type_1 records) ones_known
        ∙ map-id (of_type_1 records)

    pub is_back : map packed_i (chains_of records) ≡ of_type_i records
    unfolding chain_entries
    is_back =
        ap (map packed_i) chains_are
        ∙ each_link packed_i (λ link. link) (λ r link e i. record link { tlid = sym e i }) (of_type_1 records)
        ∙ map-id (flat_map (λ r. of_number i_tlid r.tlid (of_type_i records)) (of_type_1 records))
        ∙ by_chain i_tlid (of_type_i records) order.of_type_i
        (all_unmap (Known nat_cmp (chain_tlids records)) i_tlid (of_type_i records) (linked_known I))

    -- records with the RTSQs 1, 2, 3, .. are in the order of their RTSQs
    rtsq_order : {X : Type 0} (rtsq : X → ℕ) (xs : List X) → map rtsq xs ≡ up_to (length xs) → in_order (on rtsq nat_cmp) xs ≡ xs
    rtsq_order rtsq xs e =
        in_order-itself (on rtsq nat_cmp) xs
        (in_order-from_strict rtsq xs (subst (IsStrictlySortedBy nat_cmp) (sym e) (up_to-strict (length xs))))

    -- the contents of full records, joined and cut into pieces again, are their contents
    contents_back : {X Y : Type 0} (width : ℕ) → 1 ≤ width → (rtsq : X → ℕ) (content : X → List Y) (rs : List X)
        → map rtsq rs ≡ up_to (length rs) → AreFull width (map content rs)
        → in_pieces width (flat_map content (in_order (on rtsq nat_cmp) rs)) ≡ map content rs
    contents_back width one rtsq content rs counted full_pieces =
        ap (in_pieces width) (ap (flat_map content) (rtsq_order rtsq rs counted) ∙ sym (flat_map-map (λ l. l) content rs))
        ∙ pieces-joined width one (map content rs) full_pieces (length (flat_map (λ l. l) (map content rs))) (omega arith)

    -- numbers that count from 1, as many as there are items
    counted : {X : Type 0} (rtsq : X → ℕ) (xs : List X) → map rtsq xs ≡ up_to (length (map rtsq xs)) → map rtsq xs ≡ up_to (length xs)
    counted rtsq xs e = e ∙ ap up_to (length-map xs rtsq)

    two_pieces : (n : ℕ) → in_pieces 10 (shape_points records n) ≡ map (λ (r : Fields2). r.points)
        (of_number two_tlid n (of_type_2 records))
    two_pieces n = contents_back 10 (omega arith) two_rtsq (λ (r : Fields2). r.points) (of_number two_tlid n (of_type_2 records))
        (counted two_rtsq (of_number two_tlid n (of_type_2 records)) (full.rtsqs sequenced.Two n)) (full.points n)

    -- the lists of all chains, in records with RTSQs
    lists_back : {X : Type 0} (pack : ℕ × Chain → List X) (tlid rtsq : X → ℕ) (xs : List X)
        → ((r : Fields1) (link : FieldsI) → pack (r.tlid, chain_of records r link) ≡ of_number tlid r.tlid xs)
        → IsInOrder (then_cmp (on tlid nat_cmp) (on rtsq nat_cmp)) xs → AllByRecursion (Known nat_cmp (chain_tlids records)) (map tlid xs)
        → flat_map pack (chains_of records) ≡ xs
    lists_back pack tlid rtsq xs each ordered known =
        ap (flat_map pack) chains_are
        ∙ each_chain_list pack (λ r. of_number tlid r.tlid xs) each (of_type_1 records) ones_known
        ∙ by_chain tlid xs (in_order-weaker (then_cmp (on tlid nat_cmp) (on rtsq nat_cmp)) (on tlid nat_cmp)
        (λ x y. then-first (nat_cmp (tlid x) (tlid y)) (nat_cmp (rtsq x) (rtsq y))) xs ordered)
        (all_unmap (Known nat_cmp (chain_tlids records)) tlid xs known)

    twos_of : (r : Fields1) (link : FieldsI) → packed_twos (r.tlid, chain_of records r link) ≡ of_number two_tlid r.tlid (of_type_2 records)
    twos_of r link =
        let rs : List Fields2 = of_number two_tlid r.tlid (of_type_2 records) in
        ap (λ ps. map (λ (p : ℕ × List Coordinates). record { tlid = r.tlid; rtsq = p.0; points = p.1 })
        (numbered_from 1 (in_pieces 10 ps))) (inner_back r.start (shape_points records r.tlid) r.end)
        ∙ ap (λ ls. map (λ (p : ℕ × List Coordinates). record { tlid = r.tlid; rtsq = p.0; points = p.1 }) (numbered_from 1 ls))
        (two_pieces r.tlid)
        ∙ rtsqs-back two_tlid two_rtsq (λ (q : Fields2). q.points) (λ t i content. record { tlid = t; rtsq = i; points = content })
        (λ q. refl) r.tlid 1 rs (of_number-all two_tlid r.tlid (of_type_2 records)) (counted two_rtsq rs (full.rtsqs sequenced.Two r.tlid))

    pub twos_back : flat_map packed_twos (chains_of records) ≡ of_type_2 records
    twos_back = lists_back packed_twos two_tlid two_rtsq (of_type_2 records) twos_of order.of_type_2 (linked_known Two)

    four_pieces : (n : ℕ) → in_pieces 5 (further_names records n) ≡ map (λ (r : Fields4). r.feats)
        (of_number four_tlid n (of_type_4 records))
    four_pieces n = contents_back 5 (omega arith) four_rtsq (λ (r : Fields4). r.feats) (of_number four_tlid n (of_type_4 records))
        (counted four_rtsq (of_number four_tlid n (of_type_4 records)) (full.rtsqs sequenced.Four n)) (full.feats n)

    fours_of : (r : Fields1) (link : FieldsI) → packed_fours (r.tlid, chain_of records r link) ≡ of_number four_tlid r.tlid
        (of_type_4 records)
    fours_of r link =
        let rs : List Fields4 = of_number four_tlid r.tlid (of_type_4 records) in
        ap (λ ls. map (λ (p : ℕ × List ℕ). record { tlid = r.tlid; rtsq = p.0; feats = p.1 }) (numbered_from 1 ls)) (four_pieces r.tlid)
        ∙ rtsqs-back four_tlid four_rtsq (λ (q : Fields4). q.feats) (λ t i content. record { tlid = t; rtsq = i; feats = content })
        (λ q. refl) r.tlid 1 rs (of_number-all four_tlid r.tlid (of_type_4 records)) (counted four_rtsq rs (full.rtsqs sequenced.Four r.tlid))

    pub fours_back : flat_map packed_fours (chains_of records) ≡ of_type_4 records
    fours_back = lists_back packed_fours four_tlid four_rtsq (of_type_4 records) fours_of order.of_type_4 (linked_known Four)

    sixes_of : (r : Fields1) (link : FieldsI) → packed_sixes (r.tlid, chain_of records r link) ≡ of_number six_tlid r.tlid
        (of_type_6 records)
    sixes_of r link =
        let rs : List Fields6 = of_number six_tlid r.tlid (of_type_6 records) in
        let from_one = counted six_rtsq rs (full.rtsqs sequenced.Six r.tlid) in
        ap (λ qs. map (λ (p : ℕ × Ranges). record { tlid = r.tlid; rtsq = p.0; ranges = p.1 })
        (numbered_from 1 (map (λ (q : Fields6). q.ranges) qs))) (rtsq_order six_rtsq rs from_one)
        ∙ rtsqs-back six_tlid six_rtsq (λ (q : Fields6). q.ranges) (λ t i content. record { tlid = t; rtsq = i; ranges = content })
        (λ q. refl) r.tlid 1 rs (of_number-all six_tlid r.tlid (of_type_6 records)) from_one

    pub sixes_back : flat_map packed_sixes (chains_of records) ≡ of_type_6 records
    sixes_back = lists_back packed_sixes six_tlid six_rtsq (of_type_6 records) sixes_of order.of_type_6 (linked_known Six)

    pub fives_back : map packed_five (names_of records) ≡ of_type_5 records
    fives_back =
        map-map packed_five (λ (r : Fields5). (r.feat, r.body)) (in_order (on five_feat nat_cmp) (of_type_5 records))
        ∙ map-id (in_order (on five_feat nat_cmp) (of_type_5 records))
        ∙ in_order-itself (on five_feat nat_cmp) (of_type_5 records) order.of_type_5

    sevens_of : (n : ℕ) → packed_sevens (
      n,
      in_order landmark_body_cmp
          (map (λ (r : Fields7). r.body) (of_number seven_land n (of_type_7 records))),
    ) ≡ of_number seven_land n (of_type_7 records)
    sevens_of n =
        let rs : List Fields7 = of_number seven_land n (of_type_7 records) in
        let all : AllByRecursion (λ r. r.land ≡ n) rs = of_number-all seven_land n (of_type_7 records) in
        ap (map (λ body. record { land = n; body = body }))
        (in_order-itself landmark_body_cmp (map (λ (r : Fields7). r.body) rs)
        (parts_in_order seven_land (λ (r : Fields7). r.body) landmark_body_cmp n rs all (in_order-filter landmark_cmp (λ r. r.land == n) (of_type_7 records) order.of_type_7)))
        ∙ map-map (λ body. record { land = n; body = body }) (λ (r : Fields7). r.body) rs
        ∙ map_agree_all (λ (r : Fields7). record { land = n; body = r.body }) (λ r. r) (λ r. r.land ≡ n)
        (λ r e i. record r { land = sym e i }) rs all
        ∙ map-id rs

    pub sevens_back : flat_map packed_sevens (landmarks_of records) ≡ of_type_7 records
    sevens_back =
        let ls : List ℕ = distinct nat_cmp (map seven_land (of_type_7 records)) in
        flat_map-map packed_sevens (λ land. (
          land,
          in_order landmark_body_cmp
              (map (λ (r : Fields7). r.body) (of_number seven_land land (of_type_7 records))),
        )) ls
        ∙ flat_map_agree (λ land. packed_sevens (
          land,
          in_order landmark_body_cmp
              (map (λ (r : Fields7). r.body) (of_number seven_land land (of_type_7 records))),
        ))
        (λ land. of_number seven_land land (of_type_7 records)) sevens_of ls
        ∙ grouped seven_land (of_type_7 records) (in_order-weaker landmark_cmp (on seven_land nat_cmp)
        (λ x y. then-first (nat_cmp x.land y.land) (landmark_body_cmp x.body y.body)) (of_type_7 records) order.of_type_7) ls
        (distinct-strict nat_keys (map seven_land (of_type_7 records)))
        (all_unmap (Known nat_cmp ls) seven_land (of_type_7 records)
        (all_known nat_keys (Known nat_cmp ls) (map seven_land (of_type_7 records))
        (known-distinct nat_keys (map seven_land (of_type_7 records)))))
