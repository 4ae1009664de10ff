-- The county of linked records in the order of their numbers is the one built by walking their tables.
use Rattle.tl_county.proofs.Common.{AllByRecursion, Among, AreInOrder, Bool, Equal, Fields1, Fields5, Fields7, Fields8, FieldsI, I, IsInOrder, IsLinked, IsStrictlySortedBy, Known, LandUnknown, LandmarkParts, Less, LinkTwice, List, NameTwice, NoChain, Ordering, Record, [], all_themselves, all_weaker, among-map, among_known, ap, apart_chains, arith, by_type, chain_of, chain_tlids, chain_with, chains_along, chains_of, common_steps, cond, contains, county_along, county_of, distinct, distinct-strict, eight_land, eq-eqb, false, false≢true, filter, filter_all, first_least, five_feat, flat_map, four_tlid, group-and_later, i_tlid, in_order, in_order-filter, in_order-itself, in_order-map, in_order-strict, inl, inr, is_eq, is_gt, is_lt, known-distinct, known_cases, known_is_among, landmark_body_cmp, landmark_entry, landmark_of, later_than, link_cmp, link_part, link_part_cmp, linked_tlids, lt-ltb, lt_reversed, ltb-false, ltb-true, map, nat_cmp, nat_cmp_total, nat_keys, needed, not, of_number, of_number-all, of_type_1, of_type_2, of_type_4, of_type_5, of_type_6, of_type_7, of_type_8, of_type_i, on, one_link, one_tlid, ordering_then, refl, rules, seven_land, six_tlid, strict-equal, strict_from_order, strict_head, strict_tail, subst, sym, the_link, tied_itself, times, to_filter, true, two_tlid, zip, ℕ, ◌++◌, ◌<◌, ◌∙◌, ◌∷◌, ◌≡◌, ◌⊎◌}
use Rattle.tl_county.proofs.Lists.Groups.{group-of_number, number-later}
use Rattle.tl_county.proofs.Rules.RuleTests.{in_order-first}

-- in a group with one number, an order by the number and something else is an order by the other
pub group_order : {X : Type 0} (number : X → ℕ) (next : X → X → Ordering) (n : ℕ) (xs : List X) → AllByRecursion (λ x. number x ≡ n) xs
    → IsInOrder (λ x y. ordering_then (nat_cmp (number x) (number y)) (next x y)) xs → IsInOrder next xs
group_order number next n [] a h = tt
group_order {X} number next n (x ∷ xs) a h = (each xs a.1 h.0, group_order number next n xs a.1 h.1)
  where
    each : (ys : List X) → AllByRecursion (λ y. number y ≡ n) ys
        → AllByRecursion (λ y. is_gt (ordering_then (nat_cmp (number x) (number y)) (next x y)) ≡ false) ys
        → AllByRecursion (λ y. is_gt (next x y) ≡ false) ys
    each [] b g = tt
    each (y ∷ ys) b g = (at, each ys b.1 g.1)
      where
        tied : nat_cmp (number x) (number y) ≡ Equal
        tied = subst (λ m. nat_cmp (number x) m ≡ Equal) (a.0 ∙ sym b.0) (tied_itself nat_cmp_total (number x))

        at : is_gt (next x y) ≡ false
        at = ap (λ c. is_gt (ordering_then c (next x y))) (sym tied) ∙ g.0

pub group_in_order : {X : Type 0} (number : X → ℕ) (next : X → X → Ordering) (n : ℕ) (xs : List X)
    → IsInOrder (λ x y. ordering_then (nat_cmp (number x) (number y)) (next x y)) xs → IsInOrder next (of_number number n xs)
group_in_order number next n xs h = search (rules, group_order, of_number-all, in_order-filter)

-- records in the order of their numbers are the groups of the numbers, one after the other
pub groups-join : {X : Type 0} (number : X → ℕ) (ks : List ℕ) (xs : List X) → IsStrictlySortedBy nat_cmp ks
    → IsInOrder (on number nat_cmp) xs → AllByRecursion (λ x. Known nat_cmp ks (number x)) xs
    → flat_map (λ k. of_number number k xs) ks ≡ xs
groups-join number [] [] strict h known = refl
groups-join number [] (x ∷ xs) strict h known = absurd (let some : 0 < times nat_cmp (number x) [] = known.0 in omega arith)
groups-join {X} number (k ∷ ks) xs strict h known =
    (λ i. sym (group-of_number number k xs) i ++ rest ks (strict_head nat_cmp k ks strict) i)
    ∙ ap (λ l. group ++ l) (groups-join number ks (later_than number k xs) (strict_tail nat_cmp k ks strict)
    (in_order-filter (on number nat_cmp) (λ x. is_gt (nat_cmp (number x) k)) xs h) (later_known xs known))
    ∙ sym (group-and_later nat_keys number k xs h)
    ∙ filter_all (λ x. not (is_lt (nat_cmp (number x) k))) xs
    (all_weaker (λ x. Known nat_cmp (k ∷ ks) (number x)) (λ x. not (is_lt (nat_cmp (number x) k)) ≡ true)
    (λ x m. ap not (lt_reversed (nat_cmp (number x) k) (nat_cmp k (number x)) (nat_cmp_total.antisymm (number x) k)
    ∙ first_least nat_keys k ks (in_order-strict nat_cmp (k ∷ ks) strict) (number x) m)) xs known)
  where
    group : List X
    group = filter (λ x. is_eq (nat_cmp (number x) k)) xs

    rest : (js : List ℕ) → AllByRecursion (λ j. nat_cmp k j ≡ Less) js
        → flat_map (λ j. of_number number j xs) js ≡ flat_map (λ j. of_number number j (later_than number k xs)) js
    rest [] a = refl
    rest (j ∷ js) a = λ i. sym (number-later number k j a.0 xs) i ++ rest js a.1 i

    later_known : (ys : List X) → AllByRecursion (λ x. Known nat_cmp (k ∷ ks) (number x)) ys
        → AllByRecursion (λ x. Known nat_cmp ks (number x)) (later_than number k ys)
    later_known [] a = tt
    later_known (y ∷ ys) a = go (is_gt (nat_cmp (number y) k)) refl (known_cases nat_keys (number y) k ks a.0) (later_known ys a.1)
      where
        go : (b : Bool) → is_gt (nat_cmp (number y) k) ≡ b
            → (number y ≡ k) ⊎ (Known nat_cmp ks (number y) × (is_eq (nat_cmp (number y) k) ≡ false))
            → AllByRecursion (λ x. Known nat_cmp ks (number x)) (later_than number k ys)
            → AllByRecursion (λ x. Known nat_cmp ks (number x)) (cond b (y ∷ later_than number k ys) (later_than number k ys))
        go false e m ih = ih
        go true e (inl f) ih = search (rules, false≢true, tied_itself, nat_cmp_total)
        go true e (inr m) ih = (m.0, ih)

module _ (records : List Record) (order : AreInOrder (by_type records)) (linked : IsLinked records) where
  pub tlids-strict : IsStrictlySortedBy nat_cmp (map one_tlid (of_type_1 records))
  tlids-strict = search (rules, common_steps, strict_from_order, nat_keys, in_order-map, apart_chains)

  links-strict : IsStrictlySortedBy nat_cmp (map i_tlid (of_type_i records))
  links-strict = strict_from_order nat_keys (map i_tlid (of_type_i records)) (in_order-map nat_cmp i_tlid (of_type_i records) order.type_i)
      (λ n. ltb-false 1 (times nat_cmp n (map i_tlid (of_type_i records))) (linked (LinkTwice n)))

  pub feats-strict : IsStrictlySortedBy nat_cmp (map five_feat (of_type_5 records))
  feats-strict = strict_from_order nat_keys (map five_feat (of_type_5 records))
      (in_order-map nat_cmp five_feat (of_type_5 records) order.type_5)
      (λ n. ltb-false 1 (times nat_cmp n (map five_feat (of_type_5 records))) (linked (NameTwice n)))

  -- type 1 and type I records are paired by place
  pub side_by_side : map one_tlid (of_type_1 records) ≡ map i_tlid (of_type_i records)
  side_by_side = strict-equal nat_cmp_total (λ n. n) (map one_tlid (of_type_1 records))
      (map i_tlid (of_type_i records)) tlids-strict links-strict
      (λ n m. known_is_among nat_keys n (map i_tlid (of_type_i records)) (let one : times nat_cmp n (map i_tlid (of_type_i records)) ≡ 1 =
      search (rules, one_link, among_known, nat_keys) in omega arith))
      (λ n m. known_is_among nat_keys n (chain_tlids records)
      (ltb-true 0 (times nat_cmp n (chain_tlids records))
      (needed (contains nat_cmp n (linked_tlids I records)) (contains nat_cmp n (chain_tlids records)) (linked (NoChain I n))
      (lt-ltb 0 (times nat_cmp n (linked_tlids I records)) (among_known nat_keys n (linked_tlids I records) m)))))

  -- the chain made from its groups
  chain-groups : (r : Fields1) (link : FieldsI) → chain_of records r link ≡ chain_with r link
      (of_number two_tlid r.tlid (of_type_2 records)) (of_number four_tlid r.tlid (of_type_4 records))
      (of_number six_tlid r.tlid (of_type_6 records))
  chain-groups r link = search (rules, in_order-itself, group_in_order)

  -- the one type I record of a chain
  only_link : (n : ℕ) (l : FieldsI) → Known nat_cmp (chain_tlids records) n → Among l (of_type_i records) → l.tlid ≡ n
      → of_number i_tlid n (of_type_i records) ≡ l ∷ []
  only_link n l known m e = search (rules, the_link, to_filter, eq-eqb)

  chains_at : (rs : List Fields1) (ls : List FieldsI) → map one_tlid rs ≡ map i_tlid ls
      → AllByRecursion (λ r. Known nat_cmp (chain_tlids records) r.tlid) rs → AllByRecursion (λ l. Among l (of_type_i records)) ls
      → flat_map (λ r. map (λ link. (r.tlid, chain_of records r link)) (of_number i_tlid r.tlid (of_type_i records))) rs ≡ zip
      (map one_tlid rs) (chains_along (of_type_2 records) (of_type_4 records) (of_type_6 records) rs ls)
  chains_at [] ls e known there = refl
  chains_at (r ∷ rs) [] e known there = cc
  chains_at (r ∷ rs) (l ∷ ls) e known there =
      let same : r.tlid ≡ l.tlid = cc in
      let rest : map one_tlid rs ≡ map i_tlid ls = cc in
      (λ i. map (λ link. (r.tlid, chain_of records r link))
      (only_link r.tlid l known.0 there.0 (sym same) i) ++ chains_at rs ls rest known.1 there.1 i)
      ∙ ap (λ c. (r.tlid, c) ∷ zip (map one_tlid rs) (chains_along (of_type_2 records) (of_type_4 records) (of_type_6 records) rs ls))
      (chain-groups r l)

  known_tlids : AllByRecursion (λ r. Known nat_cmp (chain_tlids records) r.tlid) (of_type_1 records)
  known_tlids = all_weaker (λ r. Among r (of_type_1 records)) (λ r. Known nat_cmp (chain_tlids records) r.tlid)
      (λ r m. among_known nat_keys r.tlid (chain_tlids records) (among-map one_tlid r (of_type_1 records) m)) (of_type_1 records)
      (all_themselves (of_type_1 records))

  chains-kept : chains_of records ≡ zip (map one_tlid (of_type_1 records))
      (chains_along (of_type_2 records) (of_type_4 records) (of_type_6 records) (of_type_1 records) (of_type_i records))
  chains-kept = ap (flat_map (λ r. map (λ link. (r.tlid, chain_of records r link)) (of_number i_tlid r.tlid (of_type_i records))))
      (in_order-itself (on one_tlid nat_cmp) (of_type_1 records) order.type_1)
      ∙ chains_at (of_type_1 records) (of_type_i records) side_by_side known_tlids (all_themselves (of_type_i records))

  abbrev lands : List ℕ
  lands = distinct nat_cmp (map seven_land (of_type_7 records))

  bodies-kept : (land : ℕ) → in_order landmark_body_cmp (map (λ (r : Fields7). r.body) (of_number seven_land land (of_type_7 records)))
      ≡ map (λ (r : Fields7). r.body) (of_number seven_land land (of_type_7 records))
  bodies-kept land = search (rules, in_order-itself, in_order-map, group_in_order)

  landmarks-kept : (ks : List ℕ) → map (λ land. (
    land,
    in_order landmark_body_cmp
        (map (λ (r : Fields7). r.body) (of_number seven_land land (of_type_7 records))),
  )) ks ≡ map landmark_entry
      (map (λ land. (land, landmark_of (of_type_7 records) (of_type_8 records) land)) ks)
  landmarks-kept [] = refl
  landmarks-kept (k ∷ ks) = λ i. (k, bodies-kept k i) ∷ landmarks-kept ks i

  links_at : (ks : List ℕ) → flat_map (λ land. of_number eight_land land (of_type_8 records)) ks ≡ flat_map
      (λ (entry : ℕ × LandmarkParts). entry.1.links) (map (λ land. (land, landmark_of (of_type_7 records) (of_type_8 records) land)) ks)
  links_at [] = refl
  links_at (k ∷ ks) = ap (λ l. of_number eight_land k (of_type_8 records) ++ l) (links_at ks)

  lands_known : AllByRecursion (λ r. Known nat_cmp lands r.land) (of_type_8 records)
  lands_known = all_weaker (λ r. Among r (of_type_8 records)) (λ r. Known nat_cmp lands r.land) at (of_type_8 records)
      (all_themselves (of_type_8 records))
    where
      at : (r : Fields8) → Among r (of_type_8 records) → Known nat_cmp lands r.land
      at r m = known-distinct nat_keys (map seven_land (of_type_7 records)) r.land
          (ltb-true 0 (times nat_cmp r.land (map seven_land (of_type_7 records)))
          (needed (contains nat_cmp r.land (map eight_land (of_type_8 records)))
          (contains nat_cmp r.land (map seven_land (of_type_7 records))) (linked (LandUnknown r.land))
          (lt-ltb 0 (times nat_cmp r.land (map eight_land (of_type_8 records)))
          (among_known nat_keys r.land (map eight_land (of_type_8 records)) (among-map eight_land r (of_type_8 records) m)))))

  links-kept : in_order link_cmp (of_type_8 records) ≡ flat_map (λ (entry : ℕ × LandmarkParts). entry.1.links)
      (map (λ land. (land, landmark_of (of_type_7 records) (of_type_8 records) land)) lands)
  links-kept = in_order-itself link_cmp (of_type_8 records) order.type_8
      ∙ sym (groups-join eight_land lands (of_type_8 records) (distinct-strict nat_keys (map seven_land (of_type_7 records)))
      (in_order-first (on eight_land nat_cmp) (on link_part link_part_cmp) (of_type_8 records) order.type_8) lands_known)
      ∙ links_at lands

  -- the county of the records is the built county
  pub county-built : county_of records ≡ county_along (by_type records)
  county-built = λ i. record {
    chains = chains-kept i;
    names = map (λ (r : Fields5). (r.feat, r.body)) (in_order-itself (on five_feat nat_cmp) (of_type_5 records) order.type_5 i);
    polygons = (county_of records).polygons;
    landmarks = landmarks-kept lands i;
    links = links-kept i;
  }
