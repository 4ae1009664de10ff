-- The rules for records that fit together, each as its search finds it.
use Rattle.tl_county.proofs.Common.{Bool, Equal, Fields4, Greater, IsInOrder, IsKeyOrder, IsLeastPassing, IsPermutation, LandUnknown, Less, LinkFault, List, NameTwice, NameUnknown, None, Ordering, PolygonKey, PolygonTwice, PolygonUnknown, Record, SequenceBroken, Some, Typed, [], all_weaker, and_parts, ap, apart_from_no_repeat, arith, bit, by_type, bytes_cmp, common_steps, cond, contains, distinct, eight_land, eq-eqb, false, false≢true, find, first_least, five_feat, flat_map, four_rtsq, four_tlid, has_repeat, inl, inr, is_eq, is_gt, is_repeated, is_rule_broken, is_unknown, is_unnamed, key_cmp, key_keys, known-here, least-same, link_fault_place, link_key, lt-ltb, ltb-true, map, nat_cmp, nat_cmp_total, nat_keys, nat_lt, ne_eqb, not, number, of_number, or_cases, ordering_then, p_key, pair_keys, part, place_cmp, refl, rule_place, rules, same-itself, same_or_not, sequence_cmp, seven_land, side_keys, six_rtsq, six_tlid, subst, sym, tied_itself, times, times-append, times-cons, times-distinct, times-no, times-permutation, times-yes, true, two_rtsq, two_tlid, uses_of, zero-add, ℕ, ◌&&◌, ◌++◌, ◌+◌, ◌<◌, ◌==◌, ◌∙◌, ◌∷◌, ◌≡◌, ◌⊎◌}
use Rattle.tl_county.proofs.Rules.RuleOrders.{IsRule, fault_of_rule}
use Rattle.county_chart.specs.County.{i_tlid, one_tlid}
use Rattle.county_chart.specs.declared.fault.LinkFault.TheVariants.{ChainTwice, NoChain}
use Rattle.county_chart.specs.declared.fault.LinkedType.TheVariants.{Four, I, Six, Two}
use Rattle.county_chart.specs.declared.fault.SequencedType.TheVariants as sequenced

-- orders of lists of one or two numbers
pub single : (a : Ordering) → is_gt a ≡ false → is_gt (ordering_then (ordering_then a Equal) Equal) ≡ false
single Less e = refl
single Equal e = refl
single Greater e = e

pub keyed : (a b : Ordering) → is_gt (ordering_then a b) ≡ false → is_gt (ordering_then a (ordering_then (ordering_then b Equal) Equal)) ≡ false
keyed Less b e = refl
keyed Equal b e = single b e
keyed Greater b e = e

paired : (a b : Ordering) → is_gt (ordering_then a b) ≡ false
    → is_gt (ordering_then (ordering_then a Equal) (ordering_then (ordering_then b Equal) Equal)) ≡ false
paired Less b e = refl
paired Equal b e = single b e
paired Greater b e = e

-- an order by two keys is an order by the first
first_order : (a b : Ordering) → is_gt (ordering_then a b) ≡ false → is_gt a ≡ false
first_order Less b e = refl
first_order Equal b e = refl
first_order Greater b e = e

pub in_order-first : {X : Type 0} (first next : X → X → Ordering) (xs : List X) → IsInOrder (λ x y. ordering_then (first x y) (next x y)) xs
    → IsInOrder first xs
in_order-first first next [] h = tt
in_order-first first next (x ∷ xs) h = search (rules, all_weaker, first_order, in_order-first first next xs h.1)

pub sequence_keys : IsKeyOrder sequence_cmp
sequence_keys = pair_keys nat_keys nat_keys

-- a number occurs in a chain's records as often as the pair of both in all records
module _ {X : Type 0} (f g : X → ℕ) where
  pub times-pair : (n m : ℕ) (xs : List X) → times sequence_cmp (n, m) (map (λ x. (f x, g x)) xs) ≡ times nat_cmp m
      (map g (of_number f n xs))
  times-pair n m [] = refl
  times-pair n m (x ∷ xs) =
      grind (arith, common_steps, same_or_not, nat_keys, false≢true, times-no, sequence_keys, ne_eqb, same-itself, eq-eqb, times-yes, tied_itself, nat_cmp_total, times-pair n m xs)

  repeat_from : (m : ℕ) (ks : List ℕ) → 1 < times nat_cmp m ks → has_repeat nat_cmp ks ≡ true
  repeat_from m ks h = search (rules, apart_from_no_repeat, nat_keys)

  repeated_in : (ks : List ℕ) → has_repeat nat_cmp ks ≡ true → (m : ℕ) × (1 < times nat_cmp m ks)
  repeated_in [] e = absurd (false≢true e)
  repeated_in (k ∷ ks) e = go (or_cases (contains nat_cmp k ks) (has_repeat nat_cmp ks) e) (repeated_in ks)
    where
      go : (contains nat_cmp k ks ≡ true) ⊎ (has_repeat nat_cmp ks ≡ true)
          → (has_repeat nat_cmp ks ≡ true → (m : ℕ) × (1 < times nat_cmp m ks)) → (m : ℕ) × (1 < times nat_cmp m (k ∷ ks))
      go (inl s) ih = (
        k,
        (let some : 0 < times nat_cmp k ks = ltb-true 0 (times nat_cmp k ks) s in
            omega (arith, times-yes nat_keys k k ks refl)),
      )
      go (inr r) ih = search (rules, times-cons, nat_keys)

  -- the least pair that occurs twice has the least number under which something occurs twice
  pub least-repeat : (n m : ℕ) (xs : List X) → IsLeastPassing sequence_cmp (is_repeated sequence_cmp (map (λ x. (f x, g x)) xs))
      (Some (n, m)) → IsLeastPassing nat_cmp (λ k. has_repeat nat_cmp (map g (of_number f k xs))) (Some n)
  least-repeat n m xs h = (
    repeat_from m (map g (of_number f n xs)) (let t : 1 < times sequence_cmp (n, m) (map (λ x. (f x, g x)) xs) = search (rules, ltb-true) in
        omega (arith, times-pair n m xs)),
    least,
  )
    where
      least : (k : ℕ) → has_repeat nat_cmp (map g (of_number f k xs)) ≡ true → is_gt (nat_cmp n k) ≡ false
      least k e =
          let found : (j : ℕ) × (1 < times nat_cmp j (map g (of_number f k xs))) = repeated_in (map g (of_number f k xs)) e in
          first_order (nat_cmp n k) (nat_cmp m found.0)
          (h.1 (k, found.0)
          (lt-ltb 1 (times sequence_cmp (k, found.0) (map (λ x. (f x, g x)) xs)) (omega (arith, found.1, times-pair k found.0 xs))))

  pub no_repeat : (xs : List X) → IsLeastPassing sequence_cmp (is_repeated sequence_cmp (map (λ x. (f x, g x)) xs)) None
      → IsLeastPassing nat_cmp (λ k. has_repeat nat_cmp (map g (of_number f k xs))) None
  no_repeat xs h k = go (has_repeat nat_cmp (map g (of_number f k xs))) refl
    where
      go : (b : Bool) → has_repeat nat_cmp (map g (of_number f k xs)) ≡ b → b ≡ false
      go false e = refl
      go true e =
          let found : (j : ℕ) × (1 < times nat_cmp j (map g (of_number f k xs))) = repeated_in (map g (of_number f k xs)) e in
          absurd (false≢true (sym (h (k, found.0))
          ∙ lt-ltb 1 (times sequence_cmp (k, found.0) (map (λ x. (f x, g x)) xs)) (omega (arith, found.1, times-pair k found.0 xs))))

-- a use occurs among all uses as often as its FEAT among the FEATs of its chain
pub times-uses : (n y : ℕ) (rs : List Fields4) → times sequence_cmp (n, y) (flat_map uses_of rs) ≡ times nat_cmp y
    (flat_map (λ r. r.feats) (of_number four_tlid n rs))
times-uses n y [] = refl
times-uses n y (r ∷ rs) =
    times-append sequence_keys (n, y) (uses_of r) (flat_map uses_of rs) ∙ go (same_or_not nat_keys n r.tlid) (times-uses n y rs)
  where
    own : (tlid : ℕ) → n ≡ tlid → (feats : List ℕ) → times sequence_cmp (n, y) (map (λ feat. (tlid, feat)) feats) ≡ times nat_cmp y feats
    own tlid e [] = refl
    own tlid e (feat ∷ feats) = at (same_or_not nat_keys y feat) (own tlid e feats)
      where
        at : (y ≡ feat) ⊎ (is_eq (nat_cmp y feat) ≡ false) → times sequence_cmp (n, y) (map (λ w. (tlid, w)) feats) ≡ times nat_cmp y feats
            → times sequence_cmp (n, y) ((tlid, feat) ∷ map (λ w. (tlid, w)) feats) ≡ times nat_cmp y (feat ∷ feats)
        at (inl h) ih = search (rules, times-yes, sequence_keys, nat_keys)
        at (inr ne) ih = search (rules, times-no, sequence_keys, tied_itself, nat_cmp_total, nat_keys)

    none : (tlid : ℕ) → is_eq (nat_cmp n tlid) ≡ false → (feats : List ℕ) → times sequence_cmp (n, y) (map (λ feat. (tlid, feat)) feats) ≡ 0
    none tlid ne [] = refl
    none tlid ne (feat ∷ feats) = times-no sequence_keys (n, y) (tlid, feat) (map (λ w. (tlid, w)) feats) (at (nat_cmp n tlid) ne)
        ∙ none tlid ne feats
      where
        at : (a : Ordering) → is_eq a ≡ false → is_eq (ordering_then a (nat_cmp y feat)) ≡ false
        at Less e = refl
        at Equal e = absurd (false≢true (sym e))
        at Greater e = refl

    go : (n ≡ r.tlid) ⊎ (is_eq (nat_cmp n r.tlid) ≡ false)
        → times sequence_cmp (n, y) (flat_map uses_of rs) ≡ times nat_cmp y (flat_map (λ q. q.feats) (of_number four_tlid n rs))
        → times sequence_cmp (n, y) (uses_of r) + times sequence_cmp (n, y) (flat_map uses_of rs) ≡ times nat_cmp y
        (flat_map (λ q. q.feats) (cond (r.tlid == n) (r ∷ of_number four_tlid n rs) (of_number four_tlid n rs)))
    go (inl e) ih =
        (λ i. own r.tlid e r.feats i + ih i)
        ∙ sym (times-append nat_keys y r.feats (flat_map (λ (q : Fields4). q.feats) (of_number four_tlid n rs)))
        ∙ ap (λ b. times nat_cmp y (flat_map (λ (q : Fields4). q.feats) (cond b (r ∷ of_number four_tlid n rs) (of_number four_tlid n rs))))
        (sym (eq-eqb r.tlid n (sym e)))
    go (inr ne) ih =
        (λ i. none r.tlid ne r.feats i + ih i)
        ∙ zero-add (times nat_cmp y (flat_map (λ (q : Fields4). q.feats) (of_number four_tlid n rs)))
        ∙ ap (λ b. times nat_cmp y (flat_map (λ (q : Fields4). q.feats) (cond b (r ∷ of_number four_tlid n rs) (of_number four_tlid n rs))))
        (sym (ne_eqb r.tlid n (λ e. false≢true (sym ne ∙ subst (λ k. is_eq (nat_cmp n k) ≡ true) (sym e) (same-itself nat_keys n)))))

-- the first use has a FEAT that no name has
pub unnamed-first : (first : ℕ × ℕ) (later : List (ℕ × ℕ)) (feats : List ℕ) → IsInOrder sequence_cmp (first ∷ later)
    → contains nat_cmp first.1 feats ≡ false → IsLeastPassing sequence_cmp (is_unnamed (first ∷ later) feats) (Some first)
unnamed-first first later feats h none = (
  (λ i. lt-ltb 0 (times sequence_cmp first (first ∷ later)) (known-here sequence_keys first later) i && not (none i)),
  λ other t. first_least sequence_keys first later h other
      (ltb-true 0 (times sequence_cmp other (first ∷ later))
      (and_parts (contains sequence_cmp other (first ∷ later)) (not (contains nat_cmp other.1 feats)) t).0),
)

-- the least use without a name is the first one
pub unnamed-found : (uses : List (ℕ × ℕ)) (feats : List ℕ) → IsInOrder sequence_cmp uses
    → IsLeastPassing sequence_cmp (is_unnamed uses feats) (find (λ pair. not (contains nat_cmp pair.1 feats)) uses)
unnamed-found [] feats h = λ pair. refl
unnamed-found (first ∷ later) feats h = search (rules, unnamed-first, least-same, common_steps, unnamed-found later feats h.1)

-- the uses and the names may be in another order
pub unnamed-reordered : (uses others : List (ℕ × ℕ)) (feats : List ℕ) → IsPermutation uses others → (pair : ℕ × ℕ)
    → is_unnamed others feats pair ≡ is_unnamed uses feats pair
unnamed-reordered uses others feats p pair = search (rules, times-permutation, sequence_keys)

-- keys in another order, and known keys once each
pub unknown-distinct : (keys others known : List PolygonKey) → IsPermutation keys others → (key : PolygonKey)
    → is_unknown key_cmp others (distinct key_cmp known) key ≡ is_unknown key_cmp keys known key
unknown-distinct keys others known p key = search (rules, times-permutation, key_keys, bit, times-distinct)

module _ (records : List Record) (t : Typed) (e : by_type records ≡ t) where
  -- a rule whose faults have one number as their key
  numbered : (n : ℕ) (at : ℕ → LinkFault) (test : Typed → ℕ → Bool) → ((k : ℕ) → is_rule_broken records (at k) ≡ test (by_type records) k)
      → ((k : ℕ) → rule_place (at k) ≡ n) → ((p : List (List ℕ)) → fault_of_rule n p ≡ at (number p 0))
      → ((k j : ℕ) → place_cmp (link_fault_place (at k)) (link_fault_place (at j)) ≡ ordering_then (ordering_then (nat_cmp k j) Equal) Equal)
      → IsRule nat_cmp (test t) records n at
  numbered n at test broken place only order = record {
    broken = λ k. broken k ∙ ap (λ u. test u k) e;
    place = place;
    key = λ p. number p 0;
    only = only;
    order = λ k j h. ap is_gt (order k j) ∙ single (nat_cmp k j) h;
  }

  -- a rule whose faults have a polygon as their key
  of_polygons : (n : ℕ) (at : PolygonKey → LinkFault) (test : Typed → PolygonKey → Bool)
      → ((k : PolygonKey) → is_rule_broken records (at k) ≡ test (by_type records) k) → ((k : PolygonKey) → rule_place (at k) ≡ n)
      → ((p : List (List ℕ)) → fault_of_rule n p ≡ at (part p 0, number p 1))
      → ((k j : PolygonKey) → place_cmp (link_fault_place (at k)) (link_fault_place (at j))
      ≡ ordering_then (bytes_cmp k.0 j.0) (ordering_then (ordering_then (nat_cmp k.1 j.1) Equal) Equal))
      → IsRule key_cmp (test t) records n at
  of_polygons n at test broken place only order = record {
    broken = λ k. broken k ∙ ap (λ u. test u k) e;
    place = place;
    key = λ p. (part p 0, number p 1);
    only = only;
    order = λ k j h. ap is_gt (order k j) ∙ keyed (bytes_cmp k.0 j.0) (nat_cmp k.1 j.1) h;
  }

  -- a TLID with two records of type 1, and one of a record without its chain
  pub rule_11 : IsRule nat_cmp (is_repeated nat_cmp (map one_tlid t.of_type_1)) records 0 ChainTwice
  rule_11 = numbered 0 ChainTwice (λ u. is_repeated nat_cmp (map one_tlid u.of_type_1)) (λ k. refl) (λ k. refl) (λ p. refl) (λ k j. refl)

  pub rule_12_two : IsRule nat_cmp (is_unknown nat_cmp (map two_tlid t.of_type_2) (map one_tlid t.of_type_1)) records 1 (NoChain Two)
  rule_12_two = numbered 1 (NoChain Two) (λ u. is_unknown nat_cmp (map two_tlid u.of_type_2) (map one_tlid u.of_type_1))
      (λ k. refl) (λ k. refl) (λ p. refl) (λ k j. refl)

  pub rule_12_four : IsRule nat_cmp (is_unknown nat_cmp (map four_tlid t.of_type_4) (map one_tlid t.of_type_1)) records 2 (NoChain Four)
  rule_12_four = numbered 2 (NoChain Four) (λ u. is_unknown nat_cmp (map four_tlid u.of_type_4) (map one_tlid u.of_type_1))
      (λ k. refl) (λ k. refl) (λ p. refl) (λ k j. refl)

  pub rule_12_six : IsRule nat_cmp (is_unknown nat_cmp (map six_tlid t.of_type_6) (map one_tlid t.of_type_1)) records 3 (NoChain Six)
  rule_12_six = numbered 3 (NoChain Six) (λ u. is_unknown nat_cmp (map six_tlid u.of_type_6) (map one_tlid u.of_type_1))
      (λ k. refl) (λ k. refl) (λ p. refl) (λ k j. refl)

  pub rule_12_i : IsRule nat_cmp (is_unknown nat_cmp (map i_tlid t.of_type_i) (map one_tlid t.of_type_1)) records 4 (NoChain I)
  rule_12_i = numbered 4 (NoChain I) (λ u. is_unknown nat_cmp (map i_tlid u.of_type_i) (map one_tlid u.of_type_1))
      (λ k. refl) (λ k. refl) (λ p. refl) (λ k j. refl)

  pub rule_13_two : IsRule nat_cmp (λ k. has_repeat nat_cmp (map two_rtsq (of_number two_tlid k t.of_type_2))) records 5
      (SequenceBroken sequenced.Two)
  rule_13_two = numbered 5 (SequenceBroken sequenced.Two) (λ u k. has_repeat nat_cmp (map two_rtsq (of_number two_tlid k u.of_type_2)))
      (λ k. refl) (λ k. refl) (λ p. refl) (λ k j. refl)

  pub rule_13_four : IsRule nat_cmp (λ k. has_repeat nat_cmp (map four_rtsq (of_number four_tlid k t.of_type_4))) records 6
      (SequenceBroken sequenced.Four)
  rule_13_four = numbered 6 (SequenceBroken sequenced.Four) (λ u k. has_repeat nat_cmp (map four_rtsq (of_number four_tlid k u.of_type_4)))
      (λ k. refl) (λ k. refl) (λ p. refl) (λ k j. refl)

  pub rule_13_six : IsRule nat_cmp (λ k. has_repeat nat_cmp (map six_rtsq (of_number six_tlid k t.of_type_6))) records 7
      (SequenceBroken sequenced.Six)
  rule_13_six = numbered 7 (SequenceBroken sequenced.Six) (λ u k. has_repeat nat_cmp (map six_rtsq (of_number six_tlid k u.of_type_6)))
      (λ k. refl) (λ k. refl) (λ p. refl) (λ k j. refl)

  pub rule_16 : IsRule nat_cmp (is_repeated nat_cmp (map five_feat t.of_type_5)) records 10 NameTwice
  rule_16 = numbered 10 NameTwice (λ u. is_repeated nat_cmp (map five_feat u.of_type_5))
      (λ k. refl) (λ k. refl) (λ p. refl) (λ k j. refl)

  pub rule_17 : IsRule sequence_cmp (is_unnamed (flat_map uses_of t.of_type_4) (map five_feat t.of_type_5)) records 11
      (λ pair. NameUnknown pair.0 pair.1)
  rule_17 = record {
    broken = λ k. ap (λ (u : Typed). contains nat_cmp k.1
        (flat_map (λ (r : Fields4). r.feats) (of_number four_tlid k.0 u.of_type_4)) && not
        (contains nat_cmp k.1 (map five_feat u.of_type_5))) e
        ∙ ap (λ n. nat_lt 0 n && not (contains nat_cmp k.1 (map five_feat t.of_type_5))) (sym (times-uses k.0 k.1 t.of_type_4));
    place = λ k. refl;
    key = λ p. (number p 0, number p 1);
    only = λ p. refl;
    order = λ k j h. paired (nat_cmp k.0 j.0) (nat_cmp k.1 j.1) h;
  }

  pub rule_18 : IsRule key_cmp (is_repeated key_cmp (map p_key t.of_type_p)) records 12 (λ key. PolygonTwice key.0 key.1)
  rule_18 = of_polygons 12 (λ key. PolygonTwice key.0 key.1) (λ u. is_repeated key_cmp (map p_key u.of_type_p))
      (λ k. refl) (λ k. refl) (λ p. refl) (λ k j. refl)

  pub rule_19 : IsRule nat_cmp (is_unknown nat_cmp (map eight_land t.of_type_8) (map seven_land t.of_type_7)) records 13 LandUnknown
  rule_19 = numbered 13 LandUnknown (λ u. is_unknown nat_cmp (map eight_land u.of_type_8) (map seven_land u.of_type_7))
      (λ k. refl) (λ k. refl) (λ p. refl) (λ k j. refl)

  pub rule_20 : IsRule key_cmp (is_unknown key_cmp (map link_key t.of_type_8)
      (flat_map side_keys t.of_type_i ++ map p_key t.of_type_p)) records 14 (λ key. PolygonUnknown key.0 key.1)
  rule_20 = of_polygons 14 (λ key. PolygonUnknown key.0 key.1)
      (λ u. is_unknown key_cmp (map link_key u.of_type_8) (flat_map side_keys u.of_type_i ++ map p_key u.of_type_p))
      (λ k. refl) (λ k. refl) (λ p. refl) (λ k j. refl)
