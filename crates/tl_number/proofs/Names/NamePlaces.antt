-- The FEATs of names in their new order are in order by content, rank and FEAT, so a name's place is how many come before it.
use Rattle.tl_number.proofs.Common.{AllByRecursion, AreWhole, Arrangement, Body5, County, DirectedChain, IsCounty, IsInOrder, IsKeyOrder, IsPermutation, IsPermutation-map, Known, Less, List, Ordering, Some, Use, [], all-in_order, all_both, all_unmap, all_uses, all_weaker, ap, ap₂, arith, arrangement_of, arranges, by_uses, cond, differ, differ_apart, entry_keys, exact_unsigned, false, feats, feats_along_arrangement, feats_in_order, filter-agree, first_seen, greater, in_order-in_order, in_order-map, inl, inr, is_eq, is_lt, known-permutation, length, length_permutation, less, name_body_cmp, name_body_keys, name_key, name_key_cmp, name_key_keys, name_under, names_in_order, names_permutation, nat_cmp, nat_cmp_total, nat_keys, on, on_total, one_cmp, option_cmp, options_total, ordering_then, place_in, placed, rank_of, ranked_there, refl, same-itself, same_or_not, slice_cmp, slice_get, subst, suc, sym, then-equal, then_assoc, then_total, tied_itself, times, times-permutation, unknown_at_end, unranked, use_cmp, uses_of_name, value_under, zero, ℕ, ◌<◌, ◌∙◌, ◌∷◌, ◌≡◌, ◌≤◌, ◌⊎◌}
use Rattle.tl_number.proofs.Lists.OrderPlaces.{by_number, in_order-among, numbered_order, place_counted}
use Rattle.tl_number.proofs.Ties.Keys.{AreAlike, there_found}
use Rattle.canonical_form.proofs.Numbering.FirstSeen.{known_within}
use Rattle.std.proofs.lemmas.Bool.{cases_lt, cases_order}
use Rattle.std.specs.List.Sorted.{IsStrictlySortedBy}

-- FEATs by the content of their names, then by their ranks, then by themselves
abbrev pub feat_cmp : County → List ℕ → ℕ → ℕ → Ordering
feat_cmp county seen f g =
    ordering_then (option_cmp name_body_cmp (name_under county f) (name_under county g))
    (ordering_then (nat_cmp (rank_of seen (Some f)) (rank_of seen (Some g))) (nat_cmp f g))

pub feat_keys : (county : County) (seen : List ℕ) → IsKeyOrder (feat_cmp county seen)
feat_keys county seen = record {
  total = then_total (on_total (λ (f : ℕ). name_under county f) (options_total name_body_keys.total))
      (then_total (on_total (λ (f : ℕ). rank_of seen (Some f)) nat_cmp_total) nat_cmp_total);
  exact = λ f g e. exact_unsigned f g
      (then-equal (nat_cmp (rank_of seen (Some f)) (rank_of seen (Some g))) (nat_cmp f g)
      (then-equal (option_cmp name_body_cmp (name_under county f) (name_under county g))
      (ordering_then (nat_cmp (rank_of seen (Some f)) (rank_of seen (Some g))) (nat_cmp f g)) e).1).1;
}

-- each entry's value is found under its number
own_values : {V : Type 0} (entries : List (ℕ × V)) → IsStrictlySortedBy nat_cmp (entry_keys entries)
    → AllByRecursion (λ x. value_under nat_cmp x.0 entries ≡ Some x.1) entries
unfolding IsStrictlySortedBy
own_values [] h = tt
own_values {V} (e ∷ es) h = (
  ap (λ b. cond b (Some e.1) (value_under nat_cmp e.0 es)) (same-itself nat_keys e.0),
  all_weaker (λ x. (nat_cmp e.0 x.0 ≡ Less) × (value_under nat_cmp x.0 es ≡ Some x.1)) (λ x. value_under nat_cmp x.0 (e ∷ es) ≡ Some x.1)
      (λ x l. ap (λ b. cond b (Some e.1) (value_under nat_cmp x.0 es)) (other x l.0) ∙ l.1) es
      (all_both (λ x. nat_cmp e.0 x.0 ≡ Less) (λ x. value_under nat_cmp x.0 es ≡ Some x.1) es
      (all_unmap (λ n. nat_cmp e.0 n ≡ Less) (λ (x : ℕ × V). x.0) es h.0) (own_values es h.1)),
) where
  other : (x : ℕ × V) → nat_cmp e.0 x.0 ≡ Less → is_eq (nat_cmp x.0 e.0) ≡ false
  other x l = differ nat_keys x.0 e.0 (λ same. differ_apart nat_keys e.0 x.0 (ap is_eq l) (sym same))

module _ (county : County) (arrangement : List DirectedChain) (is : IsCounty county) (whole : AreWhole county arrangement) where
  abbrev order : Arrangement
  order = arrangement_of county arrangement

  abbrev used : List (Use × ℕ)
  used = all_uses (placed county order)

  abbrev number : ℕ × Body5 → ℕ
  number e = e.0

  abbrev by : ℕ × Body5 → ℕ × Body5 → Ordering
  by = on (name_key used) name_key_cmp

  abbrev Found : ℕ × Body5 → Type 0
  Found e = name_under county e.0 ≡ Some e.1

  -- the new order has each FEAT of the county
  pub feats_permuted : IsPermutation (feats_in_order county arrangement) (feats county)
  feats_permuted = IsPermutation-map (λ (e : ℕ × Body5). e.0) (names_in_order county order) county.names
      (names_permutation county order is (arranges county arrangement is whole))

  -- They are in the order of content, rank and FEAT.
  pub feats_ordered : (seen : List ℕ) → seen ≡ first_seen nat_cmp (feats_along_arrangement county arrangement)
      → IsInOrder (feat_cmp county seen) (feats_in_order county arrangement)
  feats_ordered seen uses =
      in_order-map (feat_cmp county seen) (λ (e : ℕ × Body5). e.0) (names_in_order county order)
      (in_order-among (by_number by number) (on number (feat_cmp county seen)) Found same (names_in_order county order)
      (all-in_order Found by county.names (own_values county.names is.ascending.names))
      (subst (IsInOrder (by_number by number)) (sym (numbered_order by number county.names is.ascending.names))
      (in_order-in_order (then_total (on_total (name_key used) name_key_keys.total) (on_total number nat_cmp_total)) county.names)))
    where
      same : (x y : ℕ × Body5) → Found x → Found y → by_number by number x y ≡ feat_cmp county seen x.0 y.0
      same x y p q =
          sym (then_assoc (name_body_cmp x.1 y.1)
          (slice_cmp use_cmp (uses_of_name used x.0) (uses_of_name used y.0)) (nat_cmp x.0 y.0))
          ∙ (λ i. ordering_then (option_cmp name_body_cmp (sym p i) (sym q i))
          (ordering_then (sym (by_uses county arrangement is whole seen uses x.0 y.0) i) (nat_cmp x.0 y.0)))

-- Two lists of FEATs with the same members, in which the same ones come before a FEAT.
module _ (seen seen_too : List ℕ) (alike : AreAlike nat_cmp seen seen_too) (k : ℕ)
    (same_before : (j : ℕ) → (place_in nat_cmp seen j < place_in nat_cmp seen k → place_in nat_cmp seen_too j < place_in nat_cmp seen_too k)
    × (place_in nat_cmp seen_too j < place_in nat_cmp seen_too k → place_in nat_cmp seen j < place_in nat_cmp seen k)) where
  abbrev rank : List ℕ → ℕ → ℕ
  rank ks j = rank_of ks (Some j)

  none_too : (j : ℕ) → times nat_cmp j seen ≤ 0 → times nat_cmp j seen_too ≡ 0
  none_too j none = go (cases_lt 0 (times nat_cmp j seen_too))
    where
      go : Known nat_cmp seen_too j ⊎ (times nat_cmp j seen_too ≤ 0) → times nat_cmp j seen_too ≡ 0
      go (inl h) = absurd (let there = (alike j).1 h in omega (arith, there, none))
      go (inr l) = omega arith

  one_place : (ks : List ℕ) (i j : ℕ) → Known nat_cmp ks i → Known nat_cmp ks j → place_in nat_cmp ks i ≡ place_in nat_cmp ks j → i ≡ j
  one_place ks i j a b e =
      let both : Some i ≡ Some j = sym (there_found nat_keys ks i (known_within nat_keys ks i a)) ∙ ap (slice_get ks) e
      ∙ there_found nat_keys ks j (known_within nat_keys ks j b) in cc

  above : (a b c d : ℕ) → b < a → (c < d → a < b) → (c ≡ d → ⊥) → (c ≡ d) ⊎ ((c < d) ⊎ (d < c)) → d < c
  above a b c d l back apart (inl e) = absurd (apart e)
  above a b c d l back apart (inr (inl m)) = absurd (let n = back m in omega (arith, l, n))
  above a b c d l back apart (inr (inr m)) = m

  -- the ranks of a FEAT and of this one compare alike
  pub ranks_alike : (j : ℕ) → nat_cmp (rank_of seen (Some j)) (rank_of seen (Some k)) ≡ nat_cmp (rank_of seen_too (Some j)) (rank_of seen_too (Some k))
  ranks_alike j = go (cases_lt 0 (times nat_cmp j seen)) (cases_lt 0 (times nat_cmp k seen)) (same_or_not nat_keys j k)
    where
      go : Known nat_cmp seen j ⊎ (times nat_cmp j seen ≤ 0) → Known nat_cmp seen k ⊎ (times nat_cmp k seen ≤ 0)
          → (j ≡ k) ⊎ (is_eq (nat_cmp j k) ≡ false)
          → nat_cmp (rank seen j) (rank seen k) ≡ nat_cmp (rank seen_too j) (rank seen_too k)
      go a b (inl same) =
          ap (λ n. nat_cmp (rank seen n) (rank seen k)) same ∙ tied_itself nat_cmp_total (rank seen k)
          ∙ sym (tied_itself nat_cmp_total (rank seen_too k)) ∙ sym (ap (λ n. nat_cmp (rank seen_too n) (rank seen_too k)) same)
      go (inl a) (inl b) (inr ne) =
          let rj = ranked_there seen j a in
          let rk = ranked_there seen k b in
          let sj = ranked_there seen_too j ((alike j).0 a) in
          let sk = ranked_there seen_too k ((alike k).0 b) in
          let there = (same_before j).0 in
          let back = (same_before j).1 in
          let apart : place_in nat_cmp seen_too j ≡ place_in nat_cmp seen_too k → ⊥ =
          λ e. differ_apart nat_keys j k ne (one_place seen_too j k ((alike j).0 a) ((alike k).0 b) e) in
          one_cmp (rank seen j) (rank seen k) (rank seen_too j) (rank seen_too k) (record {
            less = λ l. omega (arith, l, rj, rk, sj, sk, there);
            same = λ e. absurd (differ_apart nat_keys j k ne (one_place seen j k a b (omega (arith, e, rj, rk))));
            more = λ l. (let m = above (place_in nat_cmp seen j) (place_in nat_cmp seen k) (place_in nat_cmp seen_too j)
                (place_in nat_cmp seen_too k) (omega (arith, l, rj, rk)) back apart
                (cases_order (place_in nat_cmp seen_too j) (place_in nat_cmp seen_too k)) in omega (arith, m, sj, sk));
          })
      go (inl a) (inr n) (inr ne) =
          greater (rank seen k) (rank seen j) (omega (arith, ranked_there seen j a, unranked seen k (omega arith)))
          ∙ sym (greater (rank seen_too k) (rank seen_too j) (omega (
            arith,
            ranked_there seen_too j ((alike j).0 a),
            unranked seen_too k (none_too k n),
          )))
      go (inr n) (inl b) (inr ne) =
          less (rank seen j) (rank seen k) (omega (arith, unranked seen j (omega arith), ranked_there seen k b))
          ∙ sym (less (rank seen_too j) (rank seen_too k) (omega (
            arith,
            unranked seen_too j (none_too j n),
            ranked_there seen_too k ((alike k).0 b),
          )))
      go (inr n) (inr m) (inr ne) = ap₂ nat_cmp (unranked seen j (omega arith) ∙ sym (unranked seen_too j (none_too j n)))
          (unranked seen k (omega arith) ∙ sym (unranked seen_too k (none_too k m)))

-- A name before which the same FEATs are first seen in two arrangements has the same place in both.
module _ (county : County) (is : IsCounty county) (one other : List DirectedChain) (whole : AreWhole county one) (whole_too : AreWhole county other)
    (seen seen_too : List ℕ) (uses : seen ≡ first_seen nat_cmp (feats_along_arrangement county one))
    (uses_too : seen_too ≡ first_seen nat_cmp (feats_along_arrangement county other)) where
  pub name_stays : AreAlike nat_cmp seen seen_too → (k : ℕ)
      → ((j : ℕ) → (place_in nat_cmp seen j < place_in nat_cmp seen k → place_in nat_cmp seen_too j < place_in nat_cmp seen_too k)
      × (place_in nat_cmp seen_too j < place_in nat_cmp seen_too k → place_in nat_cmp seen j < place_in nat_cmp seen k))
      → place_in nat_cmp (feats_in_order county one) k ≡ place_in nat_cmp (feats_in_order county other) k
  name_stays alike k same_before = go (times nat_cmp k (feats county)) refl
    where
      permuted : IsPermutation (feats_in_order county one) (feats county)
      permuted = feats_permuted county one is whole

      permuted_too : IsPermutation (feats_in_order county other) (feats county)
      permuted_too = feats_permuted county other is whole_too

      none : (arrangement : List DirectedChain) → IsPermutation (feats_in_order county arrangement) (feats county) → times nat_cmp k (feats county) ≡ 0
          → place_in nat_cmp (feats_in_order county arrangement) k ≡ length (feats county)
      none arrangement p e =
          unknown_at_end nat_keys (feats_in_order county arrangement) k
          (sym (times-permutation nat_keys k (feats_in_order county arrangement) (feats county) p) ∙ e)
          ∙ sym (length_permutation (feats_in_order county arrangement) (feats county) p)

      go : (n : ℕ) → times nat_cmp k (feats county) ≡ n → place_in nat_cmp (feats_in_order county one) k ≡ place_in nat_cmp (feats_in_order county other) k
      go zero e = none one permuted e ∙ sym (none other permuted_too e)
      go (suc n) e =
          let there : Known nat_cmp (feats county) k = omega (arith, e) in
          place_counted nat_keys (feat_keys county seen) (feats_in_order county one) (feats county) (feats_ordered county one is whole seen uses) permuted k
          (known-permutation nat_keys k (feats_in_order county one) (feats county) permuted there)
          ∙ ap length (filter-agree (λ j. is_lt (feat_cmp county seen j k)) (λ j. is_lt (feat_cmp county seen_too j k))
          (λ j. ap (λ r. is_lt (ordering_then (option_cmp name_body_cmp (name_under county j) (name_under county k)) (ordering_then r (nat_cmp j k))))
          (ranks_alike seen seen_too alike k same_before j)) (feats county))
          ∙ sym (place_counted nat_keys (feat_keys county seen_too) (feats_in_order county other) (feats county)
          (feats_ordered county other is whole_too seen_too uses_too) permuted_too k
          (known-permutation nat_keys k (feats_in_order county other) (feats county) permuted_too there))
