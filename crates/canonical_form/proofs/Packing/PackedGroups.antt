-- Records made entry by entry: the records with one number come from one entry, and they are in order.
use Rattle.canonical_form.proofs.Common.{AllByRecursion, Among, IsApart, IsInOrder, Less, List, Ordering, [], all_append, all_weaker, among-map, among_known, ap, apart_tail, append-nil, ap₂, arith, common_steps, cond, differ_apart, eq-eqb, false, filter-append, filter_all, flat_map, inl, inr, is_eq, is_gt, map, nat_cmp, nat_cmp_total, nat_keys, ne_eqb, of_number, ordering_then, refl, rules, same_or_not, subst, sym, tied_itself, times, times-no, times-yes, ℕ, ◌++◌, ◌<◌, ◌∙◌, ◌∷◌, ◌≡◌, ◌≤◌, ◌⊎◌}
use Rattle.std.specs.List.Sorted.{IsStrictlySortedBy}

-- two joined lists in order are in order if nothing in the first is greater than anything in the second
pub in_order-append : {X : Type 0} (by : X → X → Ordering) (xs ys : List X) → IsInOrder by xs → IsInOrder by ys
    → AllByRecursion (λ x. AllByRecursion (λ y. is_gt (by x y) ≡ false) ys) xs → IsInOrder by (xs ++ ys)
in_order-append by [] ys g h a = h
in_order-append by (x ∷ xs) ys g h a = (all_append (λ y. is_gt (by x y) ≡ false) xs ys g.0 a.0, in_order-append by xs ys g.1 h a.1)

module _ {V X : Type 0} (key : X → ℕ) (pack : ℕ × V → List X) (own : (e : ℕ × V) → AllByRecursion (λ x. key x ≡ e.0) (pack e)) where
  own_group : (n : ℕ) (e : ℕ × V) → n ≡ e.0 → of_number key n (pack e) ≡ pack e
  own_group n e same = search (rules, filter_all, all_weaker, eq-eqb)

  none_of : (n : ℕ) (xs : List X) → AllByRecursion (λ x. key x ≡ n → ⊥) xs → of_number key n xs ≡ []
  none_of n [] a = refl
  none_of n (x ∷ xs) a = ap (λ b. cond b (x ∷ of_number key n xs) (of_number key n xs)) (ne_eqb (key x) n a.0) ∙ none_of n xs a.1

  other_group : (n : ℕ) (e : ℕ × V) → is_eq (nat_cmp n e.0) ≡ false → of_number key n (pack e) ≡ []
  other_group n e ne = none_of n (pack e) (all_weaker (λ x. key x ≡ e.0) (λ x. key x ≡ n → ⊥)
      (λ x f g. differ_apart nat_keys n e.0 ne (sym g ∙ f)) (pack e) (own e))

  -- without an entry of this number there is no record of it
  pub no_group : (n : ℕ) (es : List (ℕ × V)) → times nat_cmp n (map (λ (e : ℕ × V). e.0) es) ≡ 0 → of_number key n (flat_map pack es) ≡ []
  no_group n [] h = refl
  no_group n (e ∷ es) h = go (same_or_not nat_keys n e.0) (no_group n es)
    where
      go : (n ≡ e.0) ⊎ (is_eq (nat_cmp n e.0) ≡ false)
          → (times nat_cmp n (map (λ (d : ℕ × V). d.0) es) ≡ 0 → of_number key n (flat_map pack es) ≡ [])
          → of_number key n (pack e ++ flat_map pack es) ≡ []
      go (inl same) ih = absurd (omega (arith, h, times-yes nat_keys n e.0 (map (λ (d : ℕ × V). d.0) es) same))
      go (inr ne) ih = search (rules, filter-append, other_group, times-no, nat_keys)

  first_group : (n : ℕ) (e : ℕ × V) (es : List (ℕ × V)) → n ≡ e.0 → IsApart nat_cmp (map (λ (d : ℕ × V). d.0) (e ∷ es))
      → of_number key n (pack e ++ flat_map pack es) ≡ pack e
  first_group n e es same apart = grind (arith, common_steps, times-yes, nat_keys, filter-append, own_group, no_group, append-nil)

  later_group : (n : ℕ) (e : ℕ × V) (es : List (ℕ × V)) → is_eq (nat_cmp n e.0) ≡ false
      → of_number key n (pack e ++ flat_map pack es) ≡ of_number key n (flat_map pack es)
  later_group n e es ne = search (rules, filter-append, other_group)

  -- the records of an entry's number are its records
  pub group_of : (es : List (ℕ × V)) → IsApart nat_cmp (map (λ (e : ℕ × V). e.0) es) → (e : ℕ × V) → Among e es
      → of_number key e.0 (flat_map pack es) ≡ pack e
  group_of [] apart e m = absurd m
  group_of (d ∷ es) apart e m =
      go m (same_or_not nat_keys e.0 d.0) (group_of es (apart_tail nat_keys d.0 (map (λ (f : ℕ × V). f.0) es) apart) e)
    where
      go : (e ≡ d) ⊎ Among e es → (e.0 ≡ d.0) ⊎ (is_eq (nat_cmp e.0 d.0) ≡ false)
          → (Among e es → of_number key e.0 (flat_map pack es) ≡ pack e) → of_number key e.0 (pack d ++ flat_map pack es) ≡ pack e
      go (inl same) f ih = first_group e.0 d es (ap (λ (x : ℕ × V). x.0) same) apart ∙ ap pack (sym same)
      go (inr l) (inl same) ih = absurd (
          let there : 0 < times nat_cmp e.0 (map (λ (f : ℕ × V). f.0) es) = among_number e es l in
          let few : times nat_cmp e.0 (d.0 ∷ map (λ (f : ℕ × V). f.0) es) ≤ 1 = apart e.0 in
          omega (arith, there, few, times-yes nat_keys e.0 d.0 (map (λ (f : ℕ × V). f.0) es) same))
        where
          among_number : (f : ℕ × V) (fs : List (ℕ × V)) → Among f fs → 0 < times nat_cmp f.0 (map (λ (x : ℕ × V). x.0) fs)
          among_number f fs k = among_known nat_keys f.0 (map (λ (x : ℕ × V). x.0) fs) (among-map (λ (x : ℕ × V). x.0) f fs k)
      go (inr l) (inr ne) ih = later_group e.0 d es ne ∙ ih l

  -- a property of the empty list and of each entry's records is a property of the records of any number
  pub group_holds : (Q : List X → Type 0) → Q [] → (es : List (ℕ × V)) → IsApart nat_cmp (map (λ (e : ℕ × V). e.0) es)
      → AllByRecursion (λ e. Q (pack e)) es → (n : ℕ) → Q (of_number key n (flat_map pack es))
  group_holds Q none [] apart a n = none
  group_holds Q none (e ∷ es) apart a n =
      go (same_or_not nat_keys n e.0) (group_holds Q none es (apart_tail nat_keys e.0 (map (λ (d : ℕ × V). d.0) es) apart) a.1 n)
    where
      go : (n ≡ e.0) ⊎ (is_eq (nat_cmp n e.0) ≡ false) → Q (of_number key n (flat_map pack es))
          → Q (of_number key n (pack e ++ flat_map pack es))
      go (inl same) ih = subst Q (sym (first_group n e es same apart)) a.0
      go (inr ne) ih = subst Q (sym (later_group n e es ne)) ih

  -- if entries ascend, and the records of each are in some order, all records are in order by number and then by that order
  module _ (sub : X → X → Ordering) where
    abbrev pub by_number : X → X → Ordering
    by_number x y = ordering_then (nat_cmp (key x) (key y)) (sub x y)

    within : (e : ℕ × V) (xs : List X) → AllByRecursion (λ x. key x ≡ e.0) xs → IsInOrder sub xs → IsInOrder by_number xs
    within e [] a h = tt
    within e (x ∷ xs) a h = (each xs a.1 h.0, within e xs a.1 h.1)
      where
        each : (ys : List X) → AllByRecursion (λ y. key y ≡ e.0) ys → AllByRecursion (λ y. is_gt (sub x y) ≡ false) ys
            → AllByRecursion (λ y. is_gt (by_number x y) ≡ false) ys
        each [] b g = tt
        each (y ∷ ys) b g = (
          ap (λ o. is_gt (ordering_then o (sub x y))) (ap₂ nat_cmp a.0 b.0 ∙ tied_itself nat_cmp_total e.0)
              ∙ g.0,
          each ys b.1 g.1,
        )

    above : (e : ℕ × V) (es : List (ℕ × V)) → AllByRecursion (λ n. nat_cmp e.0 n ≡ Less) (map (λ (d : ℕ × V). d.0) es)
        → AllByRecursion (λ y. nat_cmp e.0 (key y) ≡ Less) (flat_map pack es)
    above e [] a = tt
    above e (d ∷ es) a = search (rules, all_append, all_weaker, above e es a.1)

    pub groups_in_order : (es : List (ℕ × V)) → IsStrictlySortedBy nat_cmp (map (λ (e : ℕ × V). e.0) es)
        → AllByRecursion (λ e. IsInOrder sub (pack e)) es → IsInOrder by_number (flat_map pack es)
    unfolding IsStrictlySortedBy
    groups_in_order [] s a = tt
    groups_in_order (e ∷ es) s a =
        in_order-append by_number (pack e) (flat_map pack es) (within e (pack e) (own e) a.0) (groups_in_order es s.1 a.1)
        (all_weaker (λ x. key x ≡ e.0) (λ x. AllByRecursion (λ y. is_gt (by_number x y) ≡ false) (flat_map pack es))
        (λ x f. all_weaker (λ y. nat_cmp e.0 (key y) ≡ Less) (λ y. is_gt (by_number x y) ≡ false)
        (λ y l. ap (λ o. is_gt (ordering_then o (sub x y))) (ap (λ n. nat_cmp n (key y)) f ∙ l)) (flat_map pack es) (above e es s.0))
        (pack e) (own e))
