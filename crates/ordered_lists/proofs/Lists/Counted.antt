-- How many elements lists have, in groups and in pieces, and how many numbers are within bounds.
use Rattle.ordered_lists.proofs.Common.{AllByRecursion, Bool, Less, List, None, Option, Some, [], arith, cases_eq, cond, cons_option, drop, eq-eqb, false, filter, filter_map, flat_map, in_order, inl, inr, is_eq, length, length-append, nat_cmp, nat_cmp_total, ne_eqb, ranked, refl, subst, suc, sym, take, true, zero, ℕ, ◌++◌, ◌+◌, ◌-◌, ◌<◌, ◌==◌, ◌∙◌, ◌∷◌, ◌≡◌, ◌≤◌, ◌⊎◌}
use Rattle.ordered_lists.proofs.ByKey.Keys.{IsApart, differ, nat_keys, same-itself}
use Rattle.ordered_lists.proofs.ByKey.Numbers.{all-in_order, count-in_order, length-in_order, strict_from_order}
use Rattle.ordered_lists.proofs.Lists.Elements.{all_both, all_weaker}
use Rattle.ordered_lists.proofs.Lists.InOrder.{in_order-in_order}
use Rattle.std.specs.List.Sorted.{IsStrictlySortedBy}

-- the elements that pass each of several tests, test after test
module _ {X K : Type 0} (p : K → X → Bool) where
  -- the number of tests that an element passes
  abbrev pub hits : X → List K → ℕ
  hits x ks = length (filter (λ k. p k x) ks)

  groups-cons : (x : X) (xs : List X) (ks : List K)
      → length (flat_map (λ k. filter (p k) (x ∷ xs)) ks) ≡ hits x ks + length (flat_map (λ k. filter (p k) xs) ks)
  groups-cons x xs [] = refl
  groups-cons x xs (k ∷ ks) =
      go (flat_map (λ j. filter (p j) (x ∷ xs)) ks) (flat_map (λ j. filter (p j) xs) ks) (p k x) (groups-cons x xs ks)
    where
      go : (more less : List X) (b : Bool) → length more ≡ hits x ks + length less
          → length (cond b (x ∷ filter (p k) xs) (filter (p k) xs) ++ more) ≡ length
          (cond b (k ∷ filter (λ j. p j x) ks) (filter (λ j. p j x) ks)) + length (filter (p k) xs ++ less)
      go more less true ih = omega (arith, ih, length-append (filter (p k) xs) more, length-append (filter (p k) xs) less)
      go more less false ih = omega (arith, ih, length-append (filter (p k) xs) more, length-append (filter (p k) xs) less)

  groups-nil : (ks : List K) → length (flat_map (λ k. filter (p k) []) ks) ≡ 0
  groups-nil [] = refl
  groups-nil (k ∷ ks) = groups-nil ks

  -- if no element passes two tests, the groups together have at most as many elements as the list
  pub few_in_groups : (ks : List K) → ((x : X) → hits x ks ≤ 1) → (xs : List X) → length (flat_map (λ k. filter (p k) xs) ks) ≤ length xs
  few_in_groups ks h [] = omega (arith, groups-nil ks)
  few_in_groups ks h (x ∷ xs) = omega (arith, groups-cons x xs ks, h x, few_in_groups ks h xs)

pub filter-agree : {X : Type 0} (p q : X → Bool) → ((x : X) → p x ≡ q x) → (xs : List X) → filter p xs ≡ filter q xs
filter-agree p q h [] = refl
filter-agree p q h (x ∷ xs) = λ i. cond (h x i) (x ∷ filter-agree p q h xs i) (filter-agree p q h xs i)

pub eq_test : (a b : ℕ) → (a == b) ≡ is_eq (nat_cmp a b)
eq_test a b = go (cases_eq a b)
  where
    go : (a ≡ b) ⊎ (a ≡ b → ⊥) → (a == b) ≡ is_eq (nat_cmp a b)
    go (inl e) = eq-eqb a b e ∙ sym (subst (λ c. is_eq (nat_cmp a c) ≡ true) e (same-itself nat_keys a))
    go (inr ne) = ne_eqb a b ne ∙ sym (differ nat_keys a b ne)

-- at most one of several distinct numbers belongs to an element
pub hits_once : {X : Type 0} (f : X → ℕ) (ks : List ℕ) → IsApart nat_cmp ks → (x : X) → hits (λ k y. f y == k) x ks ≤ 1
hits_once f ks a x = subst (λ ls. length ls ≤ 1) (sym (filter-agree (λ k. f x == k) (λ k. is_eq (nat_cmp (f x) k))
    (λ k. eq_test (f x) k) ks)) (a (f x))

-- lists that are one by one at most as long are at most as long together
pub shorter_pieces : {X Y Z : Type 0} (f : X → List Y) (g : X → List Z) (xs : List X) → AllByRecursion (λ x. length (f x) ≤ length (g x)) xs
    → length (flat_map f xs) ≤ length (flat_map g xs)
shorter_pieces f g [] h = omega arith
shorter_pieces f g (x ∷ xs) h =
    omega (arith, length-append (f x) (flat_map f xs), length-append (g x) (flat_map g xs), h.0, shorter_pieces f g xs h.1)

below : (m n : ℕ) → nat_cmp m n ≡ Less → m < n
below m n e = ranked m n Less (sym e)

-- numbers from a to below b that ascend strictly are at most b - a
strict_few : (a b : ℕ) (ks : List ℕ) → IsStrictlySortedBy nat_cmp ks → AllByRecursion (λ k. (a ≤ k) × (k < b)) ks → length ks ≤ b - a
unfolding IsStrictlySortedBy
strict_few a b [] s h = omega arith
strict_few a b (k ∷ ks) s h =
    let above : AllByRecursion (λ j. (k + 1 ≤ j) × (j < b)) ks =
    all_weaker (λ j. (nat_cmp k j ≡ Less) × ((a ≤ j) × (j < b))) (λ j. (k + 1 ≤ j) × (j < b))
    (λ j d. (let l : k < j = below k j d.0 in omega arith, d.1.1)) ks
    (all_both (λ j. nat_cmp k j ≡ Less) (λ j. (a ≤ j) × (j < b)) ks s.0 h.1) in
    let rest : length ks ≤ b - (k + 1) = strict_few (k + 1) b ks s.1 above in
    let low : a ≤ k = h.0.0 in
    let high : k < b = h.0.1 in
    omega arith

-- the same for distinct numbers in any order
pub few_numbers : (a b : ℕ) (ks : List ℕ) → IsApart nat_cmp ks → AllByRecursion (λ k. (a ≤ k) × (k < b)) ks → length ks ≤ b - a
few_numbers a b ks apart h = subst (λ n. n ≤ b - a) (length-in_order nat_cmp ks)
    (strict_few a b (in_order nat_cmp ks)
    (strict_from_order nat_keys (in_order nat_cmp ks) (in_order-in_order nat_cmp_total ks)
    (λ k. subst (λ n. n ≤ 1) (sym (count-in_order (λ j. is_eq (nat_cmp k j)) nat_cmp ks)) (apart k)))
    (all-in_order (λ k. (a ≤ k) × (k < b)) nat_cmp ks h))

pub all_take : {X : Type 0} (P : X → Type 0) (n : ℕ) (xs : List X) → AllByRecursion P xs → AllByRecursion P (take n xs)
all_take P zero xs a = tt
all_take P (suc n) [] a = tt
all_take P (suc n) (x ∷ xs) a = (a.0, all_take P n xs a.1)

pub all_drop : {X : Type 0} (P : X → Type 0) (n : ℕ) (xs : List X) → AllByRecursion P xs → AllByRecursion P (drop n xs)
all_drop P zero xs a = a
all_drop P (suc n) [] a = tt
all_drop P (suc n) (x ∷ xs) a = all_drop P n xs a.1

-- if a property of an element gives a property of the value selected from it, all selected values have that one
pub all_selected : {X Y : Type 0} (P : X → Type 0) (Q : Y → Type 0) (h : X → Option Y) → ((x : X) (y : Y) → h x ≡ Some y → P x → Q y)
    → (xs : List X) → AllByRecursion P xs → AllByRecursion Q (filter_map h xs)
all_selected P Q h f [] a = tt
all_selected {X} {Y} P Q h f (x ∷ xs) a = go (h x) refl (all_selected P Q h f xs a.1)
  where
    go : (o : Option Y) → h x ≡ o → AllByRecursion Q (filter_map h xs) → AllByRecursion Q (cons_option o (filter_map h xs))
    go None e ih = ih
    go (Some y) e ih = (f x y e a.0, ih)
