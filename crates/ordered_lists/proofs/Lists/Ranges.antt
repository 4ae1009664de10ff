-- Ranges of numbers: they ascend, and a list with as many numbers below a bound, none of them twice, has all numbers below it.
use Rattle.ordered_lists.proofs.Common.{AllByRecursion, Bool, Equal, Greater, IsPermutation, Less, List, [], ap, arith, cond, false, false≢true, get_or, get_or-set_other, get_or-set_same, inl, inr, is_eq, length, length-set, lt-ltb, nat_cmp, range_with_len, refl, set, suc, sym, times, true, zero, ℕ, ◌++◌, ◌+◌, ◌<◌, ◌==◌, ◌∙◌, ◌∷◌, ◌≡◌, ◌≤◌, ◌⊎◌}
use Rattle.ordered_lists.proofs.ByKey.Keys.{IsApart, Known, all_known, apart_from_sorted, differ_apart, known-permutation, known_all, nat_keys, same_or_not, times-append, times-no, times-yes}
use Rattle.ordered_lists.proofs.Lists.Counted.{few_numbers}
use Rattle.ordered_lists.proofs.Lists.Elements.{all_append, all_weaker}
use Rattle.ordered_lists.proofs.Lists.Permutations.{apart-permutation_of}
use Rattle.std.specs.List.Sorted.{IsStrictlySortedBy}

pub less : (m n : ℕ) → m < n → nat_cmp m n ≡ Less
less m n h = ap (λ b. cond b Less (cond (m == n) Equal Greater)) (lt-ltb m n h)

above : (m a n : ℕ) → m < a → AllByRecursion (λ y. nat_cmp m y ≡ Less) (range_with_len a n)
above m a zero h = tt
above m a (suc n) h = (less m a h, above m (a + 1) n (omega arith))

-- a range ascends strictly
pub range_strict : (a n : ℕ) → IsStrictlySortedBy nat_cmp (range_with_len a n)
unfolding IsStrictlySortedBy
range_strict a zero = tt
range_strict a (suc n) = (above a (a + 1) n (omega arith), range_strict (a + 1) n)

-- its numbers are within its bounds
pub range_bounds : (a n : ℕ) → AllByRecursion (λ j. (a ≤ j) × (j < a + n)) (range_with_len a n)
range_bounds a zero = tt
range_bounds a (suc n) = (
  (omega arith, omega arith),
  all_weaker (λ j. (a + 1 ≤ j) × (j < (a + 1) + n)) (λ j. (a ≤ j) × (j < a + suc n))
      (λ j h. (let low = h.0 in omega (arith, low), let high = h.1 in omega (arith, high))) (range_with_len (a + 1) n) (range_bounds
      (a + 1) n),
)

-- each number within the bounds is in the range
known_range : (a n k : ℕ) → a ≤ k → k < a + n → Known nat_cmp (range_with_len a n) k
known_range a zero k low high = absurd (omega (arith, low, high))
known_range a (suc n) k low high =
    go (same_or_not nat_keys k a) (λ apart. known_range (a + 1) n k (omega (arith, apart, low)) (omega (arith, high)))
  where
    go : (k ≡ a) ⊎ (is_eq (nat_cmp k a) ≡ false) → ((k ≡ a → ⊥) → 0 < times nat_cmp k (range_with_len (a + 1) n))
        → Known nat_cmp (range_with_len a (suc n)) k
    go (inl e) later = omega (arith, times-yes nat_keys k a (range_with_len (a + 1) n) e)
    go (inr ne) later =
        omega (arith, later (differ_apart nat_keys k a ne), times-no nat_keys k a (range_with_len (a + 1) n) ne)

-- a permutation of the places below n is below n
pub places_below : (n : ℕ) (places : List ℕ) → IsPermutation (range_with_len 0 n) places → AllByRecursion (λ i. i < n) places
places_below n places p = all_known nat_keys (λ i. i < n) places
    (λ i known. let t : i < 0 + n = (known_all nat_keys (λ j. (0 ≤ j) × (j < 0 + n)) (range_with_len 0 n) (range_bounds 0 n) i
    (known-permutation nat_keys i (range_with_len 0 n) places p known)).1 in omega arith)

-- places taken one after another: which are free, of n in all, and which were taken
pub record AreTaken (free : List Bool) (n : ℕ) (taken : List ℕ) : Type 0 where
  pub len : length free ≡ n
  pub apart : IsApart nat_cmp taken
  pub below : AllByRecursion (λ place. place < n) taken
  pub others : (k : ℕ) → get_or free k false ≡ true → times nat_cmp k taken ≡ 0

-- one more place is taken
pub one_taken : (free after : List Bool) (n : ℕ) (taken : List ℕ) (place : ℕ) → AreTaken free n taken → place < length free
    → get_or free place false ≡ true → after ≡ set free place false → AreTaken after n (taken ++ (place ∷ []))
one_taken free after n taken place t there was is = record {
  len = ap length is ∙ length-set free place false ∙ t.len;
  apart = λ k. once k (same_or_not nat_keys k place);
  below = all_append (λ p. p < n) taken (place ∷ []) t.below (omega (arith, there, t.len), tt);
  others = λ k e. other k (ap (λ l. get_or l k false) (sym is) ∙ e) (same_or_not nat_keys k place);
}
  where
    once : (k : ℕ) → (k ≡ place) ⊎ (is_eq (nat_cmp k place) ≡ false) → times nat_cmp k (taken ++ (place ∷ [])) ≤ 1
    once k (inl e) =
        let none : times nat_cmp k taken ≡ 0 = t.others k (ap (λ p. get_or free p false) e ∙ was) in
        omega (arith, none, times-append nat_keys k taken (place ∷ []), times-yes nat_keys k place [] e)
    once k (inr ne) = omega (arith, t.apart k, times-append nat_keys k taken (place ∷ []), times-no nat_keys k place [] ne)

    other : (k : ℕ) → get_or (set free place false) k false ≡ true → (k ≡ place) ⊎ (is_eq (nat_cmp k place) ≡ false)
        → times nat_cmp k (taken ++ (place ∷ [])) ≡ 0
    other k e (inl same) =
        absurd (false≢true (sym (ap (λ p. get_or (set free place false) p false) same ∙ get_or-set_same free place false false there) ∙ e))
    other k e (inr ne) =
        let none : times nat_cmp k taken ≡ 0 =
        t.others k (sym (get_or-set_other free place k false false (differ_apart nat_keys k place ne)) ∙ e) in
        omega (arith, none, times-append nat_keys k taken (place ∷ []), times-no nat_keys k place [] ne)

-- as many places as there are, none of them twice, are all places
pub all_taken : (free : List Bool) (places : List ℕ) → AreTaken free (length places) places
    → IsPermutation (range_with_len 0 (length places)) places
all_taken free places t =
    let n = length places in
    let range : List ℕ = range_with_len 0 n in
    apart-permutation_of nat_keys range places (apart_from_sorted nat_keys range (range_strict 0 n)) t.apart
    (λ k known. there k (let h : k < 0 + n = (known_all nat_keys (λ j. (0 ≤ j) × (j < 0 + n)) range (range_bounds 0 n) k known).1 in
    omega arith))
    (λ k known. known_range 0 n k (omega arith) (let h : k < n = known_all nat_keys (λ p. p < n) places t.below k known in omega arith))
  where
    one_more : (k : ℕ) → k < length places → times nat_cmp k places ≡ 0 → IsApart nat_cmp (k ∷ places)
    one_more k h none j = go (same_or_not nat_keys j k)
      where
        go : (j ≡ k) ⊎ (is_eq (nat_cmp j k) ≡ false) → times nat_cmp j (k ∷ places) ≤ 1
        go (inl e) =
            let zero_times : times nat_cmp j places ≡ 0 = ap (λ i. times nat_cmp i places) e ∙ none in
            omega (arith, zero_times, times-yes nat_keys j k places e)
        go (inr ne) = omega (arith, t.apart j, times-no nat_keys j k places ne)

    there : (k : ℕ) → k < length places → Known nat_cmp places k
    there k h = go (times nat_cmp k places) refl
      where
        go : (m : ℕ) → times nat_cmp k places ≡ m → Known nat_cmp places k
        go zero e = absurd (let few = few_numbers 0 (length places) (k ∷ places) (one_more k h e) (
          (omega arith, h),
          all_weaker (λ p. p < length places) (λ p. (0 ≤ p) × (p < length places)) (λ p l. (omega arith, l))
              places t.below,
        ) in omega (arith, few))
        go (suc m) e = omega (arith, e)
