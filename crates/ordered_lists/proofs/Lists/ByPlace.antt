-- Lists that are read place by place, and tests that decide a property.
use Rattle.ordered_lists.proofs.Common.{AllByRecursion, AllWithin, Bool, Decides, HoldsAt, IfSome, IsInOrder, IsPermutation, IsPermutation-sym, IsPermutation-trans, List, MatchBool, Ordering, Some, [], add-one, ap, arith, false, false≢true, get_or-range_with_len, in_order, length, length-range_with_len, range_with_len, refl, slice_get, subst, suc, sym, take, take_all, true, zero, zero-add, ℕ, ◌+◌, ◌<◌, ◌∙◌, ◌∷◌, ◌≡◌, ◌≤◌}
use Rattle.ordered_lists.proofs.Lists.InOrder.{in_order-in_order, in_order-permutation}
use Rattle.ordered_lists.proofs.ByKey.Keys.{IsKeyOrder}
use Rattle.ordered_lists.proofs.Lists.Permutations.{in_order-is_permutation}

-- if a test fails, so does a property that implies the tested one
pub decides_no : {P Q : Type 0} (b : Bool) → b ≡ false → Decides b P → (Q → P) → Decides false Q
decides_no b e d f = (λ t. absurd (false≢true t), λ q. absurd (false≢true (sym e ∙ d.1 (f q))))

pub decides_same : {P Q : Type 0} (b : Bool) → Decides b P → (P → Q) → (Q → P) → Decides b Q
decides_same b d f g = (λ e. f (d.0 e), λ q. d.1 (g q))

-- the same test of equal values
pub decides_over : {X : Type 0} (b : Bool) (x x' y y' : X) → x ≡ x' → y ≡ y' → Decides b (x ≡ y) → Decides b (x' ≡ y')
decides_over b x x' y y' p q d = (λ t. sym p ∙ d.0 t ∙ q, λ e. d.1 (p ∙ e ∙ sym q))

-- the elements before a place that is past the last one are all elements
pub taken_all : {X : Type 0} (xs ys : List X) (i n : ℕ) → ys ≡ take i xs → length xs ≡ n → n ≤ i → ys ≡ xs
taken_all xs ys i n e l h = e ∙ take_all i xs (omega (arith, l, h))

-- at a place below the length there is an element
pub some_at : {X : Type 0} (xs : List X) (place : ℕ) → place < length xs → (x : X) × (slice_get xs place ≡ Some x)
some_at [] place h = absurd (omega (arith, h))
some_at (x ∷ xs) zero h = (x, refl)
some_at (x ∷ xs) (suc place) h = some_at xs place (omega (arith, h))

-- a property of the elements at all places
module _ {X : Type 0} (P : X → Type 0) where
  pub all_by_place : (xs : List X) → ((i : ℕ) → i < length xs → IfSome (slice_get xs i) P) → AllByRecursion P xs
  all_by_place [] h = tt
  all_by_place (x ∷ xs) h = (h 0 (omega arith), all_by_place xs (λ i l. h (suc i) (omega (arith, l))))

  pub all_at : (xs : List X) → AllByRecursion P xs → (i : ℕ) → IfSome (slice_get xs i) P
  all_at [] a i = tt
  all_at (x ∷ xs) a zero = a.0
  all_at (x ∷ xs) a (suc i) = all_at xs a.1 i

  -- a property of all elements is one of the element found at a place
  pub all-get : (xs : List X) (place : ℕ) (x : X) → AllByRecursion P xs → slice_get xs place ≡ Some x → P x
  all-get xs place x a e = subst (λ found. IfSome found P) e (all_at xs a place)

  -- what a search of all places for one without the property says of all elements
  pub places_decide : (xs : List X) (n : ℕ) → length xs ≡ n → (r : Bool) → MatchBool r
      (AllWithin (λ i. IfSome (slice_get xs i) P) (range_with_len 0 n) 0 (length (range_with_len 0 n)))
      ((k : ℕ) × (k < length (range_with_len 0 n)) × HoldsAt (λ i. IfSome (slice_get xs i) P → ⊥) (range_with_len 0 n) k)
      → Decides r (AllByRecursion P xs)
  places_decide xs n same true all = (
    λ e. all_by_place xs (λ i l. let there : i < n = omega (arith, l, same) in
        subst (λ place. IfSome (slice_get xs place) P) (get_or-range_with_len 0 n i 0 there ∙ zero-add i)
        (all i 0 (omega arith) (omega (arith, there, length-range_with_len 0 n)))),
    λ a. refl,
  )
  places_decide xs n same false found = (
    λ e. absurd (false≢true e),
    λ a. absurd (found.2 0 (all_at xs a _)),
  )

-- two lists are equal so far and at the next place
module _ {X : Type 0} where
  same_next_at : (xs ys : List X) (i : ℕ) → take i xs ≡ take i ys → slice_get xs i ≡ slice_get ys i → take (suc i) xs ≡ take (suc i) ys
  same_next_at [] [] i e f = refl
  same_next_at [] (y ∷ ys) zero e f = cc
  same_next_at [] (y ∷ ys) (suc i) e f = cc
  same_next_at (x ∷ xs) [] zero e f = cc
  same_next_at (x ∷ xs) [] (suc i) e f = cc
  same_next_at (x ∷ xs) (y ∷ ys) zero e f = let same : x ≡ y = cc in ap (λ z. z ∷ []) same
  same_next_at (x ∷ xs) (y ∷ ys) (suc i) e f =
      let first : x ≡ y = cc in
      let rest : take i xs ≡ take i ys = cc in
      λ j. first j ∷ same_next_at xs ys i rest f j

  pub same_next : (xs ys : List X) (i : ℕ) → take i xs ≡ take i ys → slice_get xs i ≡ slice_get ys i → take (i + 1) xs ≡ take (i + 1) ys
  same_next xs ys i e f = rw add-one (same_next_at xs ys i e f)

  pub same_seen : (xs ys : List X) (i n : ℕ) → take i xs ≡ take i ys → length xs ≡ n → length ys ≡ n → n ≤ i → xs ≡ ys
  same_seen xs ys i n e l m h =
      sym (take_all i xs (omega (arith, l, h))) ∙ e ∙ take_all i ys (omega (arith, m, h))

-- a permutation that is in order is the list put in order
pub sorted_in_order : {K : Type 0} {cmp : K → K → Ordering} → IsKeyOrder cmp → (before after : List K) → IsPermutation before after
    → IsInOrder cmp after → after ≡ in_order cmp before
sorted_in_order {cmp = cmp} o before after p h =
    let same : IsPermutation after (in_order cmp before) =
    IsPermutation-trans after before (in_order cmp before) (IsPermutation-sym before after p)
    (IsPermutation-sym (in_order cmp before) before (in_order-is_permutation cmp before)) in
    in_order-permutation o after (in_order cmp before) h (in_order-in_order o.total before) same
