-- Two numbers compared, and two lists from a place on.
use Rattle.county_chart.proofs.Common.{Equal, Greater, Less, List, MatchOrdering, Ordering, Some, [], add-one, ap, arith, cond, drop, inl, inr, length, lt-ltb, nat_cmp, nat_cmp_is, nat_cmp_total, ordering_reverse, ordering_then, refl, rules, slice_cmp, slice_get, suc, sym, zero, ℕ, ◌+◌, ◌<◌, ◌==◌, ◌∙◌, ◌∷◌, ◌≡◌, ◌≤◌, ◌⊎◌}

-- two numbers compared
pub less : (m n : ℕ) → m < n → nat_cmp m n ≡ Less
less m n h = ap (λ b. cond b Less (cond (m == n) Equal Greater)) (lt-ltb m n h)

pub greater : (m n : ℕ) → n < m → nat_cmp m n ≡ Greater
greater m n h = nat_cmp_total.antisymm m n ∙ ap ordering_reverse (less n m h)

decided : (o rest : Ordering) → (o ≡ Equal → ⊥) → ordering_then o rest ≡ o
decided Less rest h = refl
decided Equal rest h = absurd (h refl)
decided Greater rest h = refl

module _ {X : Type 0} (cmp : X → X → Ordering) where
  -- the items at a place decide, and then those after them
  from_place : (xs ys : List X) (i : ℕ) (x y : X) → Some x ≡ slice_get xs i → Some y ≡ slice_get ys i
      → slice_cmp cmp (drop i xs) (drop i ys) ≡ ordering_then (cmp x y) (slice_cmp cmp (drop (suc i) xs) (drop (suc i) ys))
  from_place [] ys i x y e f = cc
  from_place (a ∷ xs) [] i x y e f = cc
  from_place (a ∷ xs) (b ∷ ys) zero x y e f = search rules
  from_place (a ∷ xs) (b ∷ ys) (suc i) x y e f = from_place xs ys i x y e f

  module _ (xs ys : List X) (i : ℕ) (x y : X) (o all : Ordering) (here : Some x ≡ slice_get xs i) (there : Some y ≡ slice_get ys i)
      (compared : o ≡ cmp x y) (was : slice_cmp cmp (drop i xs) (drop i ys) ≡ all) where
    abbrev rest : Ordering
    rest = slice_cmp cmp (drop (suc i) xs) (drop (suc i) ys)

    known : ordering_then o rest ≡ all
    known = ap (λ c. ordering_then c rest) compared ∙ sym (from_place xs ys i x y here there) ∙ was

    pub at_unequal : (o ≡ Equal → ⊥) → o ≡ all
    at_unequal unequal = sym (decided o rest unequal) ∙ known

    pub after_equal : o ≡ Equal → slice_cmp cmp (drop (i + 1) xs) (drop (i + 1) ys) ≡ all
    after_equal equal = rw add-one (sym (ap (λ c. ordering_then c rest) equal) ∙ known)

  -- at the end of one list, the lengths decide
  ends : (xs ys : List X) (i : ℕ) → i ≤ length xs → i ≤ length ys → (length xs ≤ i) ⊎ (length ys ≤ i)
      → MatchOrdering (slice_cmp cmp (drop i xs) (drop i ys)) (length xs < length ys) (length xs ≡ length ys) (length ys < length xs)
  ends [] [] zero h k end = refl
  ends [] (y ∷ ys) zero h k end = omega arith
  ends (x ∷ xs) [] zero h k end = omega arith
  ends (x ∷ xs) (y ∷ ys) zero h k (inl end) = absurd (omega (arith, end))
  ends (x ∷ xs) (y ∷ ys) zero h k (inr end) = absurd (omega (arith, end))
  ends [] ys (suc i) h k end = absurd (omega (arith, h))
  ends (x ∷ xs) [] (suc i) h k end = absurd (omega (arith, k))
  ends (x ∷ xs) (y ∷ ys) (suc i) h k end =
      one_more (slice_cmp cmp (drop i xs) (drop i ys)) (length xs) (length ys) (ends xs ys i (omega (arith, h)) (omega (arith, k)) (less end))
    where
      less : (length (x ∷ xs) ≤ suc i) ⊎ (length (y ∷ ys) ≤ suc i) → (length xs ≤ i) ⊎ (length ys ≤ i)
      less (inl l) = inl (omega (arith, l))
      less (inr l) = inr (omega (arith, l))

      one_more : (o : Ordering) (m n : ℕ) → MatchOrdering o (m < n) (m ≡ n) (n < m) → MatchOrdering o (suc m < suc n) (suc m ≡ suc n) (suc n < suc m)
      one_more Less m n l = omega (arith, l)
      one_more Equal m n e = ap suc e
      one_more Greater m n l = omega (arith, l)

  pub at_end : (xs ys : List X) (i : ℕ) → i ≤ length xs → i ≤ length ys → (length xs ≤ i) ⊎ (length ys ≤ i)
      → slice_cmp cmp (drop i xs) (drop i ys) ≡ nat_cmp (length xs) (length ys)
  at_end xs ys i h k end = nat_cmp_is (length xs) (length ys) (slice_cmp cmp (drop i xs) (drop i ys)) (ends xs ys i h k end)
