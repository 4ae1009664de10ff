-- How a key is found in a list.
use Rattle.county_chart.proofs.Common.{Bool, IsKeyOrder, Known, List, Ordering, Some, [], contains, contains_alike, distinct, is_eq, known-distinct, known_from_distinct, list_any, lt-ltb, refl, rules, slice_get, subst, suc, sym, zero, ℕ, ◌∷◌, ◌≡◌}
use Rattle.ordered_lists.proofs.ByKey.Keys.{known-here, known-later}

module _ {K : Type 0} {cmp : K → K → Ordering} (o : IsKeyOrder cmp) where
  -- putting keys in order keeps the keys
  pub contains-distinct : (k : K) (ks : List K) → contains cmp k (distinct cmp ks) ≡ contains cmp k ks
  contains-distinct k ks = contains_alike o (distinct cmp ks) ks k (known_from_distinct o ks k) (known-distinct o ks k)

  -- a key at a place of a list is in the list
  pub known_at : (xs : List K) (i : ℕ) (k : K) → slice_get xs i ≡ Some k → Known cmp xs k
  known_at [] i k e = absurd (cc)
  known_at (x ∷ xs) zero k e = let same : x ≡ k = cc in subst (λ y. Known cmp (y ∷ xs) k) (sym same) (known-here o k xs)
  known_at (x ∷ xs) (suc i) k e = known-later o k x xs (known_at xs i k e)

module _ {K : Type 0} (eq : K → K → Bool) (cmp : K → K → Ordering) (same : (x y : K) → eq x y ≡ is_eq (cmp x y)) where
  -- equality and order find the same keys
  pub any-contains : (k : K) (ks : List K) → list_any (eq k) ks ≡ contains cmp k ks
  any-contains k [] = refl
  any-contains k (x ∷ xs) = search (rules, lt-ltb, any-contains k xs)
