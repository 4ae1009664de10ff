-- The numbers and the entries of a county, decided place by place.
use Rattle.tl_cert.proofs.Common.{Bool, Decides, IfSome, IsInOrder, IsKeyOrder, IsPermutation, IsPermutation-sym, IsPermutation-trans, List, Option, Ordering, Some, [], ap, decides_over, entry_keys, entry_values, in_order-permutation, is_eq, lists_keys, same-itself, same-true, slice_cmp, slice_get, subst, suc, sym, true, zero, ℕ, ◌∙◌, ◌∷◌, ◌≡◌}

-- the key and the value of an entry are at the same place
module _ {K V : Type 0} where
  pub decides_entry : (es : List (K × V)) (i : ℕ) (k : K) → Some k ≡ slice_get (entry_keys es) i → (Q : K → Option V → Type 0) (b : Bool)
      → Decides b (Q k (slice_get (entry_values es) i)) → Decides b (IfSome (slice_get es i) (λ e. Q e.0 (Some e.1)))
  decides_entry [] i k e Q b d = cc
  decides_entry (x ∷ xs) zero k e Q b d =
      let same : k ≡ x.0 = cc in
      subst (λ j. Decides b (Q j (Some x.1))) same d
  decides_entry (x ∷ xs) (suc i) k e Q b d = decides_entry xs i k e Q b d

  -- whether what is found under the new key of an entry is the value of the entry, which is at a place
  pub decides_found : (es : List (K × V)) (i : ℕ) (k : K) → Some k ≡ slice_get (entry_keys es) i → (find : K → Option V) (new : K → K)
      → (b : Bool) (new_k : K) (one other : Option V) → new_k ≡ new k → one ≡ find new_k → other ≡ slice_get (entry_values es) i
      → Decides b (one ≡ other) → Decides b (IfSome (slice_get es i) (λ e. find (new e.0) ≡ Some e.1))
  decides_found es i k e find new b new_k one other is found value d =
      decides_entry es i k e (λ key v. find (new key) ≡ v) b
      (decides_over b one (find (new k)) other (slice_get (entry_values es) i) (found ∙ ap find is) value d)

-- sorted copies are equal exactly if the numbers are a permutation of the others
module _ {K : Type 0} {cmp : K → K → Ordering} (o : IsKeyOrder cmp) where
  pub decides_sorted : (ones sorted others known : List K) → IsPermutation ones sorted → IsInOrder cmp sorted → IsPermutation others known
      → IsInOrder cmp known → (b : Bool) → b ≡ is_eq (slice_cmp cmp sorted known) → Decides b (IsPermutation ones others)
  decides_sorted ones sorted others known p g q h b e = (
    λ yes. IsPermutation-trans ones known others
        (subst (IsPermutation ones) (same-true (lists_keys o) sorted known (sym e ∙ yes)) p) (IsPermutation-sym others known q),
    λ r. e ∙ subst (λ ys. is_eq (slice_cmp cmp sorted ys) ≡ true)
        (in_order-permutation o sorted known g h (IsPermutation-trans sorted ones known (IsPermutation-sym ones sorted p)
        (IsPermutation-trans ones others known r q)))
        (same-itself (lists_keys o) sorted),
  )
