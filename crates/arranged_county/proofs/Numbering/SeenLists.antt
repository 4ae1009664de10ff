-- The keys first seen along a list that is walked piece by piece.
use Rattle.arranged_county.proofs.Common.{Bool, List, Option, Ordering, [], ap, ap₂, arith, cond, contains, drop, drop_all, false, first_seen_after, option_to_list, refl, slice_get, suc, sym, true, zero, ℕ, ◌++◌, ◌+◌, ◌∙◌, ◌∷◌, ◌≡◌}

module _ {K : Type 0} (cmp : K → K → Ordering) where
  -- one list after another
  pub seen_append : (seen xs ys : List K) → first_seen_after cmp seen (xs ++ ys) ≡ first_seen_after cmp (first_seen_after cmp seen xs) ys
  seen_append seen [] ys = refl
  seen_append seen (x ∷ xs) ys = go (contains cmp x seen) (seen_append seen xs ys) (seen_append (seen ++ (x ∷ [])) xs ys)
    where
      go : (b : Bool) → first_seen_after cmp seen (xs ++ ys) ≡ first_seen_after cmp (first_seen_after cmp seen xs) ys
          → first_seen_after cmp (seen ++ (x ∷ [])) (xs ++ ys) ≡ first_seen_after cmp (first_seen_after cmp (seen ++ (x ∷ [])) xs) ys
          → cond b (first_seen_after cmp seen (xs ++ ys)) (first_seen_after cmp (seen ++ (x ∷ [])) (xs ++ ys)) ≡ first_seen_after cmp
          (cond b (first_seen_after cmp seen xs) (first_seen_after cmp (seen ++ (x ∷ [])) xs)) ys
      go true ih jh = ih
      go false ih jh = jh

  -- the element at a place, and then those after it
  split_at : (i : ℕ) (xs : List K) → drop i xs ≡ option_to_list (slice_get xs i) ++ drop (suc i) xs
  split_at i [] = drop_all i [] (omega arith) ∙ sym (drop_all (suc i) [] (omega arith))
  split_at zero (x ∷ xs) = refl
  split_at (suc i) (x ∷ xs) = split_at i xs

  pub seen_next : (i : ℕ) (seen next xs : List K) (o : Option K) (whole : List K) → next ≡ first_seen_after cmp seen (option_to_list o)
      → o ≡ slice_get xs i → first_seen_after cmp seen (drop i xs) ≡ whole → first_seen_after cmp next (drop (i + 1) xs) ≡ whole
  seen_next i seen next xs o whole n e h =
      ap₂ (λ ks ys. first_seen_after cmp ks ys) (n ∙ ap (λ p. first_seen_after cmp seen (option_to_list p)) e)
      (let t : i + 1 ≡ suc i = omega arith in ap (λ j. drop j xs) t)
      ∙ sym (seen_append seen (option_to_list (slice_get xs i)) (drop (suc i) xs))
      ∙ ap (first_seen_after cmp seen) (sym (split_at i xs)) ∙ h
