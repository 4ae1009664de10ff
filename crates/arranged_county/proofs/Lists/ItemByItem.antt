-- Two lists compared item by item.
use Rattle.arranged_county.proofs.Common.{Equal, Greater, Less, List, None, Ordering, [], ap, arith, drop, drop_all, length, option_cmp, ordering_then, refl, slice_cmp, slice_get, suc, sym, zero, ℕ, ◌<◌, ◌∙◌, ◌∷◌, ◌≡◌, ◌≢◌, ◌≤◌}

module _ {X : Type 0} (R : X → X → Ordering) where
  rest_greater : (i : ℕ) (xs : List X) → i < length xs → slice_cmp R (drop i xs) [] ≡ Greater
  rest_greater i [] h = absurd (omega (arith, h))
  rest_greater zero (x ∷ xs) h = refl
  rest_greater (suc i) (x ∷ xs) h = rest_greater i xs (omega (arith, h))

  item_greater : (i : ℕ) (xs : List X) → i < length xs → option_cmp R (slice_get xs i) None ≡ Greater
  item_greater i [] h = absurd (omega (arith, h))
  item_greater zero (x ∷ xs) h = refl
  item_greater (suc i) (x ∷ xs) h = item_greater i xs (omega (arith, h))

  -- two lists are compared at a place, and then after it
  pub compared_at : (i : ℕ) (xs ys : List X) → i < length xs
      → slice_cmp R (drop i xs) (drop i ys) ≡ ordering_then (option_cmp R (slice_get xs i) (slice_get ys i))
      (slice_cmp R (drop (suc i) xs) (drop (suc i) ys))
  compared_at i [] ys h = absurd (omega (arith, h))
  compared_at zero (x ∷ xs) (y ∷ ys) h = refl
  compared_at (suc i) (x ∷ xs) (y ∷ ys) h = compared_at i xs ys (omega (arith, h))
  compared_at i (x ∷ xs) [] h =
      ap (slice_cmp R (drop i (x ∷ xs))) (drop_all i [] (omega arith)) ∙ rest_greater i (x ∷ xs) h
      ∙ sym (ap (λ o. ordering_then o (slice_cmp R (drop (suc i) (x ∷ xs)) (drop (suc i) []))) (item_greater i (x ∷ xs) h))

  decided : (a b : Ordering) → a ≢ Equal → ordering_then a b ≡ a
  decided Less b ne = refl
  decided Equal b ne = absurd (ne refl)
  decided Greater b ne = refl

  -- the first place where two lists differ decides
  pub differs_at : (i : ℕ) (xs ys : List X) (whole : Ordering) → i < length xs → slice_cmp R (drop i xs) (drop i ys) ≡ whole
      → option_cmp R (slice_get xs i) (slice_get ys i) ≢ Equal → option_cmp R (slice_get xs i) (slice_get ys i) ≡ whole
  differs_at i xs ys whole h e ne =
      sym (decided (option_cmp R (slice_get xs i) (slice_get ys i)) (slice_cmp R (drop (suc i) xs) (drop (suc i) ys)) ne)
      ∙ sym (compared_at i xs ys h) ∙ e

  -- if they agree there, the rest decides
  pub agrees_at : (i : ℕ) (xs ys : List X) (whole : Ordering) → i < length xs → slice_cmp R (drop i xs) (drop i ys) ≡ whole
      → option_cmp R (slice_get xs i) (slice_get ys i) ≡ Equal → slice_cmp R (drop (suc i) xs) (drop (suc i) ys) ≡ whole
  agrees_at i xs ys whole h e same =
      sym (ap (λ o. ordering_then o (slice_cmp R (drop (suc i) xs) (drop (suc i) ys))) same) ∙ sym (compared_at i xs ys h) ∙ e

  -- a list comes after each of its beginnings
  pub beginning_less : (n : ℕ) (xs ys : List X) (whole : Ordering) → length xs ≤ n → n < length ys
      → slice_cmp R (drop n xs) (drop n ys) ≡ whole → Less ≡ whole
  beginning_less n xs ys whole h l e = sym (less n ys l) ∙ ap (λ zs. slice_cmp R zs (drop n ys)) (sym (drop_all n xs h)) ∙ e
    where
      less : (m : ℕ) (zs : List X) → m < length zs → slice_cmp R [] (drop m zs) ≡ Less
      less m [] k = absurd (omega (arith, k))
      less zero (z ∷ zs) k = refl
      less (suc m) (z ∷ zs) k = less m zs (omega (arith, k))
