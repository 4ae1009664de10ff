-- The place at which a key is found among others.
use Rattle.canonical_form.proofs.Common.{Bool, IfSome, IsKeyOrder, List, None, Ordering, Some, [], ap, arith, cond, false, is_eq, length, ltb-true, nat_lt, not, position, position_or_len, refl, same-true, slice_get, suc, sym, true, ◌+◌, ◌<◌, ◌∙◌, ◌∷◌, ◌≡◌}

module _ {K : Type 0} (eq : K → K → Bool) (cmp : K → K → Ordering) (same : (x y : K) → eq x y ≡ is_eq (cmp x y)) where
  module _ (o : IsKeyOrder cmp) where
    pub found_key : (k : K) (ks : List K) → position_or_len (eq k) ks < length ks → slice_get ks (position_or_len (eq k) ks) ≡ Some k
    found_key k [] h = absurd (omega (arith, h))
    found_key k (x ∷ xs) h = go (eq k x) refl h (found_key k xs)
      where
        go : (b : Bool) → eq k x ≡ b → cond (not b) (1 + position_or_len (eq k) xs) 0 < suc (length xs)
            → (position_or_len (eq k) xs < length xs → slice_get xs (position_or_len (eq k) xs) ≡ Some k)
            → slice_get (x ∷ xs) (cond (not b) (1 + position_or_len (eq k) xs) 0) ≡ Some k
        go true e l ih = ap Some (sym (same-true o k x (sym (same k x) ∙ e)))
        go false e l ih =
            let next : 1 + position_or_len (eq k) xs ≡ suc (position_or_len (eq k) xs) = omega arith in
            ap (slice_get (x ∷ xs)) next ∙ ih (omega (arith, l))

    -- the key is at the place that is found for it
    pub place_found : (k : K) (ks : List K) → IfSome (position (eq k) ks) (λ place. slice_get ks place ≡ Some k)
    place_found k ks = go (nat_lt (position_or_len (eq k) ks) (length ks)) refl
      where
        go : (b : Bool) → nat_lt (position_or_len (eq k) ks) (length ks) ≡ b
            → IfSome (cond b (Some (position_or_len (eq k) ks)) None) (λ place. slice_get ks place ≡ Some k)
        go true e = found_key k ks (ltb-true (position_or_len (eq k) ks) (length ks) e)
        go false e = tt
