-- The place of the first element of a list that passes a test.
use Rattle.canonical_form.proofs.Common.{Bool, List, None, Some, [], ap, arith, cond, cond_some, false, length, length-append, list_any, lt-ltb, ltb-true, nat_lt, not, position, position_or_len, refl, suc, sym, true, ℕ, ◌++◌, ◌+◌, ◌<◌, ◌||◌, ◌∙◌, ◌∷◌, ◌≡◌, ◌≤◌}

module _ {X : Type 0} (p : X → Bool) where
  pub first_stays : (xs ys : List X) → position_or_len p xs < length xs → position_or_len p (xs ++ ys) ≡ position_or_len p xs
  first_stays [] ys h = absurd (omega (arith, h))
  first_stays (x ∷ xs) ys h = go (p x) h (first_stays xs ys)
    where
      go : (b : Bool) → cond (not b) (1 + position_or_len p xs) 0 < suc (length xs)
          → (position_or_len p xs < length xs → position_or_len p (xs ++ ys) ≡ position_or_len p xs)
          → cond (not b) (1 + position_or_len p (xs ++ ys)) 0 ≡ cond (not b) (1 + position_or_len p xs) 0
      go true l ih = refl
      go false l ih = ap (λ n. 1 + n) (ih (omega (arith, l)))

  -- an element that is found is found at the same place in a longer list
  pub place_stays : (xs ys : List X) (i : ℕ) → Some i ≡ position p xs → Some i ≡ position p (xs ++ ys)
  place_stays xs ys i e =
      let found = cond_some (nat_lt (position_or_len p xs) (length xs)) (position_or_len p xs) i (sym e) in
      let here : position_or_len p xs < length xs = ltb-true (position_or_len p xs) (length xs) found.0 in
      let stays : position_or_len p (xs ++ ys) ≡ position_or_len p xs = first_stays xs ys here in
      let within : position_or_len p (xs ++ ys) < length (xs ++ ys) = (let l = length-append xs ys in omega (arith, here, stays, l)) in
      ap Some (sym found.1 ∙ sym stays)
      ∙ sym (ap (λ b. cond b (Some (position_or_len p (xs ++ ys))) None) (lt-ltb (position_or_len p (xs ++ ys)) (length (xs ++ ys)) within))

  pub to_position : (xs : List X) → position_or_len p xs < length xs → Some (position_or_len p xs) ≡ position p xs
  to_position xs h = sym (ap (λ b. cond b (Some (position_or_len p xs)) None) (lt-ltb (position_or_len p xs) (length xs) h))

  pub any_within : (xs : List X) → list_any p xs ≡ true → position_or_len p xs < length xs
  any_within [] e = cc
  any_within (x ∷ xs) e = go (p x) e (any_within xs)
    where
      go : (b : Bool) → (b || list_any p xs) ≡ true → (list_any p xs ≡ true → position_or_len p xs < length xs)
          → cond (not b) (1 + position_or_len p xs) 0 < suc (length xs)
      go true e ih = omega arith
      go false e ih = let h = ih e in omega (arith, h)

  -- an element that isn't found would be at the end
  pub none_at_end : (xs : List X) → list_any p xs ≡ false → position_or_len p xs ≡ length xs
  none_at_end [] e = refl
  none_at_end (x ∷ xs) e = go (p x) e (none_at_end xs)
    where
      go : (b : Bool) → (b || list_any p xs) ≡ false → (list_any p xs ≡ false → position_or_len p xs ≡ length xs)
          → cond (not b) (1 + position_or_len p xs) 0 ≡ suc (length xs)
      go true e ih = cc
      go false e ih = let h = ih e in omega (arith, h)

  -- and is found after a list that doesn't have it
  pub place_behind : (xs ys : List X) → length xs ≤ position_or_len p xs → position_or_len p (xs ++ ys) ≡ length xs + position_or_len p ys
  place_behind [] ys h = (let t : position_or_len p ys ≡ 0 + position_or_len p ys = omega arith in t)
  place_behind (x ∷ xs) ys h = go (p x) h (place_behind xs ys)
    where
      go : (b : Bool) → suc (length xs) ≤ cond (not b) (1 + position_or_len p xs) 0
          → (length xs ≤ position_or_len p xs → position_or_len p (xs ++ ys) ≡ length xs + position_or_len p ys)
          → cond (not b) (1 + position_or_len p (xs ++ ys)) 0 ≡ suc (length xs) + position_or_len p ys
      go true l ih = absurd (omega (arith, l))
      go false l ih = let e = ih (omega (arith, l)) in omega (arith, e)

  pub none_within : (xs : List X) (x : X) → list_any p xs ≡ false → p x ≡ true
      → (position_or_len p xs ≡ length xs) × (position_or_len p (xs ++ (x ∷ [])) ≡ length xs)
  none_within xs x e y =
      let end = none_at_end xs e in (
        end,
        place_behind xs (x ∷ []) (omega (arith, end)) ∙ ap (λ b. length xs + cond (not b) (1 + 0) 0) y
            ∙ (let t : length xs + 0 ≡ length xs = omega arith in t),
      )
