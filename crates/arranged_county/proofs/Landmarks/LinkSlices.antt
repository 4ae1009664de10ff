-- In a list in the order of its numbers, the elements with one number are between two counts.
use Rattle.arranged_county.proofs.Common.{AllByRecursion, Bool, Fields8, IsInOrder, List, [], all_weaker, ap, ap₂, arith, at_most, cond, drop, eight_land, eqb, eqb_tells, false, filter, get_or, get_or-map-range_with_len, inl, inr, is_gt, leb_tells, length, link_bounds, links_up_to, links_with, nat_cmp, nat_le, on, refl, slice_get, subst, suc, sym, take, true, up_to, ℕ, ◌+◌, ◌-◌, ◌<◌, ◌==◌, ◌∙◌, ◌∷◌, ◌≡◌, ◌≢◌, ◌≤◌, ◌⊎◌}
use Rattle.arranged_county.proofs.Views.ViewNumbers.{get_up_to}
use Rattle.std.proofs.lemmas.Bool.Decides.{nat_tests}
use Rattle.std.proofs.lemmas.Grind.{common_steps}

module _ {X : Type 0} (number : X → ℕ) where
  -- how many elements have a number up to this one
  abbrev upto : ℕ → List X → ℕ
  upto n xs = length (filter (λ x. nat_le (number x) n) xs)

  none_up : (n : ℕ) (xs : List X) → AllByRecursion (λ x. n < number x) xs → upto n xs ≡ 0
  none_up n [] h = refl
  none_up n (x ∷ xs) h = let rest = none_up n xs h.1 in let more = h.0 in grind (arith, common_steps, nat_tests, rest, more)

  take_less : (k : ℕ) (ys : List X) → k ≡ 0 → take k ys ≡ []
  take_less k ys e = ap (λ j. take j ys) e

  module _ (n : ℕ) (x : X) (xs : List X) (later : AllByRecursion (λ y. number x ≤ number y) xs)
      (rest : take (upto (suc n) xs - upto n xs) (drop (upto n xs) xs) ≡ filter (λ y. number y == suc n) xs) where
    abbrev Cut : Bool → Bool → Bool → Type 0
    Cut b1 b2 b3 =
        take
        (length (cond b2 (x ∷ filter (λ y. nat_le (number y) (suc n)) xs) (filter (λ y. nat_le (number y) (suc n)) xs))
        - length (cond b1 (x ∷ filter (λ y. nat_le (number y) n) xs) (filter (λ y. nat_le (number y) n) xs)))
        (drop (length (cond b1 (x ∷ filter (λ y. nat_le (number y) n) xs) (filter (λ y. nat_le (number y) n) xs))) (x ∷ xs)) ≡ cond b3
        (x ∷ filter (λ y. number y == suc n) xs) (filter (λ y. number y == suc n) xs)

    before : Cut true true false
    before = ap (λ k. take k (drop (upto n xs) xs)) (let t : suc (upto (suc n) xs) - suc (upto n xs) ≡ upto
        (suc n) xs - upto n xs = omega arith in t)
        ∙ rest

    here : number x ≡ suc n → Cut false true true
    here e =
        let none : upto n xs ≡ 0 =
        none_up n xs (all_weaker (λ y. number x ≤ number y) (λ y. n < number y) (λ y h. omega (arith, e, h)) xs later) in
        let tail : take (upto (suc n) xs) xs ≡ filter (λ y. number y == suc n) xs =
        ap (λ k. take k xs) (let t : upto (suc n) xs ≡ upto (suc n) xs - 0 = omega arith in t)
        ∙ subst (λ z. take (upto (suc n) xs - z) (drop z xs) ≡ filter (λ y. number y == suc n) xs) none rest in
        subst (λ z. take (suc (upto (suc n) xs) - z) (drop z (x ∷ xs)) ≡ x ∷ filter (λ y. number y == suc n) xs) (sym none)
        (ap (λ k. take k (x ∷ xs)) (let t : suc (upto (suc n) xs) - 0 ≡ suc (upto (suc n) xs) = omega arith in t)
        ∙ ap (λ ys. x ∷ ys) tail)

    after : suc n < number x → Cut false false false
    after l =
        let none : upto (suc n) xs ≡ 0 =
        none_up (suc n) xs (all_weaker (λ y. number x ≤ number y) (λ y. suc n < number y) (λ y h. omega (arith, l, h)) xs later) in
        let zero_long : upto (suc n) xs - upto n xs ≡ 0 = omega (arith, none) in
        take_less (upto (suc n) xs - upto n xs) (drop (upto n xs) (x ∷ xs)) zero_long
        ∙ sym (take_less (upto (suc n) xs - upto n xs) (drop (upto n xs) xs) zero_long) ∙ rest

    cut : Cut (nat_le (number x) n) (nat_le (number x) (suc n)) (number x == suc n)
    cut = go (leb_tells (number x) n) (leb_tells (number x) (suc n)) (eqb_tells (number x) (suc n))
      where
        at : (b1 b2 b3 : Bool) → nat_le (number x) n ≡ b1 → nat_le (number x) (suc n) ≡ b2 → (number x == suc n) ≡ b3 → Cut b1 b2 b3
            → Cut (nat_le (number x) n) (nat_le (number x) (suc n)) (number x == suc n)
        at b1 b2 b3 e1 e2 e3 t = subst (λ b. Cut b (nat_le (number x) (suc n)) (number x == suc n)) (sym e1)
            (subst (λ b. Cut b1 b (number x == suc n)) (sym e2) (subst (λ b. Cut b1 b2 b) (sym e3) t))

        go : ((nat_le (number x) n ≡ true) × (number x ≤ n)) ⊎ ((nat_le (number x) n ≡ false) × (n < number x))
            → ((nat_le (number x) (suc n) ≡ true) × (number x ≤ suc n)) ⊎ ((nat_le (number x) (suc n) ≡ false) × (suc n < number x))
            → ((eqb (number x) (suc n) ≡ true) × (number x ≡ suc n)) ⊎ ((eqb (number x) (suc n) ≡ false) × (number x ≢ suc n))
            → Cut (nat_le (number x) n) (nat_le (number x) (suc n)) (number x == suc n)
        go (inl p) (inl q) (inl r) = absurd (let low = p.1 in let same = r.1 in omega (arith, low, same))
        go (inl p) (inl q) (inr r) = at true true false p.0 q.0 r.0 before
        go (inl p) (inr q) s = absurd (let low = p.1 in let high = q.1 in omega (arith, low, high))
        go (inr p) (inl q) (inl r) = at false true true p.0 q.0 r.0 (here r.1)
        go (inr p) (inl q) (inr r) = absurd (let low = p.1 in let high = q.1 in r.1 (omega (arith, low, high)))
        go (inr p) (inr q) (inl r) = absurd (let high = q.1 in let same = r.1 in omega (arith, high, same))
        go (inr p) (inr q) (inr r) = at false false false p.0 q.0 r.0 (after q.1)

  -- the elements with one number are between the counts up to the number before and up to it
  pub between : (n : ℕ) (xs : List X) → IsInOrder (on number nat_cmp) xs
      → take (upto (suc n) xs - upto n xs) (drop (upto n xs) xs) ≡ filter (λ x. number x == suc n) xs
  between n [] h = refl
  between n (x ∷ xs) h =
      cut n x xs (all_weaker (λ y. is_gt (nat_cmp (number x) (number y)) ≡ false) (λ y. number x ≤ number y)
      (λ y e. at_most (number x) (number y) e) xs h.0) (between n xs h.1)

  pub counts_rise : (n : ℕ) (xs : List X) → upto n xs ≤ upto (suc n) xs
  counts_rise n [] = omega arith
  counts_rise n (x ∷ xs) = grind (arith, common_steps, nat_tests, counts_rise n xs)

  pub counts_within : (n : ℕ) (xs : List X) → upto n xs ≤ length xs
  counts_within n [] = omega arith
  counts_within n (x ∷ xs) = grind (arith, common_steps, counts_within n xs)

-- the bounds of the links of the landmark at a place
module _ (links : List Fields8) (bounds : List ℕ) (stated : bounds ≡ link_bounds links (length bounds - 1)) (place : ℕ)
    (within : place < length bounds - 1) where
  bound_at : (p : ℕ) → p < length bounds → get_or bounds p 0 ≡ links_up_to links p
  bound_at p h = ap (λ bs. get_or bs p 0) stated
      ∙ get_or-map-range_with_len (links_up_to links) 0 (length bounds - 1 + 1) p p 0 (omega (arith, h)) (omega arith)

  pub start_at : get_or bounds place 0 ≡ links_up_to links place
  start_at = bound_at place (omega (arith, within))

  pub end_at : get_or bounds (place + 1) 0 ≡ links_up_to links (suc place)
  end_at = (let t : place + 1 ≡ suc place = omega arith in ap (λ p. get_or bounds p 0) t) ∙ bound_at (suc place) (omega (arith, within))

  pub bounds_rise : get_or bounds place 0 ≤ get_or bounds (place + 1) 0
  bounds_rise = omega (arith, start_at, end_at, counts_rise eight_land place links)

  pub bounds_within : get_or bounds (place + 1) 0 ≤ length links
  bounds_within = omega (arith, end_at, counts_within eight_land (suc place) links)

  pub slice_stated : IsInOrder (on eight_land nat_cmp) links
      → take (get_or bounds (place + 1) 0 - get_or bounds place 0) (drop (get_or bounds place 0) links) ≡ links_with links
      (slice_get (up_to (length bounds - 1)) place)
  slice_stated ordered =
      ap₂ (λ high low. take (high - low) (drop low links)) end_at start_at
      ∙ between eight_land place links ordered
      ∙ (let t : suc place ≡ place + 1 = omega arith in ap (λ land. filter (λ link. eight_land link == land) links) t)
      ∙ ap (links_with links) (sym (get_up_to (length bounds - 1) place within))
