-- The numbers from 1.
use Rattle.arranged_county.proofs.Common.{List, Some, all_among, among-get, among_known, ap, arith, contains, false, false_from_ne_true, inl, inr, lt-ltb, ltb-true, nat_cmp, nat_keys, range_with_len, slice_get, suc, sym, times, true, up_to, zero, ℕ, ◌+◌, ◌-◌, ◌<◌, ◌∙◌, ◌≡◌, ◌≤◌, ◌⊎◌}
use Rattle.ordered_lists.proofs.Lists.Members.{known_is_among}
use Rattle.ordered_lists.proofs.Lists.Ranges.{range_bounds}

get_range : (a n p : ℕ) → p < n → slice_get (range_with_len a n) p ≡ Some (a + p)
get_range a zero p h = absurd (omega (arith, h))
get_range a (suc n) zero h = ap Some (let t : a ≡ a + 0 = omega arith in t)
get_range a (suc n) (suc p) h = get_range (a + 1) n p (omega (arith, h)) ∙ ap Some (let t : (a + 1) + p ≡ a + suc p = omega arith in t)

pub get_up_to : (n p : ℕ) → p < n → slice_get (up_to n) p ≡ Some (p + 1)
get_up_to n p h = get_range 1 n p h ∙ ap Some (let t : 1 + p ≡ p + 1 = omega arith in t)

-- the number at a place, if numbers count from 1
pub number_there : (numbers : List ℕ) (n p : ℕ) → numbers ≡ up_to n → p < n → Some (p + 1) ≡ slice_get numbers p
number_there numbers n p e h = sym (get_up_to n p h) ∙ ap (λ ns. slice_get ns p) (sym e)

pub known_up_to : (n k : ℕ) → 0 < k → k ≤ n → contains nat_cmp k (up_to n) ≡ true
known_up_to n k low high =
    let there : slice_get (up_to n) (k - 1) ≡ Some k =
    get_up_to n (k - 1) (omega (arith, low, high)) ∙ ap Some (let t : k - 1 + 1 ≡ k = omega (arith, low) in t) in
    lt-ltb 0 (times nat_cmp k (up_to n)) (among_known nat_keys k (up_to n) (among-get (up_to n) (k - 1) k there))

pub unknown_up_to : (n k : ℕ) → (k ≡ 0) ⊎ (n < k) → contains nat_cmp k (up_to n) ≡ false
unknown_up_to n k h = false_from_ne_true (contains nat_cmp k (up_to n)) (λ e. out h
    (all_among (λ j. (1 ≤ j) × (j < 1 + n)) k (up_to n) (range_bounds 1 n)
    (known_is_among nat_keys k (up_to n) (ltb-true 0 (times nat_cmp k (up_to n)) e))))
  where
    out : (k ≡ 0) ⊎ (n < k) → (1 ≤ k) × (k < 1 + n) → ⊥
    out (inl z) b = let low = b.0 in omega (arith, z, low)
    out (inr g) b = let high = b.1 in omega (arith, g, high)
