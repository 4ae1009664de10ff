-- Bytes that are tested in vector lanes.
use Rattle.tl_load.proofs.Common.{Bool, Each1, Each1-get_or, List, [], arith, cases_lt, chunk, cond, cond_both, false, get_or, get_or-chunk, get_or-map, get_or_default, is_allowed, le-leb, length, length-chunk, length-map, lt-ltb, ltb, ltb-false, ltb-true, map, mask_l, refl, rules, subst, tops_compared, true, w8, zip2, ℕ, ◌%◌, ◌*◌, ◌+◌, ◌-◌, ◌<◌, ◌^◌, ◌||◌, ◌∙◌, ◌∷◌, ◌≡◌, ◌≤◌}
use Rattle.tl_layout.specs.Bytes.{AreAllowed}
use lib.Lanes.{sel_l, top}

or_true : (x : Bool) → (x || true) ≡ true
or_true true = refl
or_true false = refl

-- printable ASCII is allowed
allowed_ascii : (b : ℕ) → 32 ≤ b → b < 127 → is_allowed b ≡ true
allowed_ascii b from below = search (rules, le-leb, lt-ltb)

-- a byte minus 0x7F that is at least 0xA1 is printable ASCII
allowed_from_delete : (b : ℕ) → b < 256 → 161 ≤ (b + (256 - 127)) % 256 → is_allowed b ≡ true
allowed_from_delete b byte from = allowed_ascii b (omega arith) (omega arith)

-- a byte is allowed if twice its successor is at least 0x42
allowed_past_controls : (b : ℕ) → b < 256 → 66 ≤ ((b + 1) % 256 + (b + 1) % 256) % 256 → is_allowed b ≡ true
allowed_past_controls b byte from = search (rules, cases_lt, allowed_ascii, le-leb, lt-ltb, or_true)

-- a block of n bytes is allowed if each lane computed from a byte is at least low, provided that such bytes are allowed
block_at : (n low : ℕ) (lane : ℕ → ℕ) → ((b : ℕ) → b < 256 → low ≤ lane b → is_allowed b ≡ true) → (bytes : List ℕ) (at : ℕ)
    → at + n ≤ length bytes → Each1 (λ x. low ≤ x) (map lane (chunk at n bytes))
    → (k : ℕ) → at ≤ k → k < at + n → get_or bytes k 0 < 256 → is_allowed (get_or bytes k 0) ≡ true
block_at n low lane allowed bytes at within each k from below byte =
    let block = chunk at n bytes in
    let long : length block ≡ n = length-chunk at n bytes within in
    let here : at + (k - at) ≡ k = omega arith in
    let mapped : length (map lane block) ≡ n = length-map block lane ∙ long in
    let at_lane : get_or (map lane block) (k - at) 0 ≡ lane (get_or bytes k 0) = search (rules, get_or-map, get_or-chunk) in
    allowed (get_or bytes k 0) byte
    (subst (λ x. low ≤ x) at_lane (Each1-get_or (λ x. low ≤ x) (map lane block) (k - at) 0 (omega arith) each))

pub ascii_at : (bytes : List ℕ) (at : ℕ) → at + 16 ≤ length bytes
    → Each1 (λ x. 161 ≤ x) (map (λ b. (b + (256 - 127)) % 256) (chunk at 16 bytes))
    → (k : ℕ) → at ≤ k → k < at + 16 → get_or bytes k 0 < 256 → is_allowed (get_or bytes k 0) ≡ true
ascii_at = block_at 16 161 (λ b. (b + (256 - 127)) % 256) allowed_from_delete

pub clean_at : (bytes : List ℕ) (at : ℕ) → at + 32 ≤ length bytes
    → Each1 (λ x. 66 ≤ x) (map (λ b. ((b + 1) % 256 + (b + 1) % 256) % 256) (chunk at 32 bytes))
    → (k : ℕ) → at ≤ k → k < at + 32 → get_or bytes k 0 < 256 → is_allowed (get_or bytes k 0) ≡ true
clean_at = block_at 32 66 (λ b. ((b + 1) % 256 + (b + 1) % 256) % 256) allowed_past_controls

-- the minimum of two lanes is at most either
least_at_most : (a b : ℕ) → (cond (ltb a b) a b ≤ a) × (cond (ltb a b) a b ≤ b)
least_at_most a b = search (rules, cond_both, ltb-false, ltb-true)

-- if each lane's minimum is at least n, so are both lanes
each_of_least : (n : ℕ) (xs ys : List ℕ) → length xs ≡ length ys → Each1 (λ x. n ≤ x) (sel_l (zip2 ltb xs ys) xs ys)
    → Each1 (λ x. n ≤ x) xs × Each1 (λ x. n ≤ x) ys
each_of_least n [] [] long each = (tt, tt)
each_of_least n [] (y ∷ ys) long each = absurd (omega arith)
each_of_least n (x ∷ xs) [] long each = absurd (omega arith)
each_of_least n (x ∷ xs) (y ∷ ys) long each = search (rules, least_at_most, each_of_least n xs ys (omega arith) each.1)

-- the same for minima selected by the top bits of a comparison
pub each_of_selected : (n : ℕ) (xs ys : List ℕ) → length xs ≡ length ys
    → Each1 (λ x. n ≤ x) (sel_l (map (top 7) (zip2 (λ a b. cond (ltb a b) (2 ^ 8 - 1) 0) xs ys)) xs ys)
    → Each1 (λ x. n ≤ x) xs × Each1 (λ x. n ≤ x) ys
each_of_selected n xs ys long each = each_of_least n xs ys long
    (subst (λ ms. Each1 (λ x. n ≤ x) (sel_l ms xs ys)) (tops_compared w8 ltb xs ys) each)

-- if no lane is below the bound, each is at least the bound
pub each_of_empty_mask : (n : ℕ) (xs : List ℕ) → mask_l (map (λ x. ltb x n) xs) ≡ 0 → Each1 (λ x. n ≤ x) xs
each_of_empty_mask n [] none = tt
each_of_empty_mask n (x ∷ xs) none = go (ltb x n) refl none (each_of_empty_mask n xs)
  where
    go : (b : Bool) → ltb x n ≡ b → cond b 1 0 + 2 * mask_l (map (λ x. ltb x n) xs) ≡ 0
        → (mask_l (map (λ x. ltb x n) xs) ≡ 0 → Each1 (λ x. n ≤ x) xs) → Each1 (λ x. n ≤ x) (x ∷ xs)
    go true e none rest = absurd (omega arith)
    go false e none rest = (ltb-false x n e, rest (omega arith))

-- bytes are allowed if the byte at each position is
pub allowed_at_each : (bytes : List ℕ) → ((k : ℕ) → k < length bytes → is_allowed (get_or bytes k 0) ≡ true) → AreAllowed bytes
unfolding AreAllowed
allowed_at_each bytes h k d lt = subst (λ (b : ℕ). is_allowed b ≡ true) (get_or_default bytes k 0 d lt) (h k lt)
