-- What the masks of eight bytes say: which bytes are blanks, which are zeros, and which are digits.
use Rattle.canonical_lines.proofs.Common.{Bool, IsNumeral, IsNumeralOrNone, List, [], and_block, and_parts, and_self, ap, arith, bit_and, cond, digit_from, drop_blanks, eqb, eqb-false, eqb-true, false, full_mask, get_or, inl, inr, is_blank, is_digit, length, length-map, length-zip2, list_all, lit<, ltb, map, map-map, mask_l-lt, pow-succ', refl, replicate, suc, sym, true, zip2_splat, ℕ, ◌%◌, ◌*◌, ◌+◌, ◌-◌, ◌<◌, ◌^◌, ◌∙◌, ◌∷◌, ◌≡◌, ◌≤◌}
use Rattle.canonical_lines.proofs.NumberTexts.{digit_bounds}
use Rattle.canonical_lines.proofs.PointTexts.{all_at}
use lib.Lanes.{mask_l, zip2}

-- the test for digits: how far the byte is above the byte of 0
abbrev pub is_low : ℕ → Bool
is_low b = ltb ((b + (256 - 48)) % 256) 10

-- the test for zeros
abbrev pub is_zero : ℕ → Bool
is_zero b = eqb b 48

-- the mask of the blanks
abbrev pub blanks_of : List ℕ → ℕ
blanks_of bytes = mask_l (map is_blank bytes)

-- the mask of the zeros
abbrev pub zeros_of : List ℕ → ℕ
zeros_of bytes = mask_l (map is_zero bytes)

-- the mask of the digits
abbrev pub digits_of : List ℕ → ℕ
digits_of bytes = mask_l (map is_low bytes)

-- two masks by their lowest bits and the rest
by_bits : (a b r s : ℕ) → r < 2 → s < 2 → bit_and (r + 2 * a) (s + 2 * b) ≡ bit_and a b * 2 + bit_and r s
by_bits a b r s lr ls =
    let first : r + 2 * a ≡ a * 2 ^ 1 + r = omega arith in
    let second : s + 2 * b ≡ b * 2 ^ 1 + s = omega arith in
    ap (λ (n : ℕ). bit_and n (s + 2 * b)) first ∙ ap (bit_and (a * 2 ^ 1 + r)) second ∙ and_block 1 a b r s lr ls

-- bytes that are all digits, the first of them not a zero
numeral : (x : ℕ) (xs : List ℕ) → ((k : ℕ) → k < length (x ∷ xs) → get_or (x ∷ xs) k 0 < 256)
    → digits_of (x ∷ xs) + 1 ≡ 2 ^ length (x ∷ xs) → is_zero x ≡ false → IsNumeral (x ∷ xs)
numeral x xs bytes full nonzero =
    let each : (k : ℕ) → k < length (x ∷ xs) → is_digit (get_or (x ∷ xs) k 0) ≡ true = λ k lt.
    digit_from (get_or (x ∷ xs) k 0) (bytes k lt) (full_mask is_low (x ∷ xs) k 0 full lt) in
    let all = and_parts (is_digit x) (list_all is_digit xs) (all_at (x ∷ xs) each) in
    let bounds = digit_bounds x all.0 in
    let other = eqb-false x 48 nonzero in
    record { first = x; digits = xs; bytes_are = refl; first_is = (above x bounds.0 other, bounds.1); digits_are = all.1 }
  where
    above : (x : ℕ) → 48 ≤ x → (x ≡ 48 → ⊥) → 48 < x
    above x le other = omega arith

-- blanks come first, then digits, the first of them not a zero
pub right_justified : (bytes : List ℕ) → ((k : ℕ) → k < length bytes → get_or bytes k 0 < 256)
    → blanks_of bytes + digits_of bytes + 1 ≡ 2 ^ length bytes → bit_and (blanks_of bytes) (blanks_of bytes + 1) ≡ 0
    → bit_and (zeros_of bytes) (blanks_of bytes + 1) ≡ 0 → IsNumeralOrNone (drop_blanks bytes)
right_justified [] fits all first nonzero = inl refl
right_justified (x ∷ xs) fits all first nonzero =
    go (is_blank x) refl (is_zero x) refl
    (λ a b c. right_justified xs (λ k lt. fits (suc k) (omega arith)) a b c)
  where
    low_blank : is_blank x ≡ true → is_low x ≡ false
    low_blank b = ap is_low (eqb-true x 32 b)

    zero_blank : is_blank x ≡ true → is_zero x ≡ false
    zero_blank b = ap is_zero (eqb-true x 32 b)

    not_zero : (z : Bool) → is_zero x ≡ z → blanks_of (x ∷ xs) + 1 ≡ 1 + 2 * 0 → is_zero x ≡ false
    not_zero false zz one = zz
    not_zero true zz one =
        let zeros : zeros_of (x ∷ xs) ≡ 1 + 2 * zeros_of xs = ap (λ (t : Bool). cond {A = ℕ} t 1 0 + 2 * zeros_of xs) zz in
        let bad = sym (by_bits (zeros_of xs) 0 1 1 (lit< tt) (lit< tt)) ∙ ap (λ (n : ℕ). bit_and n (1 + 2 * 0)) (sym zeros)
        ∙ ap (bit_and (zeros_of (x ∷ xs))) (sym one) ∙ nonzero in
        absurd (omega (arith, bad))

    go : (b : Bool) → is_blank x ≡ b → (z : Bool) → is_zero x ≡ z
        → (blanks_of xs + digits_of xs + 1 ≡ 2 ^ length xs → bit_and (blanks_of xs) (blanks_of xs + 1) ≡ 0
        → bit_and (zeros_of xs) (blanks_of xs + 1) ≡ 0 → IsNumeralOrNone (drop_blanks xs))
        → IsNumeralOrNone (drop_blanks (x ∷ xs))
    go true b z zz more =
        let low = low_blank b in
        let zero = zero_blank b in
        let blanks : blanks_of (x ∷ xs) ≡ 1 + 2 * blanks_of xs = ap (λ (t : Bool). cond {A = ℕ} t 1 0 + 2 * blanks_of xs) b in
        let zeros : zeros_of (x ∷ xs) ≡ 0 + 2 * zeros_of xs = ap (λ (t : Bool). cond {A = ℕ} t 1 0 + 2 * zeros_of xs) zero in
        let digits : digits_of (x ∷ xs) ≡ 0 + 2 * digits_of xs = ap (λ (t : Bool). cond {A = ℕ} t 1 0 + 2 * digits_of xs) low in
        let twice = pow-succ' 2 (length xs) in
        let next : blanks_of (x ∷ xs) + 1 ≡ 0 + 2 * (blanks_of xs + 1) = omega (arith, blanks) in
        let in_front = sym (by_bits (blanks_of xs) (blanks_of xs + 1) 1 0 (lit< tt) (lit< tt))
        ∙ ap (λ (n : ℕ). bit_and n (0 + 2 * (blanks_of xs + 1))) (sym blanks) ∙ ap (bit_and (blanks_of (x ∷ xs))) (sym next) ∙ first in
        let no_zero = sym (by_bits (zeros_of xs) (blanks_of xs + 1) 0 0 (lit< tt) (lit< tt))
        ∙ ap (λ (n : ℕ). bit_and n (0 + 2 * (blanks_of xs + 1))) (sym zeros) ∙ ap (bit_and (zeros_of (x ∷ xs))) (sym next) ∙ nonzero in
        let rest = more (omega (arith, all, blanks, digits, twice)) (omega (arith, in_front)) (omega (arith, no_zero)) in
        rw b rest
    go false b z zz more =
        let blanks : blanks_of (x ∷ xs) ≡ 0 + 2 * blanks_of xs = ap (λ (t : Bool). cond {A = ℕ} t 1 0 + 2 * blanks_of xs) b in
        let next : blanks_of (x ∷ xs) + 1 ≡ 1 + 2 * blanks_of xs = omega (arith, blanks) in
        let in_front = sym (by_bits (blanks_of xs) (blanks_of xs) 0 1 (lit< tt) (lit< tt))
        ∙ ap (λ (n : ℕ). bit_and n (1 + 2 * blanks_of xs)) (sym blanks) ∙ ap (bit_and (blanks_of (x ∷ xs))) (sym next) ∙ first in
        let none : blanks_of xs ≡ 0 = omega (arith, in_front, and_self (blanks_of xs)) in
        let one : blanks_of (x ∷ xs) + 1 ≡ 1 + 2 * 0 = omega (arith, blanks, none) in
        let full : digits_of (x ∷ xs) + 1 ≡ 2 ^ length (x ∷ xs) = omega (arith, all, blanks, none) in
        rw b (inr (numeral x xs fits full (not_zero z zz one)))

-- the masks of eight bytes fit eight bits
pub masks_low : (p : ℕ → Bool) (bytes : List ℕ) → length bytes ≡ 8 → mask_l (map p bytes) < 256
masks_low p bytes l = rw (length-map bytes p, l) at (mask_l-lt (map p bytes))

-- how far eight bytes are above the byte of 0
abbrev pub above_zero : List ℕ → List ℕ
above_zero bytes = zip2 (λ a b. (a + (256 - b)) % 256) bytes (replicate 8 48)

-- there are eight of these
pub above_zero_len : (bytes : List ℕ) → length bytes ≡ 8 → length (above_zero bytes) ≡ 8
above_zero_len bytes l = length-zip2 (λ a b. (a + (256 - b)) % 256) bytes (replicate 8 48) l ∙ l

-- their mask is that of the digits
pub above_zero_mask : (bytes : List ℕ) → length bytes ≡ 8 → mask_l (map (λ b. ltb b 10) (above_zero bytes)) ≡ digits_of bytes
above_zero_mask bytes l =
    let from_zero = λ (b : ℕ). (b + (256 - 48)) % 256 in
    ap mask_l (ap (map (λ b. ltb b 10)) (zip2_splat (λ a b. (a + (256 - b)) % 256) bytes 8 48 l)
    ∙ map-map (λ b. ltb b 10) from_zero bytes)

-- equal masks have equal bits in common
pub in_common : (first second other_first other_second : ℕ) → other_first ≡ first → other_second ≡ second
    → bit_and other_first (other_second + 1) ≡ 0 → bit_and first (second + 1) ≡ 0
in_common first second other_first other_second e f h = rw (← e, ← f) h
