-- Eight digits in the bytes of a word, and their number.
use Rattle.tl_layout.proofs.Common.{Bool, List, Some, [], and_block, and_from, and_mask, and_parts, and_self, ap, arith, bit_and, cond, drop, drop_all, drop_blanks, drop_more, false, get_or, le-leb, leb, leb-true, length, lit<, lt-ltb, ltb, ltb-true, map, pow-succ', refl, replicate, suc, true, zero, ℕ, ◌%◌, ◌*◌, ◌+◌, ◌-◌, ◌/◌, ◌<◌, ◌^◌, ◌∙◌, ◌∷◌, ◌≡◌, ◌≤◌}
use Rattle.tl_layout.specs.NumberField.{is_blank, is_digit}
use Rattle.tl_layout.specs.NumberReading.{number_after}
use lib.Lanes.{mask_l, sel_l}

-- masking a word with two bytes before it keeps the first of the two
first_of_two : (x y a b : ℕ) → a < 256 → b < 256 → bit_and (x * 65536 + (b * 256 + a)) (y * 65536 + 255) ≡ bit_and x y * 65536 + a
first_of_two x y a b la lb =
    let low : bit_and (b * 256 + a) 255 ≡ a = and_mask (b * 256 + a) 8 ∙ omega arith in
    and_block 16 x y (b * 256 + a) 255 (omega arith) (lit< tt) ∙ ap (λ (n : ℕ). bit_and x y * 65536 + n) low

-- masking the bytes of a word keeps those at even positions
pub pairs_kept : (a b c d e f g h : ℕ) → a < 256 → b < 256 → c < 256 → d < 256 → e < 256 → f < 256 → g < 256 → h < 256
    → bit_and (((((h * 256 + g) * 65536 + (f * 256 + e)) * 65536 + (d * 256 + c)) * 65536) + (b * 256 + a)) 71777214294589695
    ≡ ((g * 65536 + e) * 65536 + c) * 65536 + a
pairs_kept a b c d e f g h la lb lc ld le lf lg lh =
    let last : bit_and (h * 256 + g) 255 ≡ g = and_mask (h * 256 + g) 8 ∙ omega arith in
    let third = first_of_two (h * 256 + g) 255 e f le lf ∙ ap (λ (n : ℕ). n * 65536 + e) last in
    let second = first_of_two ((h * 256 + g) * 65536 + (f * 256 + e)) 16711935 c d lc ld ∙ ap (λ (n : ℕ). n * 65536 + c) third in
    first_of_two (((h * 256 + g) * 65536 + (f * 256 + e)) * 65536 + (d * 256 + c)) 1095233372415 a b la lb
    ∙ ap (λ (n : ℕ). n * 65536 + a) second

-- masking four numbers in a word keeps those at even positions
pub fours_kept : (a b c d : ℕ) → a < 65536 → b < 65536 → c < 65536 → d < 65536
    → bit_and ((d * 65536 + c) * 4294967296 + (b * 65536 + a)) 281470681808895 ≡ c * 4294967296 + a
fours_kept a b c d la lb lc ld =
    let low : bit_and (b * 65536 + a) 65535 ≡ a = and_mask (b * 65536 + a) 16 ∙ omega arith in
    let high : bit_and (d * 65536 + c) 65535 ≡ c = and_mask (d * 65536 + c) 16 ∙ omega arith in
    and_block 32 (d * 65536 + c) 65535 (b * 65536 + a) 65535 (omega arith) (lit< tt) ∙ ap (λ (n : ℕ). n * 4294967296 + bit_and
    (b * 65536 + a) 65535) high
    ∙ ap (λ (n : ℕ). c * 4294967296 + n) low

one_lane : (p : ℕ → Bool) (x : ℕ) (xs : List ℕ) (i d : ℕ) (b : Bool) → p x ≡ b → cond {A = ℕ} b 1 0 + 2 * mask_l (map p xs) + 1
    ≡ 2 * 2 ^ length xs
    → i < length (x ∷ xs) → ((j : ℕ) → mask_l (map p xs) + 1 ≡ 2 ^ length xs → j < length xs → p (get_or xs j d) ≡ true)
    → p (get_or (x ∷ xs) i d) ≡ true
one_lane p x xs zero d true t e lt more = t
one_lane p x xs (suc i) d true t e lt more = more i (omega arith) (omega arith)
one_lane p x xs i d false t e lt more = absurd (omega arith)

-- if the mask of a test has a bit for each lane, each lane passes
pub full_mask : (p : ℕ → Bool) (xs : List ℕ) (i d : ℕ) → mask_l (map p xs) + 1 ≡ 2 ^ length xs → i < length xs → p (get_or xs i d) ≡ true
full_mask p [] i d e lt = absurd (omega arith)
full_mask p (x ∷ xs) i d e lt =
    one_lane p x xs i d (p x) refl (e ∙ pow-succ' 2 (length xs)) lt (λ j h k. full_mask p xs j d h k)

-- if each lane passes a test, its mask has a bit for each lane
pub mask_full : (p : ℕ → Bool) (xs : List ℕ) → ((k : ℕ) → k < length xs → p (get_or xs k 0) ≡ true) → mask_l (map p xs) + 1 ≡ 2 ^ length xs
mask_full p [] each = refl
mask_full p (x ∷ xs) each =
    let rest = mask_full p xs (λ k lt. each (suc k) (omega (arith, lt))) in
    let double = pow-succ' 2 (length xs) in
    rw (each 0 (omega arith)) (omega (arith, rest, double))

-- a digit is less than ten above the byte of 0
pub digit_is_low : (b : ℕ) → is_digit b ≡ true → ltb ((b + (256 - 48)) % 256) 10 ≡ true
digit_is_low b h =
    let bounds = and_parts (leb 48 b) (leb b 57) h in
    let low = leb-true 48 b bounds.0 in
    let high = leb-true b 57 bounds.1 in
    lt-ltb ((b + (256 - 48)) % 256) 10 (omega (arith, low, high))

-- a byte is a digit if it is less than ten above the byte of 0
pub digit_from : (b : ℕ) → b < 256 → ltb ((b + (256 - 48)) % 256) 10 ≡ true → is_digit b ≡ true
digit_from b byte t =
    let lt = ltb-true ((b + (256 - 48)) % 256) 10 t in
    and_from _ _ (le-leb 48 b (omega arith)) (le-leb b 57 (omega arith))

-- the byte is the character of this digit
pub record IsDigitOf (b digit : ℕ) : Type 0 where
  pub is : b ≡ 48 + digit
  pub below : digit < 10
  pub passes : is_digit b ≡ true

pub digit_of : (b : ℕ) → is_digit b ≡ true → IsDigitOf b (b - 48)
digit_of b h =
    let p = and_parts (leb 48 b) (leb b 57) h in
    let low : 48 ≤ b = leb-true 48 b p.0 in
    let high : b ≤ 57 = leb-true b 57 p.1 in
    record { is = omega arith; below = omega arith; passes = h }

-- the number of four pairs of digits in a word
four_in_word : (a b c d : ℕ) → a < 100 → b < 100 → c < 100 → d < 100 → (pairs fours : ℕ)
    → pairs ≡ ((d * 65536 + c) * 65536 + b) * 65536 + a
    → fours ≡ bit_and (100 * pairs + pairs / 65536) 281470681808895
    → bit_and (10000 * fours + fours / 4294967296) 4294967295 ≡ 100 * (100 * (100 * a + b) + c) + d
four_in_word a b c d la lb lc ld pairs fours p q =
    let shifted : pairs / 65536 ≡ (d * 65536 + c) * 65536 + b = omega arith in
    let joined : 100 * pairs + pairs / 65536
    ≡ ((100 * d) * 65536 + (100 * c + d)) * 4294967296 + ((100 * b + c) * 65536 + (100 * a + b)) = omega arith in
    let two : fours ≡ (100 * c + d) * 4294967296 + (100 * a + b) = q ∙ ap (λ (n : ℕ). bit_and n 281470681808895) joined
    ∙ fours_kept (100 * a + b) (100 * b + c) (100 * c + d) (100 * d) (omega arith) (omega arith) (omega arith) (omega arith) in
    and_mask (10000 * fours + fours / 4294967296) 32 ∙ omega arith

-- eight numbers in the bytes of a word, the first in its lowest byte
abbrev pub word_of : (ℕ → ℕ) → ℕ
word_of d = ((((((d 7 * 256 + d 6) * 256 + d 5) * 256 + d 4) * 256 + d 3) * 256 + d 2) * 256 + d 1) * 256 + d 0

-- the number with these eight digits
abbrev pub number_with : (ℕ → ℕ) → ℕ
number_with d = 10 * (10 * (10 * (10 * (10 * (10 * (10 * d 0 + d 1) + d 2) + d 3) + d 4) + d 5) + d 6) + d 7

-- one more digit was read
number_step : (n i next digit more : ℕ) (bytes : List ℕ) → i < length bytes → next ≡ i + 1 → IsDigitOf (get_or bytes i 0) digit
    → more ≡ 10 * n + digit → number_after n (drop i bytes) ≡ number_after more (drop next bytes)
unfolding number_after
number_step n i next digit more bytes lt e h m =
    let same : 10 * n + (get_or bytes i 0 - 48) ≡ more = (let is = h.is in omega arith) in
    rw (drop_more bytes i 0 lt, h.passes, e, same) refl

module _ (d : ℕ → ℕ) (below : (k : ℕ) → k < 8 → d k < 10) where
  pub eight_digits_below : number_with d < 100000000
  eight_digits_below = omega arith

  -- the bytes of eight digits in a word, minus the byte of 0 in each
  pub digits_in_word : (w : ℕ) → w ≡ word_of (λ k. 48 + d k) → (w - 3472328296227680304 ≡ word_of d)
      × (3472328296227680304 ≤ w) × (11 * (w - 3472328296227680304) < 2 ^ 64)
  digits_in_word w is =
      let all : w ≡ 3472328296227680304 + word_of d = omega arith in
      (omega arith, omega arith, omega arith)

  -- the number that the eight digits in a word make
  pub eight_in_word : (ones pairs fours : ℕ) → ones ≡ word_of d → pairs ≡ bit_and (10 * ones + ones / 256) 71777214294589695
      → fours ≡ bit_and (100 * pairs + pairs / 65536) 281470681808895
      → bit_and (10000 * fours + fours / 4294967296) 4294967295 ≡ number_with d
  eight_in_word ones pairs fours o p q =
      let shifted : ones / 256 ≡ (((((d 7 * 256 + d 6) * 256 + d 5) * 256 + d 4) * 256 + d 3) * 256 + d 2) * 256 + d 1 = omega arith in
      let joined : 10 * ones + ones / 256
      ≡ (((((10 * d 7) * 256 + (10 * d 6 + d 7)) * 65536 + ((10 * d 5 + d 6) * 256 + (10 * d 4 + d 5))) * 65536
      + ((10 * d 3 + d 4) * 256 + (10 * d 2 + d 3))) * 65536) + ((10 * d 1 + d 2) * 256 + (10 * d 0 + d 1)) = omega arith in
      let two : pairs ≡ (((10 * d 6 + d 7) * 65536 + (10 * d 4 + d 5)) * 65536 + (10 * d 2 + d 3)) * 65536 + (10 * d 0 + d 1) = p
      ∙ ap (λ (n : ℕ). bit_and n 71777214294589695) joined
      ∙ pairs_kept (10 * d 0 + d 1) (10 * d 1 + d 2) (10 * d 2 + d 3) (10 * d 3 + d 4) (10 * d 4 + d 5) (10 * d 5 + d 6) (10 * d 6 + d 7)
      (10 * d 7) (omega arith) (omega arith) (omega arith) (omega arith) (omega arith) (omega arith) (omega arith) (omega arith) in
      four_in_word (10 * d 0 + d 1) (10 * d 2 + d 3) (10 * d 4 + d 5) (10 * d 6 + d 7) (omega arith) (omega arith) (omega arith)
      (omega arith) pairs fours two q
      ∙ omega arith

-- the number that eight digits make after others, if nothing follows them
pub number_of_eight : (before : ℕ) (bytes : List ℕ) (d : ℕ → ℕ) → length bytes ≡ 8
    → ((k : ℕ) → k < 8 → IsDigitOf (get_or bytes k 0) (d k)) → (number : ℕ) → number ≡ before * 100000000 + number_with d
    → number_after before bytes ≡ Some number
unfolding number_after
number_of_eight before bytes d l digit number is =
    let step = λ (n i more : ℕ) (lt : i < 8) (m : more ≡ 10 * n + d i). number_step n i (i + 1) (d i) more bytes (omega arith) refl
    (digit i lt) m in
    step before 0 _ (omega arith) refl ∙ step _ 1 _ (omega arith) refl ∙ step _ 2 _ (omega arith) refl ∙ step _ 3 _ (omega arith) refl
    ∙ step _ 4 _ (omega arith) refl ∙ step _ 5 _ (omega arith) refl ∙ step _ 6 _ (omega arith) refl
    ∙ step _ 7 number (omega arith) (omega arith) ∙ ap (number_after _) (drop_all 8 bytes (omega arith))

-- the byte of 0 instead of a blank
abbrev pub filled : ℕ → ℕ
filled b = cond (is_blank b) 48 b

no_blank_here : (x : ℕ) (xs : List ℕ) (b : Bool) → is_blank x ≡ b → cond {A = ℕ} b 1 0 + 2 * mask_l (map is_blank xs) ≡ 0
    → (mask_l (map is_blank xs) ≡ 0 → map filled xs ≡ xs) → map filled (x ∷ xs) ≡ x ∷ xs
no_blank_here x xs true e h more = absurd (omega arith)
no_blank_here x xs false e h more = rw e (ap (λ (l : List ℕ). x ∷ l) (more (omega arith)))

no_blanks : (xs : List ℕ) → mask_l (map is_blank xs) ≡ 0 → map filled xs ≡ xs
no_blanks [] h = refl
no_blanks (x ∷ xs) h = no_blank_here x xs (is_blank x) refl h (λ e. no_blanks xs e)

-- a number whose lowest bit is set has no bit in common with the next number, if this holds for the other bits
odd_with_next : (m : ℕ) → bit_and (1 + 2 * m) (1 + 2 * m + 1) ≡ 2 * bit_and m (m + 1)
odd_with_next m =
    let a : 1 + 2 * m ≡ m * 2 + 1 = omega arith in
    let b : 1 + 2 * m + 1 ≡ (m + 1) * 2 + 0 = omega arith in
    rw (b, a) (let block = and_block 1 m (m + 1) 1 0 (lit< tt) (lit< tt) in omega arith)

even_with_next : (m : ℕ) → bit_and (0 + 2 * m) (0 + 2 * m + 1) ≡ 2 * bit_and m m
even_with_next m =
    let a : 0 + 2 * m ≡ m * 2 + 0 = omega arith in
    let b : 0 + 2 * m + 1 ≡ m * 2 + 1 = omega arith in
    rw (b, a) (let block = and_block 1 m m 0 1 (lit< tt) (lit< tt) in omega arith)

abbrev GivesNumber : List ℕ → Type 0
GivesNumber xs = bit_and (mask_l (map is_blank xs)) (mask_l (map is_blank xs) + 1) ≡ 0
    → number_after 0 (map filled xs) ≡ number_after 0 (drop_blanks xs)

blank_or_not : (x : ℕ) (xs : List ℕ) (b : Bool) → is_blank x ≡ b
    → bit_and (cond {A = ℕ} b 1 0 + 2 * mask_l (map is_blank xs)) (cond {A = ℕ} b 1 0 + 2 * mask_l (map is_blank xs) + 1) ≡ 0
    → GivesNumber xs
    → number_after 0 (map filled (x ∷ xs)) ≡ number_after 0 (drop_blanks (x ∷ xs))
unfolding number_after
blank_or_not x xs true e h more =
    let rest : bit_and (mask_l (map is_blank xs)) (mask_l (map is_blank xs) + 1) ≡ 0 = (let two = odd_with_next (mask_l
    (map is_blank xs)) in omega arith) in
    rw e (more rest)
blank_or_not x xs false e h more =
    let none : mask_l (map is_blank xs) ≡ 0 = (let two = even_with_next (mask_l (map is_blank xs)) in
    let same = and_self (mask_l (map is_blank xs)) in omega arith) in
    rw (e, no_blanks xs none) refl

-- If no bit of the blanks' mask is set in the next number, there are only leading blanks. The field's number is then the one
-- with zeros instead of the blanks.
pub gives_number : (xs : List ℕ) → GivesNumber xs
gives_number [] h = refl
gives_number (x ∷ xs) h = blank_or_not x xs (is_blank x) refl h (gives_number xs)

-- the lanes that pass a test were set to one value
pub selected : (p : ℕ → Bool) (n value : ℕ) (xs : List ℕ) → length xs ≡ n → sel_l (map p xs) (replicate n value) xs ≡ map (λ b. cond
    (p b) value b) xs
selected p zero value [] l = refl
selected p (suc n) value [] l = absurd (omega arith)
selected p zero value (x ∷ xs) l = absurd (omega arith)
selected p (suc n) value (x ∷ xs) l = ap (λ (ys : List ℕ). cond (p x) value x ∷ ys) (selected p n value xs (omega arith))
