-- The digits of a number in the bytes of a word.
use Rattle.tl_layout.proofs.Common.{[], and_block, and_mask, ap, arith, bit_and, get_or, le_bytes_8, lit<, refl, suc, to_le_bytes, w64, zero, ℕ, ◌%◌, ◌*◌, ◌+◌, ◌-◌, ◌/◌, ◌<◌, ◌^◌, ◌∙◌, ◌∷◌, ◌≡◌, ◌≤◌}

-- the lowest seven bits of each of two numbers in a word, nineteen bits up
two_low_bits : (a b : ℕ) → a < 67108864 → b < 67108864 → bit_and ((b * 4294967296 + a) / 524288) 545460846719
    ≡ b / 524288 % 128 * 4294967296 + a / 524288 % 128
two_low_bits a b la lb =
    let parted : (b * 4294967296 + a) / 524288 ≡ b / 524288 * 4294967296 + (b % 524288 * 8192 + a / 524288) = omega arith in
    let high : bit_and (b / 524288) 127 ≡ b / 524288 % 128 = and_mask (b / 524288) 7 in
    let low : bit_and (b % 524288 * 8192 + a / 524288) 127 ≡ a / 524288 % 128 = and_mask (b % 524288 * 8192 + a / 524288) 7 ∙ omega arith in
    ap (λ (n : ℕ). bit_and n 545460846719) parted
    ∙ and_block 32 (b / 524288) 127 (b % 524288 * 8192 + a / 524288) 127 (omega arith) (lit< tt)
    ∙ (λ i. high i * 4294967296 + low i)

-- a hundredth of each of two numbers in a word
pub hundreds_in_word : (high low halves : ℕ) → high < 10000 → low < 10000 → halves ≡ low * 4294967296 + high
    → bit_and (5243 * halves / 524288) 545460846719 ≡ low / 100 * 4294967296 + high / 100
hundreds_in_word high low halves lh ll is =
    let side_by_side : 5243 * halves ≡ 5243 * low * 4294967296 + 5243 * high = omega arith in
    let a : 5243 * high / 524288 % 128 ≡ high / 100 = omega arith in
    let b : 5243 * low / 524288 % 128 ≡ low / 100 = omega arith in
    ap (λ (n : ℕ). bit_and (n / 524288) 545460846719) side_by_side
    ∙ two_low_bits (5243 * high) (5243 * low) (omega arith) (omega arith) ∙ (λ i. b i * 4294967296 + a i)

-- the lowest four bits of each of four numbers in a word
four_low_bits : (a b c d : ℕ) → a < 65536 → b < 65536 → c < 65536
    → bit_and (((d * 65536 + c) * 65536 + b) * 65536 + a) 4222189076152335
    ≡ ((d % 16 * 65536 + c % 16) * 65536 + b % 16) * 65536 + a % 16
four_low_bits a b c d la lb lc =
    let first : bit_and d 15 ≡ d % 16 = and_mask d 4 in
    let second : bit_and c 15 ≡ c % 16 = and_mask c 4 in
    let third : bit_and b 15 ≡ b % 16 = and_mask b 4 in
    let fourth : bit_and a 15 ≡ a % 16 = and_mask a 4 in
    let two : bit_and (d * 65536 + c) 983055 ≡ d % 16 * 65536 + c % 16 = and_block 16 d 15 c 15 (omega arith) (lit< tt)
    ∙ (λ i. first i * 65536 + second i) in
    let three : bit_and ((d * 65536 + c) * 65536 + b) 64425492495 ≡ (d % 16 * 65536 + c % 16) * 65536 + b % 16 =
    and_block 16 (d * 65536 + c) 983055 b 15 (omega arith) (lit< tt) ∙ (λ i. two i * 65536 + third i) in
    and_block 16 ((d * 65536 + c) * 65536 + b) 64425492495 a 15 (omega arith) (lit< tt) ∙ (λ i. three i * 65536 + fourth i)

-- a tenth of each of four numbers in a word
pub tens_in_word : (a b c d pairs : ℕ) → a < 100 → b < 100 → c < 100 → d < 100 → pairs ≡ ((d * 65536 + c) * 65536 + b) * 65536 + a
    → bit_and (103 * pairs / 1024) 4222189076152335 ≡ ((d / 10 * 65536 + c / 10) * 65536 + b / 10) * 65536 + a / 10
tens_in_word a b c d pairs la lb lc ld is =
    let parted : 103 * pairs / 1024
    ≡ ((103 * d / 1024 * 65536 + (103 * d % 1024 * 64 + 103 * c / 1024)) * 65536 + (103 * c % 1024 * 64 + 103 * b / 1024)) * 65536
    + (103 * b % 1024 * 64 + 103 * a / 1024) = omega arith in
    let first : 103 * d / 1024 % 16 ≡ d / 10 = omega arith in
    let second : (103 * d % 1024 * 64 + 103 * c / 1024) % 16 ≡ c / 10 = omega arith in
    let third : (103 * c % 1024 * 64 + 103 * b / 1024) % 16 ≡ b / 10 = omega arith in
    let fourth : (103 * b % 1024 * 64 + 103 * a / 1024) % 16 ≡ a / 10 = omega arith in
    ap (λ (n : ℕ). bit_and n 4222189076152335) parted
    ∙ four_low_bits (103 * b % 1024 * 64 + 103 * a / 1024) (103 * c % 1024 * 64 + 103 * b / 1024)
    (103 * d % 1024 * 64 + 103 * c / 1024) (103 * d / 1024) (omega arith) (omega arith) (omega arith)
    ∙ (λ i. ((first i * 65536 + second i) * 65536 + third i) * 65536 + fourth i)

-- the highest bit of a byte
top_bit : (a : ℕ) → a < 256 → bit_and a 128 ≡ a / 128 * 128
top_bit a la =
    let parted : a ≡ a / 128 * 128 + a % 128 = omega arith in
    let bit : bit_and (a / 128) 1 ≡ a / 128 = and_mask (a / 128) 1 ∙ omega arith in
    let none : bit_and (a % 128) 0 ≡ 0 = and_mask (a % 128) 0 ∙ omega arith in
    ap (λ (n : ℕ). bit_and n 128) parted ∙ and_block 7 (a / 128) 1 (a % 128) 0 (omega arith) (lit< tt)
    ∙ (λ i. bit i * 128 + none i) ∙ omega arith

-- the highest bit of the last byte, and the masked bytes before it
last_top_bit : (front mask kept a : ℕ) → a < 256 → bit_and front mask ≡ kept
    → bit_and (front * 256 + a) (mask * 256 + 128) ≡ kept * 256 + a / 128 * 128
last_top_bit front mask kept a la e =
    let last = top_bit a la in
    and_block 8 front mask a 128 (omega arith) (lit< tt) ∙ (λ i. e i * 256 + last i)

-- the highest bit of each of eight bytes in a word
pub eight_top_bits : (a b c d e f g h : ℕ) → a < 256 → b < 256 → c < 256 → d < 256 → e < 256 → f < 256 → g < 256 → h < 256
    → bit_and (((((((h * 256 + g) * 256 + f) * 256 + e) * 256 + d) * 256 + c) * 256 + b) * 256 + a) 9259542123273814144
    ≡ ((((((h / 128 * 128 * 256 + g / 128 * 128) * 256 + f / 128 * 128) * 256 + e / 128 * 128) * 256 + d / 128 * 128) * 256
    + c / 128 * 128) * 256 + b / 128 * 128) * 256 + a / 128 * 128
eight_top_bits a b c d e f g h la lb lc ld le lf lg lh =
    let two = last_top_bit h 128 _ g lg (top_bit h lh) in
    let three = last_top_bit (h * 256 + g) 32896 _ f lf two in
    let four = last_top_bit ((h * 256 + g) * 256 + f) 8421504 _ e le three in
    let five = last_top_bit (((h * 256 + g) * 256 + f) * 256 + e) 2155905152 _ d ld four in
    let six = last_top_bit ((((h * 256 + g) * 256 + f) * 256 + e) * 256 + d) 551911719040 _ c lc five in
    let seven = last_top_bit (((((h * 256 + g) * 256 + f) * 256 + e) * 256 + d) * 256 + c) 141289400074368 _ b lb six in
    last_top_bit ((((((h * 256 + g) * 256 + f) * 256 + e) * 256 + d) * 256 + c) * 256 + b) 36170086419038336 _ a la seven

eight_below : (a b c d e f g h : ℕ) → a < 256 → b < 256 → c < 256 → d < 256 → e < 256 → f < 256 → g < 256 → h < 256
    → (i : ℕ) → get_or (a ∷ b ∷ c ∷ d ∷ e ∷ f ∷ g ∷ h ∷ []) i 0 < 256
eight_below a b c d e f g h la lb lc ld le lf lg lh zero = la
eight_below a b c d e f g h la lb lc ld le lf lg lh (suc zero) = lb
eight_below a b c d e f g h la lb lc ld le lf lg lh (suc (suc zero)) = lc
eight_below a b c d e f g h la lb lc ld le lf lg lh (suc (suc (suc zero))) = ld
eight_below a b c d e f g h la lb lc ld le lf lg lh (suc (suc (suc (suc zero)))) = le
eight_below a b c d e f g h la lb lc ld le lf lg lh (suc (suc (suc (suc (suc zero))))) = lf
eight_below a b c d e f g h la lb lc ld le lf lg lh (suc (suc (suc (suc (suc (suc zero)))))) = lg
eight_below a b c d e f g h la lb lc ld le lf lg lh (suc (suc (suc (suc (suc (suc (suc zero))))))) = lh
eight_below a b c d e f g h la lb lc ld le lf lg lh (suc (suc (suc (suc (suc (suc (suc (suc i)))))))) = omega arith

-- the bytes of a word, the lowest first
bytes_of_word : (a b c d e f g h word : ℕ) → a < 256 → b < 256 → c < 256 → d < 256 → e < 256 → f < 256 → g < 256 → h < 256
    → word ≡ ((((((h * 256 + g) * 256 + f) * 256 + e) * 256 + d) * 256 + c) * 256 + b) * 256 + a
    → to_le_bytes w64 word ≡ a ∷ b ∷ c ∷ d ∷ e ∷ f ∷ g ∷ h ∷ []
bytes_of_word a b c d e f g h word la lb lc ld le lf lg lh is =
    le_bytes_8 (a ∷ b ∷ c ∷ d ∷ e ∷ f ∷ g ∷ h ∷ []) word refl (eight_below a b c d e f g h la lb lc ld le lf lg lh)
    (is ∙ omega arith)

-- the bytes of eight digits in a word
pub digits_shown : (a b c d e f g h word : ℕ) → a < 10 → b < 10 → c < 10 → d < 10 → e < 10 → f < 10 → g < 10 → h < 10
    → word ≡ ((((((h * 256 + g) * 256 + f) * 256 + e) * 256 + d) * 256 + c) * 256 + b) * 256 + a
    → to_le_bytes w64 (word + 3472328296227680304)
    ≡ (48 + a) ∷ (48 + b) ∷ (48 + c) ∷ (48 + d) ∷ (48 + e) ∷ (48 + f) ∷ (48 + g) ∷ (48 + h) ∷ []
digits_shown a b c d e f g h word la lb lc ld le lf lg lh is =
    bytes_of_word (48 + a) (48 + b) (48 + c) (48 + d) (48 + e) (48 + f) (48 + g) (48 + h) (word + 3472328296227680304)
    (omega arith) (omega arith) (omega arith) (omega arith) (omega arith) (omega arith) (omega arith) (omega arith) (omega arith)

-- for each digit in a word, the sum of the digits up to it
sums_in_word : (a b c d e f g h word : ℕ) → a < 10 → b < 10 → c < 10 → d < 10 → e < 10 → f < 10 → g < 10 → h < 10
    → word ≡ ((((((h * 256 + g) * 256 + f) * 256 + e) * 256 + d) * 256 + c) * 256 + b) * 256 + a
    → word * 72340172838076673 % 18446744073709551616
    ≡ (((((((a + b + c + d + e + f + g + h) * 256 + (a + b + c + d + e + f + g)) * 256 + (a + b + c + d + e + f)) * 256 + (a + b + c + d + e)) * 256 + (a + b + c + d)) * 256 + (a + b + c)) * 256 + (a + b)) * 256 + a
sums_in_word a b c d e f g h word la lb lc ld le lf lg lh is = omega arith

-- an eighth of the highest bits of bytes
eighth_of_bits : (a b c d e f g h : ℕ) → (((((((h * 128 * 256 + g * 128) * 256 + f * 128) * 256 + e * 128) * 256 + d * 128) * 256 + c * 128) * 256 + b * 128) * 256 + a * 128) / 8
    ≡ ((((((h * 16 * 256 + g * 16) * 256 + f * 16) * 256 + e * 16) * 256 + d * 16) * 256 + c * 16) * 256 + b * 16) * 256 + a * 16
eighth_of_bits a b c d e f g h = omega arith

-- The bytes of eight columns: a blank, or 16 more and so the digit if the sum of the digits up to the column isn't 0.
pub columns_shown : (a b c d e f g h word : ℕ) → a < 10 → b < 10 → c < 10 → d < 10 → e < 10 → f < 10 → g < 10 → h < 10
    → word ≡ ((((((h * 256 + g) * 256 + f) * 256 + e) * 256 + d) * 256 + c) * 256 + b) * 256 + a
    → to_le_bytes w64 (word + bit_and (word * 72340172838076673 % 18446744073709551616 + 9187201950435737471) 9259542123273814144 / 8
    + 2314885530818453536)
    ≡ (a + (a + 127) / 128 * 16 + 32) ∷ (b + (a + b + 127) / 128 * 16 + 32) ∷ (c + (a + b + c + 127) / 128 * 16 + 32) ∷ (d + (a + b + c + d + 127) / 128 * 16 + 32) ∷ (e + (a + b + c + d + e + 127) / 128 * 16 + 32) ∷ (f + (a + b + c + d + e + f + 127) / 128 * 16 + 32) ∷ (g + (a + b + c + d + e + f + g + 127) / 128 * 16 + 32) ∷ (h + (a + b + c + d + e + f + g + h + 127) / 128 * 16 + 32) ∷ []
columns_shown a b c d e f g h word la lb lc ld le lf lg lh is =
    let more : word * 72340172838076673 % 18446744073709551616 + 9187201950435737471
    ≡ (((((((a + b + c + d + e + f + g + h + 127) * 256 + (a + b + c + d + e + f + g + 127)) * 256 + (a + b + c + d + e + f + 127)) * 256 + (a + b + c + d + e + 127)) * 256 + (a + b + c + d + 127)) * 256 + (a + b + c + 127)) * 256 + (a + b + 127)) * 256 + (a + 127) =
    (let sums = sums_in_word a b c d e f g h word la lb lc ld le lf lg lh is in omega arith) in
    let bits = ap (λ (n : ℕ). bit_and n 9259542123273814144 / 8) more
    ∙ ap (λ (n : ℕ). n / 8) (eight_top_bits (a + 127) (a + b + 127) (a + b + c + 127) (a + b + c + d + 127) (a + b + c + d + e + 127) (a + b + c + d + e + f + 127) (a + b + c + d + e + f + g + 127) (a + b + c + d + e + f + g + h + 127)
    (omega arith) (omega arith) (omega arith) (omega arith) (omega arith) (omega arith) (omega arith) (omega arith))
    ∙ eighth_of_bits ((a + 127) / 128) ((a + b + 127) / 128) ((a + b + c + 127) / 128) ((a + b + c + d + 127) / 128) ((a + b + c + d + e + 127) / 128) ((a + b + c + d + e + f + 127) / 128) ((a + b + c + d + e + f + g + 127) / 128) ((a + b + c + d + e + f + g + h + 127) / 128) in
    bytes_of_word (a + (a + 127) / 128 * 16 + 32) (b + (a + b + 127) / 128 * 16 + 32) (c + (a + b + c + 127) / 128 * 16 + 32) (d + (a + b + c + d + 127) / 128 * 16 + 32) (e + (a + b + c + d + e + 127) / 128 * 16 + 32) (f + (a + b + c + d + e + f + 127) / 128 * 16 + 32) (g + (a + b + c + d + e + f + g + 127) / 128 * 16 + 32) (h + (a + b + c + d + e + f + g + h + 127) / 128 * 16 + 32) _
    (omega arith) (omega arith) (omega arith) (omega arith) (omega arith) (omega arith) (omega arith) (omega arith) (omega (arith, is, bits))

-- how the two halves of a number in a word are split
pub record AreParted (high low hundreds pairs tens : ℕ) : Type 0 where
  pub hundredfold : 100 * hundreds ≤ low * 4294967296 + high
  pub tens_fit : 103 * pairs < 2 ^ 64
  pub tenfold : 10 * tens ≤ pairs
  pub digits_fit : (pairs - 10 * tens) * 256 < 2 ^ 64
  pub word_fits : tens + (pairs - 10 * tens) * 256 < 2 ^ 64
  pub word : tens + (pairs - 10 * tens) * 256
      ≡ ((((((low % 10 * 256 + low / 10 % 10) * 256 + low / 100 % 10) * 256 + low / 1000) * 256 + high % 10) * 256 + high / 10 % 10) * 256
      + high / 100 % 10) * 256 + high / 1000

-- four pairs of digits in a word, split into eight digits
pairs_parted : (a b c d pairs tens : ℕ) → a < 100 → b < 100 → c < 100 → d < 100 → pairs ≡ ((d * 65536 + c) * 65536 + b) * 65536 + a
    → tens ≡ ((d / 10 * 65536 + c / 10) * 65536 + b / 10) * 65536 + a / 10
    → (103 * pairs < 2 ^ 64) × (10 * tens ≤ pairs) × ((pairs - 10 * tens) * 256 < 2 ^ 64) × (tens + (pairs - 10 * tens) * 256 < 2 ^ 64)
    × (tens + (pairs - 10 * tens) * 256
    ≡ ((((((d % 10 * 256 + d / 10) * 256 + c % 10) * 256 + c / 10) * 256 + b % 10) * 256 + b / 10) * 256 + a % 10) * 256 + a / 10)
pairs_parted a b c d pairs tens la lb lc ld p t =
    let ones : pairs - 10 * tens ≡ ((d % 10 * 65536 + c % 10) * 65536 + b % 10) * 65536 + a % 10 = omega arith in
    (omega arith, omega arith, omega arith, omega arith, omega arith)

pub parted : (high low hundreds pairs tens : ℕ) → high < 10000 → low < 10000
    → hundreds ≡ bit_and (5243 * (low * 4294967296 + high) / 524288) 545460846719
    → pairs ≡ hundreds + (low * 4294967296 + high - 100 * hundreds) * 65536 → tens ≡ bit_and (103 * pairs / 1024) 4222189076152335
    → AreParted high low hundreds pairs tens
parted high low hundreds pairs tens lh ll h p t =
    let of_both : hundreds ≡ low / 100 * 4294967296 + high / 100 = h ∙ hundreds_in_word high low _ lh ll refl in
    let rest : low * 4294967296 + high - 100 * hundreds ≡ low % 100 * 4294967296 + high % 100 = omega arith in
    let four : pairs ≡ ((low % 100 * 65536 + low / 100) * 65536 + high % 100) * 65536 + high / 100 = omega (arith, p, of_both, rest) in
    let of_four : tens ≡ ((low % 100 / 10 * 65536 + low / 100 / 10) * 65536 + high % 100 / 10) * 65536 + high / 100 / 10 = t
    ∙ tens_in_word (high / 100) (high % 100) (low / 100) (low % 100) pairs (omega arith) (omega arith) (omega arith) (omega arith) four in
    let all = pairs_parted (high / 100) (high % 100) (low / 100) (low % 100) pairs tens (omega arith) (omega arith) (omega arith)
    (omega arith) four of_four in
    let a : low % 100 % 10 ≡ low % 10 = omega arith in
    let b : low % 100 / 10 ≡ low / 10 % 10 = omega arith in
    let c : low / 100 / 10 ≡ low / 1000 = omega arith in
    let d : high % 100 % 10 ≡ high % 10 = omega arith in
    let e : high % 100 / 10 ≡ high / 10 % 10 = omega arith in
    let f : high / 100 / 10 ≡ high / 1000 = omega arith in
    record {
      hundredfold = omega arith;
      tens_fit = all.0;
      tenfold = all.1;
      digits_fit = all.2;
      word_fits = all.3;
      word = all.4
          ∙ (λ i. ((((((a i * 256 + b i) * 256 + low / 100 % 10) * 256 + c i) * 256 + d i) * 256 + e i) * 256 + high / 100 % 10) * 256 + f i);
    }

-- hundredths, pairs of digits and tenths in a word of two halves
abbrev pub hundreds_of : ℕ → ℕ → ℕ
hundreds_of high low = bit_and (5243 * (low * 4294967296 + high) / 524288) 545460846719

abbrev pub pairs_of : ℕ → ℕ → ℕ
pairs_of high low = hundreds_of high low + (low * 4294967296 + high - 100 * hundreds_of high low) * 65536

abbrev pub tens_of : ℕ → ℕ → ℕ
tens_of high low = bit_and (103 * pairs_of high low / 1024) 4222189076152335
