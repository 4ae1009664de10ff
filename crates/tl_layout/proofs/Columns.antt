-- The texts of numbers in eight columns.
use Rattle.tl_layout.proofs.Common.{Bool, List, [], ap, append-nil, arith, cases_lt, drop_all, eqb-true, false, if◌then◌else◌, inl, inr, length, nat_eq, ne_eqb, refl, slice_set, suc, true, zero, ℕ, ◌%◌, ◌*◌, ◌++◌, ◌+◌, ◌-◌, ◌/◌, ◌<◌, ◌==◌, ◌∙◌, ◌∷◌, ◌≡◌, ◌≤◌, ◌⊎◌}
use Rattle.tl_layout.specs.FieldTexts.{digits_text, number_text, text_behind}
use borrow.Rule.Slice.PartMut.{put_mid}

-- eight digits side by side
pub eight_digits_text : (n : ℕ) → n < 100000000
    → (48 + n / 10000000) ∷ (48 + n / 1000000 % 10) ∷ (48 + n / 100000 % 10) ∷ (48 + n / 10000 % 10) ∷ (48 + n / 1000 % 10) ∷ (48 + n / 100 % 10) ∷ (48 + n / 10 % 10) ∷ (48 + n % 10) ∷ []
    ≡ digits_text 8 n
unfolding digits_text
eight_digits_text n low =
    let a : 48 + n / 10000000 ≡ 48 + n / 10 / 10 / 10 / 10 / 10 / 10 / 10 % 10 = omega arith in
    let b : 48 + n / 1000000 % 10 ≡ 48 + n / 10 / 10 / 10 / 10 / 10 / 10 % 10 = omega arith in
    let c : 48 + n / 100000 % 10 ≡ 48 + n / 10 / 10 / 10 / 10 / 10 % 10 = omega arith in
    let d : 48 + n / 10000 % 10 ≡ 48 + n / 10 / 10 / 10 / 10 % 10 = omega arith in
    let e : 48 + n / 1000 % 10 ≡ 48 + n / 10 / 10 / 10 % 10 = omega arith in
    let f : 48 + n / 100 % 10 ≡ 48 + n / 10 / 10 % 10 = omega arith in
    let g : 48 + n / 10 % 10 ≡ 48 + n / 10 % 10 = omega arith in
    let h : 48 + n % 10 ≡ 48 + n % 10 = omega arith in
    λ i. a i ∷ b i ∷ c i ∷ d i ∷ e i ∷ f i ∷ g i ∷ h i ∷ []

-- A column is blank if the digits up to it add up to 0, and has the last of them otherwise.
column_by : (sum digit left : ℕ) → (left < 1) ⊎ (1 ≤ left) → sum < 129 → (sum ≡ 0 → left ≡ 0) → (left ≡ 0 → sum ≡ 0) → digit ≡ left % 10
    → digit + (sum + 127) / 128 * 16 + 32 ≡ (if left == 0 then 32 else 48 + left % 10)
column_by sum digit left (inl none) few f g d =
    let zero_left : left ≡ 0 = omega arith in
    let zero_sum : sum ≡ 0 = g zero_left in
    let blank : digit + (sum + 127) / 128 * 16 + 32 ≡ 32 = omega arith in
    rw (zero_left, blank) refl
column_by sum digit left (inr some) few f g d =
    let some_left : left ≡ 0 → ⊥ = λ z. omega arith in
    let some_sum : sum ≡ 0 → ⊥ = λ z. some_left (f z) in
    let shown : digit + (sum + 127) / 128 * 16 + 32 ≡ 48 + left % 10 = omega arith in
    rw (ne_eqb left 0 some_left, shown) refl

column : (sum digit left : ℕ) → sum < 129 → (sum ≡ 0 → left ≡ 0) → (left ≡ 0 → sum ≡ 0) → digit ≡ left % 10
    → digit + (sum + 127) / 128 * 16 + 32 ≡ (if left == 0 then 32 else 48 + left % 10)
column sum digit left = column_by sum digit left (cases_lt left 1)

-- the columns of a number with at most eight digits
columns_of : (n a b c d e f g h : ℕ) → n ≡ ((((((a * 10 + b) * 10 + c) * 10 + d) * 10 + e) * 10 + f) * 10 + g) * 10 + h
    → a < 10 → b < 10 → c < 10 → d < 10 → e < 10 → f < 10 → g < 10 → h < 10
    → (a + (a + 127) / 128 * 16 + 32) ∷ (b + (a + b + 127) / 128 * 16 + 32) ∷ (c + (a + b + c + 127) / 128 * 16 + 32) ∷ (d + (a + b + c + d + 127) / 128 * 16 + 32) ∷ (e + (a + b + c + d + e + 127) / 128 * 16 + 32) ∷ (f + (a + b + c + d + e + f + 127) / 128 * 16 + 32) ∷ (g + (a + b + c + d + e + f + g + 127) / 128 * 16 + 32) ∷ (h + (a + b + c + d + e + f + g + h + 127) / 128 * 16 + 32) ∷ [] ≡ number_text 8 n
unfolding number_text
columns_of n a b c d e f g h is la lb lc ld le lf lg lh =
    let n1 : n / 10 ≡ (((((a * 10 + b) * 10 + c) * 10 + d) * 10 + e) * 10 + f) * 10 + g = omega arith in
    let n2 : n / 10 / 10 ≡ ((((a * 10 + b) * 10 + c) * 10 + d) * 10 + e) * 10 + f = omega arith in
    let n3 : n / 10 / 10 / 10 ≡ (((a * 10 + b) * 10 + c) * 10 + d) * 10 + e = omega arith in
    let n4 : n / 10 / 10 / 10 / 10 ≡ ((a * 10 + b) * 10 + c) * 10 + d = omega arith in
    let n5 : n / 10 / 10 / 10 / 10 / 10 ≡ (a * 10 + b) * 10 + c = omega arith in
    let n6 : n / 10 / 10 / 10 / 10 / 10 / 10 ≡ a * 10 + b = omega arith in
    let n7 : n / 10 / 10 / 10 / 10 / 10 / 10 / 10 ≡ a = omega arith in
    let a' = column (a) a (n / 10 / 10 / 10 / 10 / 10 / 10 / 10) (omega arith) (λ z. omega arith) (λ z. omega arith) (omega arith) in
    let b' = column (a + b) b (n / 10 / 10 / 10 / 10 / 10 / 10) (omega arith) (λ z. omega arith) (λ z. omega arith) (omega arith) in
    let c' = column (a + b + c) c (n / 10 / 10 / 10 / 10 / 10) (omega arith) (λ z. omega arith) (λ z. omega arith) (omega arith) in
    let d' = column (a + b + c + d) d (n / 10 / 10 / 10 / 10) (omega arith) (λ z. omega arith) (λ z. omega arith) (omega arith) in
    let e' = column (a + b + c + d + e) e (n / 10 / 10 / 10) (omega arith) (λ z. omega arith) (λ z. omega arith) (omega arith) in
    let f' = column (a + b + c + d + e + f) f (n / 10 / 10) (omega arith) (λ z. omega arith) (λ z. omega arith) (omega arith) in
    let g' = column (a + b + c + d + e + f + g) g (n / 10) (omega arith) (λ z. omega arith) (λ z. omega arith) (omega arith) in
    let h' = column (a + b + c + d + e + f + g + h) h (n) (omega arith) (λ z. omega arith) (λ z. omega arith) (omega arith) in
    λ i. a' i ∷ b' i ∷ c' i ∷ d' i ∷ e' i ∷ f' i ∷ g' i ∷ h' i ∷ []

pub eight_columns_text : (n : ℕ) → n < 100000000
    → (n / 10000000 + (n / 10000000 + 127) / 128 * 16 + 32)
    ∷ (n / 1000000 % 10 + (n / 10000000 + n / 1000000 % 10 + 127) / 128 * 16 + 32)
    ∷ (n / 100000 % 10 + (n / 10000000 + n / 1000000 % 10 + n / 100000 % 10 + 127) / 128 * 16 + 32)
    ∷ (n / 10000 % 10 + (n / 10000000 + n / 1000000 % 10 + n / 100000 % 10 + n / 10000 % 10 + 127) / 128 * 16 + 32)
    ∷ (n / 1000 % 10 + (n / 10000000 + n / 1000000 % 10 + n / 100000 % 10 + n / 10000 % 10 + n / 1000 % 10 + 127) / 128 * 16 + 32)
    ∷ (n / 100 % 10 + (n / 10000000 + n / 1000000 % 10 + n / 100000 % 10 + n / 10000 % 10 + n / 1000 % 10 + n / 100 % 10 + 127) / 128 * 16 + 32)
    ∷ (n / 10 % 10 + (n / 10000000 + n / 1000000 % 10 + n / 100000 % 10 + n / 10000 % 10 + n / 1000 % 10 + n / 100 % 10 + n / 10 % 10 + 127) / 128 * 16 + 32)
    ∷ (n % 10 + (n / 10000000 + n / 1000000 % 10 + n / 100000 % 10 + n / 10000 % 10 + n / 1000 % 10 + n / 100 % 10 + n / 10 % 10 + n % 10 + 127) / 128 * 16 + 32)
    ∷ [] ≡ number_text 8 n
eight_columns_text n low =
    columns_of n (n / 10000000) (n / 1000000 % 10) (n / 100000 % 10) (n / 10000 % 10) (n / 1000 % 10) (n / 100 % 10) (n / 10 % 10) (n % 10)
    (omega arith) (omega arith) (omega arith) (omega arith) (omega arith) (omega arith) (omega arith) (omega arith) (omega arith)

nothing_or_digit : (filler n : ℕ) (b : Bool) → nat_eq n 0 ≡ b → filler ≡ 48 → (if b then filler else 48 + n % 10) ≡ 48 + n % 10
nothing_or_digit filler n true e f = f ∙ (let z = eqb-true n 0 e in omega arith)
nothing_or_digit filler n false e f = refl

-- leading blanks before the digits
pub behind_blanks : (width n : ℕ) → text_behind 32 width n ≡ number_text width n
unfolding text_behind number_text
behind_blanks zero n = refl
behind_blanks (suc width) n = ap (λ (l : List ℕ). l ++ (if n == 0 then 32 else 48 + n % 10) ∷ []) (behind_blanks width (n / 10))

-- leading zeros before the digits
pub behind_zeros : (width n : ℕ) → text_behind 48 width n ≡ digits_text width n
unfolding text_behind digits_text
behind_zeros zero n = refl
behind_zeros (suc width) n =
    ap (λ (l : List ℕ). l ++ (if n == 0 then 48 else 48 + n % 10) ∷ []) (behind_zeros width (n / 10))
    ∙ ap (λ (d : ℕ). digits_text width (n / 10) ++ d ∷ []) (nothing_or_digit 48 n (nat_eq n 0) refl refl)

-- a number and its last eight digits have the same last eight digits
pub last_eight_digits : (n : ℕ) → digits_text 8 (n % 100000000) ≡ digits_text 8 n
unfolding digits_text
last_eight_digits n =
    let m = n % 100000000 in
    let a : 48 + m / 10 / 10 / 10 / 10 / 10 / 10 / 10 % 10 ≡ 48 + n / 10 / 10 / 10 / 10 / 10 / 10 / 10 % 10 = omega arith in
    let b : 48 + m / 10 / 10 / 10 / 10 / 10 / 10 % 10 ≡ 48 + n / 10 / 10 / 10 / 10 / 10 / 10 % 10 = omega arith in
    let c : 48 + m / 10 / 10 / 10 / 10 / 10 % 10 ≡ 48 + n / 10 / 10 / 10 / 10 / 10 % 10 = omega arith in
    let d : 48 + m / 10 / 10 / 10 / 10 % 10 ≡ 48 + n / 10 / 10 / 10 / 10 % 10 = omega arith in
    let e : 48 + m / 10 / 10 / 10 % 10 ≡ 48 + n / 10 / 10 / 10 % 10 = omega arith in
    let f : 48 + m / 10 / 10 % 10 ≡ 48 + n / 10 / 10 % 10 = omega arith in
    let g : 48 + m / 10 % 10 ≡ 48 + n / 10 % 10 = omega arith in
    let h : 48 + m % 10 ≡ 48 + n % 10 = omega arith in
    λ i. a i ∷ b i ∷ c i ∷ d i ∷ e i ∷ f i ∷ g i ∷ h i ∷ []

first_of_nine : (n : ℕ) → (48 + n / 100000000 % 10) ∷ digits_text 8 n ≡ digits_text 9 n
unfolding digits_text
first_of_nine n =
    let a : 48 + n / 100000000 % 10 ≡ 48 + n / 10 / 10 / 10 / 10 / 10 / 10 / 10 / 10 % 10 = omega arith in
    ap (λ (d : ℕ). d ∷ digits_text 8 n) a

-- nine digits are one digit and eight more
pub nine_digits_text : (n : ℕ) → (48 + n / 100000000 % 10) ∷ digits_text 8 (n % 100000000) ≡ digits_text 9 n
nine_digits_text n = ap (λ (l : List ℕ). (48 + n / 100000000 % 10) ∷ l) (last_eight_digits n) ∙ first_of_nine n

blank_column : (left : ℕ) → left ≡ 0 → 32 ≡ (if left == 0 then 32 else 48 + left % 10)
blank_column left z = rw z refl

digit_column : (left digit : ℕ) → 0 < left → digit ≡ 48 + left % 10 → digit ≡ (if left == 0 then 32 else 48 + left % 10)
digit_column left digit more d = rw (ne_eqb left 0 (λ z. omega arith)) d

-- ten columns of a number of eight digits at most
pub ten_columns_low : (n : ℕ) → n < 100000000 → 32 ∷ 32 ∷ number_text 8 n ≡ number_text 10 n
unfolding number_text
ten_columns_low n low =
    let a = blank_column (n / 10 / 10 / 10 / 10 / 10 / 10 / 10 / 10 / 10) (omega arith) in
    let b = blank_column (n / 10 / 10 / 10 / 10 / 10 / 10 / 10 / 10) (omega arith) in
    λ i. a i ∷ b i ∷ number_text 8 n

all_digits : (n first : ℕ) → 0 < n / 100000000
    → first ≡ (if n / 10 / 10 / 10 / 10 / 10 / 10 / 10 / 10 / 10 == 0 then 32 else 48 + n / 10 / 10 / 10 / 10 / 10 / 10 / 10 / 10 / 10 % 10)
    → first ∷ (48 + n / 100000000 % 10) ∷ digits_text 8 n ≡ number_text 10 n
unfolding number_text digits_text
all_digits n first high is =
    let z = digit_column (n / 10 / 10 / 10 / 10 / 10 / 10 / 10 / 10) (48 + n / 100000000 % 10) (omega arith) (omega arith) in
    let a = digit_column (n / 10 / 10 / 10 / 10 / 10 / 10 / 10) _ (omega arith) refl in
    let b = digit_column (n / 10 / 10 / 10 / 10 / 10 / 10) _ (omega arith) refl in
    let c = digit_column (n / 10 / 10 / 10 / 10 / 10) _ (omega arith) refl in
    let d = digit_column (n / 10 / 10 / 10 / 10) _ (omega arith) refl in
    let e = digit_column (n / 10 / 10 / 10) _ (omega arith) refl in
    let f = digit_column (n / 10 / 10) _ (omega arith) refl in
    let g = digit_column (n / 10) _ (omega arith) refl in
    let h = digit_column n _ (omega arith) refl in
    λ i. is i ∷ z i ∷ a i ∷ b i ∷ c i ∷ d i ∷ e i ∷ f i ∷ g i ∷ h i ∷ []

-- ten columns with a number of more than eight digits, whose first column is given
pub ten_columns_high : (n first : ℕ) → 0 < n / 100000000
    → first ≡ (if n / 10 / 10 / 10 / 10 / 10 / 10 / 10 / 10 / 10 == 0 then 32 else 48 + n / 10 / 10 / 10 / 10 / 10 / 10 / 10 / 10 / 10 % 10)
    → first ∷ (48 + n / 100000000 % 10) ∷ digits_text 8 (n % 100000000) ≡ number_text 10 n
ten_columns_high n first high is =
    ap (λ (l : List ℕ). first ∷ (48 + n / 100000000 % 10) ∷ l) (last_eight_digits n) ∙ all_digits n first high is

-- the first column of ten
pub first_of_ten : (n first : ℕ) → n < 10000000000 → (n / 100000000 < 10) ⊎ (10 ≤ n / 100000000)
    → (n / 100000000 < 10 → first ≡ 32) → (10 ≤ n / 100000000 → first ≡ 48 + n / 100000000 / 10)
    → first ≡ (if n / 10 / 10 / 10 / 10 / 10 / 10 / 10 / 10 / 10 == 0 then 32 else 48 + n / 10 / 10 / 10 / 10 / 10 / 10 / 10 / 10 / 10 % 10)
first_of_ten n first most (inl lt) f g = f lt ∙ blank_column (n / 10 / 10 / 10 / 10 / 10 / 10 / 10 / 10 / 10) (omega arith)
first_of_ten n first most (inr ge) f g =
    g ge ∙ digit_column (n / 10 / 10 / 10 / 10 / 10 / 10 / 10 / 10 / 10) (48 + n / 100000000 / 10) (omega arith) (omega arith)

-- the first two positions were written, and then all others
pub two_then_rest : (out : List ℕ) (first second k : ℕ) (rest : List ℕ) → 2 ≤ length out → k ≡ length out - 2
    → put_mid 2 k (slice_set (slice_set out 0 first) 1 second) rest ≡ first ∷ second ∷ rest
two_then_rest [] first second k rest h e = absurd (omega arith)
two_then_rest (x ∷ []) first second k rest h e = absurd (omega arith)
two_then_rest (x ∷ y ∷ xs) first second k rest h e =
    ap (λ (left : List ℕ). first ∷ second ∷ (rest ++ left)) (drop_all k xs (omega arith))
    ∙ ap (λ (l : List ℕ). first ∷ second ∷ l) (append-nil rest)
