-- The canonical text of a number spells it, has the field's width, and consists of allowed bytes.
use Rattle.std.proofs.Common.{Bool, IsTrue, List, [], ap, append_assoc, arith, cond, false, length, lit<, nat_eq, nat_le, refl, suc, sym, true, zero, ℕ, ◌%◌, ◌*◌, ◌++◌, ◌+◌, ◌-◌, ◌/◌, ◌<◌, ◌^◌, ◌∙◌, ◌∷◌, ◌≡◌, ◌≤◌}
use Rattle.std.proofs.lemmas.Bool.{and_from, and_parts, eqb-false, eqb-true, le-leb, leb-true}
use Rattle.std.proofs.Math.Nat.{mul-le-mul_left, pow-le-pow_right, pow-succ'}
use Rattle.std.proofs.lemmas.Bool.Decides.{nat_tests}
use Rattle.std.proofs.lemmas.List.Elements.{All-nil, All-push}
use Rattle.std.proofs.lemmas.List.Folds.{list_all-append}
use Rattle.std.proofs.lemmas.List.{append-nil, length-append, length_push}
use Rattle.std.specs.List.{list_all}
use Rattle.tl_layout.specs.NumberField.{IsNumberField, is_blank, is_digit, value_after}
use Rattle.tl_layout.specs.Bytes.{AreAllowed, IsText, is_allowed}
use Rattle.tl_layout.specs.FieldTexts.{number_text}

-- the value of digits with one more appended
pub value_after-push : (n : ℕ) (digits : List ℕ) (digit : ℕ)
    → value_after n (digits ++ digit ∷ []) ≡ 10 * value_after n digits + (digit - 48)
value_after-push n [] digit = refl
value_after-push n (d ∷ digits) digit = value_after-push (10 * n + (d - 48)) digits digit

-- the last digit of a number is a digit
pub last_is_digit : (n : ℕ) → is_digit (48 + n % 10) ≡ true
last_is_digit n = and_from _ _ (le-leb 48 (48 + n % 10) (omega arith)) (le-leb (48 + n % 10) 57 (omega arith))

-- digits with one more appended are digits
pub digits_push : (digits : List ℕ) (digit : ℕ) → list_all is_digit digits ≡ true → is_digit digit ≡ true
    → list_all is_digit (digits ++ digit ∷ []) ≡ true
digits_push digits digit h e = list_all-append is_digit digits (digit ∷ []) ∙ and_from _ _ h (and_from _ _ e refl)

-- a number with one digit less is below a power of ten one lower
pub tenth_below : (width n : ℕ) → n < 10 ^ suc width → n / 10 < 10 ^ width
tenth_below width n h = let more : n < 10 * 10 ^ width = rw (← pow-succ' 10 width) h in omega arith

-- blanks, then the digits that make the number; no digits for 0
record NumberTextParts (width n : ℕ) : Type 0 where
  before : List ℕ
  digits : List ℕ
  spelled : number_text width n ≡ before ++ digits
  blanks_before : list_all is_blank before ≡ true
  all_digits : list_all is_digit digits ≡ true
  value : n ≡ value_after 0 digits
  none : n ≡ 0 → digits ≡ []

one_column : (width n : ℕ) (b : Bool) → nat_eq n 0 ≡ b → NumberTextParts width (n / 10) → NumberTextParts (suc width) n
unfolding number_text
one_column width n true e p =
    let n_is : n ≡ 0 = eqb-true n 0 e in
    let no_digits : p.digits ≡ [] = p.none (omega arith) in
    record {
      before = p.before ++ 32 ∷ [];
      digits = [];
      spelled = rw (e, p.spelled, no_digits, append-nil p.before, append-nil (p.before ++ 32 ∷ [])) refl;
      blanks_before = list_all-append is_blank p.before (32 ∷ []) ∙ and_from _ _ p.blanks_before refl;
      all_digits = refl;
      value = n_is;
      none = λ _. refl;
    }
one_column width n false e p =
    let n_is_not : n ≡ 0 → ⊥ = eqb-false n 0 e in
    record {
      before = p.before;
      digits = p.digits ++ (48 + n % 10) ∷ [];
      spelled = rw (e, p.spelled, append_assoc p.before p.digits ((48 + n % 10) ∷ [])) refl;
      blanks_before = p.blanks_before;
      all_digits = digits_push p.digits (48 + n % 10) p.all_digits (last_is_digit n);
      value = (let v = p.value in let m = value_after-push 0 p.digits (48 + n % 10) in omega arith);
      none = λ z. absurd (n_is_not z);
    }

number_text_parts : (width n : ℕ) → n < 10 ^ width → NumberTextParts width n
unfolding number_text
number_text_parts zero n h =
    record { before = []; digits = []; spelled = refl; blanks_before = refl; all_digits = refl; value = omega arith; none = λ _. refl }
number_text_parts (suc width) n h = one_column width n (nat_eq n 0) refl (number_text_parts width (n / 10) (tenth_below width n h))

-- the canonical text spells the number
pub number_text_spells : (width n : ℕ) → n < 10 ^ width → IsNumberField (number_text width n) n
number_text_spells width n h =
    let p = number_text_parts width n h in
    record {
      before = p.before;
      digits = p.digits;
      after = [];
      spelled = p.spelled
          ∙ ap (λ (l : List ℕ). p.before ++ l) (sym (append-nil p.digits));
      blanks_before = p.blanks_before;
      all_digits =
          p.all_digits;
      blanks_after = refl;
      value = p.value;
    }

pub length-number_text : (width n : ℕ) → length (number_text width n) ≡ width
unfolding number_text
length-number_text zero n = refl
length-number_text (suc width) n = let l = length-number_text width (n / 10) in let m =
    length_push (number_text width (n / 10)) (cond (nat_eq n 0) 32 (48 + n % 10)) in omega arith

-- a digit is an allowed byte
pub digit_allowed : (n : ℕ) → is_allowed (48 + n % 10) ≡ true
digit_allowed n = let r : n % 10 < 10 = omega arith in grind (arith, nat_tests)

pub digit_or_blank_allowed : (n : ℕ) (b : Bool) → is_allowed (cond b 32 (48 + n % 10)) ≡ true
digit_or_blank_allowed n true = refl
digit_or_blank_allowed n false = digit_allowed n

number_text_allowed : (width n : ℕ) → AreAllowed (number_text width n)
unfolding AreAllowed number_text
number_text_allowed zero n = All-nil (λ b. IsTrue (is_allowed b))
number_text_allowed (suc width) n =
    All-push (λ b. IsTrue (is_allowed b)) _ _ (number_text_allowed width (n / 10)) (digit_or_blank_allowed n (nat_eq n 0))

-- the canonical text has the field's width and only allowed bytes
pub number_text_is_text : (width n : ℕ) → IsText width (number_text width n)
number_text_is_text width n = record { len = length-number_text width n; allowed = number_text_allowed width n }

-- each digit after n raises the bound of the number by one power of ten
value_below : (n : ℕ) (digits : List ℕ) → list_all is_digit digits ≡ true → value_after n digits + 1 ≤ (n + 1) * 10 ^ length digits
value_below n [] d = omega arith
value_below n (digit ∷ digits) d =
    let parts = and_parts (is_digit digit) (list_all is_digit digits) d in
    let high : digit ≤ 57 = leb-true digit 57 (and_parts (nat_le 48 digit) (nat_le digit 57) parts.0).1 in
    let rest = value_below (10 * n + (digit - 48)) digits parts.1 in
    let above : 10 * n + (digit - 48) + 1 ≤ 10 * (n + 1) = omega arith in
    let step = mul-le-mul_left (10 ^ length digits) above in
    rw (pow-succ' 10 (length digits)) (omega arith)

-- a number that a field spells has at most as many digits as the field has columns
pub number_below : (field : List ℕ) (n : ℕ) → IsNumberField field n → n < 10 ^ length field
number_below field n h =
    let below = value_below 0 h.digits h.all_digits in
    let len = ap length h.spelled ∙ length-append h.before (h.digits ++ h.after) in
    let len_rest = length-append h.digits h.after in
    let wide : length h.digits ≤ length field = omega arith in
    let most = pow-le-pow_right {n = 10} (lit< tt) wide in
    let v = h.value in
    omega arith
