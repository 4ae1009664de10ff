-- Columns with blanks and then digits without a leading zero are the canonical text of the digits' number.
use Rattle.canonical_lines.proofs.Common.{IsNumberOrNone, IsNumberOrNoneText, IsNumberText, IsNumeral, IsNumeralOrNone, List, None, Option, Some, [], and_from, and_parts, ap, append-nil, append_assoc, arith, drop_blanks, eqb-true, get_or, inl, inr, is_blank, is_digit, le-leb, leb-true, length, length-append, length-number_text, list_all, list_all-append, ne_eqb, number_below, refl, replicate, slice_range, suc, sym, take_all, true, unwrap_or, value_after, zero, ℕ, ◌%◌, ◌*◌, ◌++◌, ◌+◌, ◌-◌, ◌/◌, ◌<◌, ◌∙◌, ◌∷◌, ◌≡◌, ◌≤◌}
use Rattle.tl_layout.specs.FieldTexts.{number_place_text, number_text}
use Rattle.tl_layout.specs.Laws.NumberLaws.{splits_blanks}

-- a digit is between the bytes of 0 and of 9
pub digit_bounds : (digit : ℕ) → is_digit digit ≡ true → (48 ≤ digit) × (digit ≤ 57)
digit_bounds digit h =
    let parts = and_parts _ _ h in (leb-true 48 digit parts.0, leb-true digit 57 parts.1)

-- more blanks follow the blanks of no number
blanks_behind : (width : ℕ) (blanks : List ℕ) → list_all is_blank blanks ≡ true
    → number_text (width + length blanks) 0 ≡ number_text width 0 ++ blanks
unfolding number_text
blanks_behind width [] b =
    let wide : width + length {A = ℕ} [] ≡ width = omega arith in
    ap (λ (w : ℕ). number_text w 0) wide ∙ sym (append-nil (number_text width 0))
blanks_behind width (blank ∷ blanks) b =
    let parts = and_parts (is_blank blank) (list_all is_blank blanks) b in
    let wide : width + length (blank ∷ blanks) ≡ suc width + length blanks = omega arith in
    let is : 32 ≡ blank = sym (eqb-true blank 32 parts.0) in
    ap (λ (w : ℕ). number_text w 0) wide ∙ blanks_behind (suc width) blanks parts.1
    ∙ append_assoc (number_text width 0) (32 ∷ []) blanks ∙ ap (λ (b : ℕ). number_text width 0 ++ (b ∷ blanks)) is

-- the text of a number with one more digit
one_digit : (width n digit : ℕ) → 48 ≤ digit → digit ≤ 57 → 0 < 10 * n + (digit - 48)
    → number_text (suc width) (10 * n + (digit - 48)) ≡ number_text width n ++ digit ∷ []
unfolding number_text
one_digit width n digit low high some =
    let tenth : (10 * n + (digit - 48)) / 10 ≡ n = omega arith in
    let last : 48 + (10 * n + (digit - 48)) % 10 ≡ digit = omega arith in
    rw (ne_eqb (10 * n + (digit - 48)) 0 (λ e. omega arith), tenth, last) refl

-- more digits follow the digits of a number
digits_behind : (width n : ℕ) (digits : List ℕ) → 0 < n → list_all is_digit digits ≡ true
    → number_text (width + length digits) (value_after n digits) ≡ number_text width n ++ digits
digits_behind width n [] some d =
    let wide : width + length {A = ℕ} [] ≡ width = omega arith in
    ap (λ (w : ℕ). number_text w n) wide ∙ sym (append-nil (number_text width n))
digits_behind width n (digit ∷ digits) some d =
    let parts = and_parts (is_digit digit) (list_all is_digit digits) d in
    let bounds = digit_bounds digit parts.0 in
    let next = 10 * n + (digit - 48) in
    let wide : width + length (digit ∷ digits) ≡ suc width + length digits = omega arith in
    ap (λ (w : ℕ). number_text w (value_after next digits)) wide
    ∙ digits_behind (suc width) next digits (omega arith) parts.1
    ∙ ap (λ (l : List ℕ). l ++ digits) (one_digit width n digit bounds.0 bounds.1 (omega arith))
    ∙ append_assoc (number_text width n) (digit ∷ []) digits

-- a number with more digits is no less
value_grows : (n : ℕ) (digits : List ℕ) → n ≤ value_after n digits
value_grows n [] = omega arith
value_grows n (digit ∷ digits) = let more = value_grows (10 * n + (digit - 48)) digits in omega arith

-- blanks are the text of no number
blanks_are : (blanks : List ℕ) → list_all is_blank blanks ≡ true → number_text (length blanks) 0 ≡ blanks
unfolding number_text
blanks_are blanks b =
    let wide : length blanks ≡ 0 + length blanks = omega arith in
    ap (λ (w : ℕ). number_text w 0) wide ∙ blanks_behind 0 blanks b

-- blanks, a digit from 1 on and digits are the text of the number that these digits make
text_is : (before digits : List ℕ) (first : ℕ) → list_all is_blank before ≡ true → 48 < first → first ≤ 57
    → list_all is_digit digits ≡ true
    → number_text (length before + suc (length digits)) (value_after 0 (first ∷ digits)) ≡ before ++ (first ∷ digits)
text_is before digits first b low high d =
    let wide : length before + suc (length digits) ≡ suc (length before) + length digits = omega arith in
    let value = value_after 0 (first ∷ digits) in
    let none : number_text (length before) 0 ≡ before = blanks_are before b in
    ap (λ (w : ℕ). number_text w value) wide
    ∙ digits_behind (suc (length before)) (10 * 0 + (first - 48)) digits (omega arith) d
    ∙ ap (λ (l : List ℕ). l ++ digits) (one_digit (length before) 0 first (omega arith) high (omega arith))
    ∙ ap (λ (l : List ℕ). (l ++ first ∷ []) ++ digits) none
    ∙ append_assoc before (first ∷ []) digits

-- columns of such bytes are the canonical text of a number
number_text_is : (columns digits : List ℕ) (first : ℕ) → drop_blanks columns ≡ first ∷ digits → 48 < first → first ≤ 57
    → list_all is_digit digits ≡ true → IsNumberText columns
number_text_is columns digits first e low high d =
    let s = splits_blanks columns in
    let whole : columns ≡ s.before ++ (first ∷ digits) = s.spelled ∙ ap (λ (l : List ℕ). s.before ++ l) e in
    let first_is : is_digit first ≡ true = and_from _ _ (le-leb 48 first (omega arith)) (le-leb first 57 high) in
    let long : length columns ≡ length s.before + suc (length digits) = ap length whole ∙ length-append s.before (first ∷ digits) in
    let grows = value_grows (10 * 0 + (first - 48)) digits in
    record {
      number = value_after 0 (first ∷ digits);
      fits = (
        omega arith,
        number_below columns (value_after 0 (first ∷ digits)) (record {
          before = s.before;
          digits = first ∷ digits;
          after = [];
          spelled = whole ∙ ap (λ (l : List ℕ). s.before ++ l) (sym (append-nil (first ∷ digits)));
          blanks_before = s.blanks_before;
          all_digits = and_from _ _ first_is d;
          blanks_after = refl;
          value = refl;
        }),
      );
      text = whole ∙ sym (text_is s.before digits first s.blanks_before low high d)
          ∙ ap (λ (w : ℕ). number_text w (value_after 0 (first ∷ digits))) (sym long);
    }

-- blanks and a numeral
pub number_text_of : (columns rest : List ℕ) → rest ≡ drop_blanks columns → IsNumeral rest → IsNumberText columns
number_text_of columns rest e n =
    number_text_is columns n.digits n.first (sym e ∙ n.bytes_are) n.first_is.0 n.first_is.1 n.digits_are

-- blanks and nothing else
pub only_blanks : (bytes : List ℕ) → list_all is_blank bytes ≡ true → bytes ≡ replicate (length bytes) 32
only_blanks [] b = refl
only_blanks (byte ∷ bytes) b =
    let parts = and_parts (is_blank byte) (list_all is_blank bytes) b in
    ap (λ (c : ℕ). c ∷ bytes) (eqb-true byte 32 parts.0) ∙ ap (λ (l : List ℕ). 32 ∷ l) (only_blanks bytes parts.1)

-- an unused place for a number
pub blank_unused : (columns : List ℕ) → length columns ≡ 8 → list_all is_blank columns ≡ true → columns ≡ number_place_text None
blank_unused columns l b = sym (blanks_are columns b) ∙ ap (λ (w : ℕ). number_text w 0) l

-- only blanks
pub none_text_of : (columns : List ℕ) → drop_blanks columns ≡ [] → IsNumberOrNoneText columns
none_text_of columns e =
    let s = splits_blanks columns in
    let whole : columns ≡ s.before = s.spelled ∙ ap (λ (l : List ℕ). s.before ++ l) e ∙ append-nil s.before in
    record {
      number = None;
      fits = tt;
      text = whole ∙ sym (blanks_are s.before s.blanks_before) ∙ ap (λ (w : ℕ). number_text w 0) (sym (ap length whole));
    }

-- a number is a number or none
pub some_text_of : (columns : List ℕ) → IsNumberText columns → IsNumberOrNoneText columns
some_text_of columns t = record { number = Some t.number; fits = t.fits; text = t.text }

-- a list begins with its first element
pub begins : (bytes : List ℕ) → 1 ≤ length bytes → bytes ≡ get_or bytes 0 0 ∷ slice_range bytes 1 (length bytes)
begins [] l = absurd (omega arith)
begins (byte ∷ bytes) l = ap (λ (t : List ℕ). byte ∷ t) (sym (take_all (length (byte ∷ bytes) - 1) bytes (omega arith)))

-- a list without a first element is empty
pub is_empty : (bytes : List ℕ) → length bytes < 1 → bytes ≡ []
is_empty [] l = refl
is_empty (byte ∷ bytes) l = absurd (omega arith)

-- blanks and a numeral, or only blanks
pub plain_text_of : (columns rest : List ℕ) → rest ≡ drop_blanks columns → IsNumeralOrNone rest → IsNumberOrNoneText columns
plain_text_of columns rest e (inl none) = none_text_of columns (sym e ∙ none)
plain_text_of columns rest e (inr n) = some_text_of columns (number_text_of columns rest e n)

-- the text of no number has only blanks
none_all_blank : (width : ℕ) → list_all is_blank (number_text width 0) ≡ true
unfolding number_text
none_all_blank zero = refl
none_all_blank (suc width) =
    list_all-append is_blank (number_text width 0) (32 ∷ []) ∙ and_from _ _ (none_all_blank width) refl

-- each of blanks is a blank
blank_at : (bytes : List ℕ) (k : ℕ) → list_all is_blank bytes ≡ true → k < length bytes → get_or bytes k 0 ≡ 32
blank_at [] k b lt = absurd (omega arith)
blank_at (byte ∷ bytes) zero b lt = eqb-true byte 32 (and_parts (is_blank byte) (list_all is_blank bytes) b).0
blank_at (byte ∷ bytes) (suc k) b lt = blank_at bytes k (and_parts (is_blank byte) (list_all is_blank bytes) b).1 (omega arith)

-- each byte of no number is a blank
none_is_blank : (width k : ℕ) → k < width → get_or (number_text width 0) k 0 ≡ 32
none_is_blank width k lt = blank_at (number_text width 0) k (none_all_blank width) (omega (arith, lt, length-number_text width 0))

-- if the last column isn't blank, there is a number
pub ended_text_of : (columns : List ℕ) (number : Option ℕ) → IsNumberOrNone (length columns) number
    → columns ≡ number_text (length columns) (unwrap_or number 0) → 0 < length columns
    → (get_or columns (length columns - 1) 0 ≡ 32 → ⊥) → IsNumberText columns
ended_text_of columns None f t some other =
    absurd (other (ap (λ (l : List ℕ). get_or l (length columns - 1) 0) t ∙ none_is_blank (length columns) (length columns - 1) (omega arith)))
ended_text_of columns (Some n) f t some other = record { number = n; fits = f; text = t }
