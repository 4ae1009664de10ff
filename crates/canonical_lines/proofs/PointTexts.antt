-- A sign and digits are the canonical text of a coordinate.
use Rattle.canonical_lines.proofs.Common.{IsCoordinateText, IsPointOrNoneText, IsPointText, List, None, Some, [], and_from, and_parts, ap, append-nil, append_assoc, arith, drop, get_or, inl, inr, is_blank, is_digit, le-leb, length, length-drop, list_all, negsuc, number_below, point_place_text, pos, refl, replicate, slice_range, subst, suc, sym, take, take-append-drop, take_all, true, unsigned_abs, value_after, zero, ℕ, ℤ, ◌%◌, ◌*◌, ◌++◌, ◌+◌, ◌-◌, ◌/◌, ◌<◌, ◌^◌, ◌∙◌, ◌∷◌, ◌≡◌, ◌≤◌, ◌⊎◌}
use Rattle.canonical_lines.proofs.NumberTexts.{digit_bounds, only_blanks}
use Rattle.tl_layout.specs.FieldTexts.{coordinate_text, digits_text}
use lib.Lanes.{chunk}

-- bytes that are all digits
pub all_at : (bytes : List ℕ) → ((k : ℕ) → k < length bytes → is_digit (get_or bytes k 0) ≡ true) → list_all is_digit bytes ≡ true
all_at [] h = refl
all_at (byte ∷ bytes) h = and_from _ _ (h 0 (omega arith)) (all_at bytes (λ k lt. h (suc k) (omega arith)))

-- eight bytes that are all digits
all_eight : (eight bytes : List ℕ) → eight ≡ bytes → length bytes ≡ 8 → ((k : ℕ) → k < 8 → is_digit (get_or eight k 0) ≡ true)
    → list_all is_digit bytes ≡ true
all_eight eight bytes same l d = all_at bytes (λ k lt. subst (λ (b : List ℕ). is_digit (get_or b k 0) ≡ true) same (d k (omega arith)))

-- the digits of a number with one more digit
one_digit : (width n digit : ℕ) → 48 ≤ digit → digit ≤ 57 → digits_text (suc width) (10 * n + (digit - 48)) ≡ digits_text width n ++ digit ∷ []
unfolding digits_text
one_digit width n digit low high =
    let tenth : (10 * n + (digit - 48)) / 10 ≡ n = omega arith in
    let last : 48 + (10 * n + (digit - 48)) % 10 ≡ digit = omega arith in
    rw (tenth, last) refl

-- digits follow the digits of a number
digits_behind : (width n : ℕ) (digits : List ℕ) → list_all is_digit digits ≡ true
    → digits_text (width + length digits) (value_after n digits) ≡ digits_text width n ++ digits
digits_behind width n [] d =
    let wide : width + length {A = ℕ} [] ≡ width = omega arith in
    ap (λ (w : ℕ). digits_text w n) wide ∙ sym (append-nil (digits_text width n))
digits_behind width n (digit ∷ digits) d =
    let parts = and_parts (is_digit digit) (list_all is_digit digits) d in
    let bounds = digit_bounds digit parts.0 in
    let next = 10 * n + (digit - 48) in
    let wide : width + length (digit ∷ digits) ≡ suc width + length digits = omega arith in
    ap (λ (w : ℕ). digits_text w (value_after next digits)) wide
    ∙ digits_behind (suc width) next digits parts.1
    ∙ ap (λ (l : List ℕ). l ++ digits) (one_digit width n digit bounds.0 bounds.1)
    ∙ append_assoc (digits_text width n) (digit ∷ []) digits

-- digits are the digits of the number that they make
digits_again : (digits : List ℕ) → list_all is_digit digits ≡ true → digits_text (length digits) (value_after 0 digits) ≡ digits
unfolding digits_text
digits_again digits d =
    let wide : length digits ≡ 0 + length digits = omega arith in
    ap (λ (w : ℕ). digits_text w (value_after 0 digits)) wide ∙ digits_behind 0 0 digits d

-- digits make a number with at most as many digits
digits_below : (width : ℕ) (digits : List ℕ) → length digits ≡ width → list_all is_digit digits ≡ true → value_after 0 digits < 10 ^ width
digits_below width digits l d =
    let below = number_below digits (value_after 0 digits) (record {
      before = [];
      digits = digits;
      after = [];
      spelled = sym (append-nil digits);
      blanks_before = refl;
      all_digits = d;
      blanks_after = refl;
      value = refl;
    }) in
    subst (λ (w : ℕ). value_after 0 digits < 10 ^ w) l below

-- a minus and digits that make a number other than 0
negative : (width value : ℕ) (columns digits : List ℕ) → columns ≡ 45 ∷ digits → digits_text width value ≡ digits → value < 10 ^ width
    → (digits ≡ digits_text width 0 → ⊥) → IsCoordinateText width columns
unfolding coordinate_text
negative width zero columns digits e t h n = absurd (n (sym t))
negative width (suc value) columns digits e t h n =
    record { value = negsuc value; fits = h; text = e ∙ ap (λ (l : List ℕ). 45 ∷ l) (sym t) }

-- a plus and digits, or a minus and digits that aren't all 0
pub coordinate_text_of : (width sign : ℕ) (columns digits : List ℕ) → columns ≡ sign ∷ digits → length digits ≡ width
    → list_all is_digit digits ≡ true → (sign ≡ 43) ⊎ ((sign ≡ 45) × (digits ≡ digits_text width 0 → ⊥)) → IsCoordinateText width columns
unfolding coordinate_text
coordinate_text_of width sign columns digits e l d (inl s) =
    let again = ap (λ (w : ℕ). digits_text w (value_after 0 digits)) (sym l) ∙ digits_again digits d in
    let fits = digits_below width digits l d in
    record {
      value = pos (value_after 0 digits);
      fits = fits;
      text = e ∙ ap (λ (s : ℕ). s ∷ digits) s ∙ ap (λ (l : List ℕ). 43 ∷ l) (sym again);
    }
coordinate_text_of width sign columns digits e l d (inr s) =
    let again = ap (λ (w : ℕ). digits_text w (value_after 0 digits)) (sym l) ∙ digits_again digits d in
    let fits = digits_below width digits l d in
    negative width (value_after 0 digits) columns digits (e ∙ ap (λ (s : ℕ). s ∷ digits) s.0) again fits s.1

-- a longitude: a sign, a digit and eight more
pub nine_digits : (columns : List ℕ) → length columns ≡ 10 → 48 ≤ get_or columns 1 0 → get_or columns 1 0 ≤ 57
    → ((k : ℕ) → k < 8 → is_digit (get_or (chunk 0 8 (slice_range columns 2 (length columns))) k 0) ≡ true)
    → list_all is_digit (slice_range columns 1 (length columns)) ≡ true
nine_digits [] l low high d = absurd (omega arith)
nine_digits (x ∷ []) l low high d = absurd (omega arith)
nine_digits (x ∷ y ∷ xs) l low high d =
    let eight : chunk 0 8 (slice_range (x ∷ y ∷ xs) 2 (length (x ∷ y ∷ xs))) ≡ xs =
    ap (take 8) (take_all (length (x ∷ y ∷ xs) - 2) xs (omega arith)) ∙ take_all 8 xs (omega arith) in
    ap (list_all is_digit) (take_all (length (x ∷ y ∷ xs) - 1) (y ∷ xs) (omega arith))
    ∙ and_from _ _ (and_from _ _ (le-leb 48 _ low) (le-leb _ 57 high)) (all_eight _ xs eight (omega arith) d)

-- a latitude: a sign and eight digits
pub eight_digits : (columns : List ℕ) → length columns ≡ 9 → ((k : ℕ) → k < 8 → is_digit (get_or (chunk 1 8 columns) k 0) ≡ true)
    → list_all is_digit (slice_range columns 1 (length columns)) ≡ true
eight_digits [] l d = absurd (omega arith)
eight_digits (x ∷ xs) l d =
    ap (list_all is_digit) (take_all (length (x ∷ xs) - 1) xs (omega arith)) ∙ all_eight _ xs (take_all 8 xs (omega arith)) (omega arith) d

-- how many columns follow the first one
pub length_behind : (columns : List ℕ) (width : ℕ) → length columns ≡ width + 1 → length (slice_range columns 1 (length columns)) ≡ width
length_behind [] width l = absurd (omega arith)
length_behind (byte ∷ columns) width l = ap length (take_all (length (byte ∷ columns) - 1) columns (omega arith)) ∙ omega arith

-- a longitude of ten columns, and the latitude after it
pub two_parts : (columns : List ℕ) → length columns ≡ 19 → columns ≡ take 10 columns ++ slice_range columns 10 (length columns)
two_parts columns l =
    let dropped = length-drop 10 columns in
    sym (take-append-drop 10 columns)
    ∙ ap (λ (t : List ℕ). take 10 columns ++ t) (sym (take_all (length columns - 10) (drop 10 columns) (omega arith)))

-- only 0 has the magnitude 0
zero_is : (value : ℤ) → unsigned_abs value ≡ 0 → value ≡ pos 0
zero_is (pos n) h = ap pos h
zero_is (negsuc n) h = absurd (omega arith)

-- a text that is not the text of an unused place has a point that is not (0, 0)
somewhere : (long lat : ℤ) (columns : List ℕ) → columns ≡ coordinate_text 9 long ++ coordinate_text 8 lat
    → (columns ≡ point_place_text None → ⊥) → (sum : ℕ) → unsigned_abs long + unsigned_abs lat ≡ sum → 0 < sum
somewhere long lat columns e n zero s =
    absurd (n (e ∙ ap (λ (v : ℤ). coordinate_text 9 v ++ coordinate_text 8 lat) (zero_is long (omega arith))
    ∙ ap (λ (v : ℤ). coordinate_text 9 (pos 0) ++ coordinate_text 8 v) (zero_is lat (omega arith))))
somewhere long lat columns e n (suc m) s = omega arith

-- a longitude and a latitude that aren't the text of an unused place
pub point_text_of : (long lat columns : List ℕ) → columns ≡ long ++ lat → IsCoordinateText 9 long → IsCoordinateText 8 lat
    → (columns ≡ point_place_text None → ⊥) → IsPointText columns
point_text_of long lat columns e l m n =
    let text = e ∙ ap (λ (t : List ℕ). t ++ lat) l.text ∙ ap (λ (t : List ℕ). coordinate_text 9 l.value ++ t) m.text in
    let long_fits = l.fits in
    let lat_fits = m.fits in
    let sum = somewhere l.value m.value columns text n _ refl in
    record {
      point = record { long = l.value; lat = m.value };
      on_map = record { long = omega arith; lat = omega arith; somewhere = sum };
      text = text;
    }

-- no point
pub no_point_of : (columns : List ℕ) → length columns ≡ 19 → list_all is_blank columns ≡ true → IsPointOrNoneText columns
no_point_of columns l b =
    record { point = None; on_map = tt; text = only_blanks columns b ∙ ap (λ (n : ℕ). replicate n 32) l }

-- a point is a point or none
pub some_point_of : (columns : List ℕ) → IsPointText columns → IsPointOrNoneText columns
some_point_of columns t = record { point = Some t.point; on_map = t.on_map; text = t.text }
