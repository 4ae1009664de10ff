-- A coordinate's field is read as the value that it spells, and the canonical text is among the spellings.
use Rattle.std.proofs.Common.{IsTrue, List, None, Option, Some, [], ap, arith, length, nat_eq, nat_le, negsuc, pos, refl, subst, suc, sym, true, unsigned_abs, zero, ℕ, ℤ, ◌%◌, ◌*◌, ◌++◌, ◌+◌, ◌-◌, ◌/◌, ◌<◌, ◌^◌, ◌∙◌, ◌∷◌, ◌≡◌, ◌≤◌}
use Rattle.std.proofs.lemmas.Bool.{and_from, and_parts, cond_both, eqb-true, le-leb, leb-true, ne_eqb}
use Rattle.std.proofs.lemmas.List.Elements.{All-cons, All-nil, All-push}
use Rattle.std.proofs.lemmas.List.{append-nil, length_push}
use Rattle.std.specs.List.{list_all}
use Rattle.tl_layout.specs.Laws.NumberLaws.{digit_not_blank, drop_blanks-append, drop_blanks-blanks, number_after_found, number_after_only, splits_blanks}
use Rattle.tl_layout.specs.Laws.NumberTextLaws.{digit_allowed, digits_push, last_is_digit, tenth_below, value_after-push}
use Rattle.tl_layout.specs.CoordinateField.{IsBlankField, IsCoordinateField, IsSigned, minus, negated, plus, unsigned}
use Rattle.tl_layout.specs.CoordinateReading.{coordinate_of, made_of, magnitude_of, minus_of, plus_of, signed_of, within}
use Rattle.tl_layout.specs.Bytes.{AreAllowed, IsText, is_allowed}
use Rattle.tl_layout.specs.FieldTexts.{coordinate_text, digits_text, sign_of}
use Rattle.tl_layout.specs.NumberField.{is_blank, is_digit, value_after}
use Rattle.tl_layout.specs.NumberReading.{drop_blanks, number_after}
use Rattle.tl_layout.specs.declared.coordinate.Coordinate.{Coordinate}
use Rattle.tl_layout.specs.declared.coordinate.Coordinate.TheVariants.{Blank, Value}

-- one or more digits within the limit, followed only by blanks
pub record IsMagnitude (limit : ℕ) (bytes : List ℕ) (n : ℕ) : Type 0 where
  pub first : ℕ
  pub digits : List ℕ
  pub after : List ℕ
  pub spelled : bytes ≡ first ∷ digits ++ after
  pub all_digits : list_all is_digit (first ∷ digits) ≡ true
  pub blanks_after : list_all is_blank after ≡ true
  pub value : n ≡ value_after 0 (first ∷ digits)
  pub within_limit : n ≤ limit

within_found : (limit n : ℕ) (read : Option ℕ) → within limit read ≡ Some n → (read ≡ Some n) × (n ≤ limit)
within_found limit n None h = (cc)
within_found limit n (Some v) h =
    cond_both (nat_le v limit) (Some v) None (λ o. o ≡ Some n → (Some v ≡ Some n) × (n ≤ limit))
    (λ e h. let same : v ≡ n = (cc) in (h, let below : v ≤ limit = leb-true v limit e in omega arith)) (λ e h. (cc)) h

pub magnitude_found : (limit : ℕ) (bytes : List ℕ) (n : ℕ) → magnitude_of limit bytes ≡ Some n → IsMagnitude limit bytes n
unfolding magnitude_of number_after
magnitude_found limit [] n h = (cc)
magnitude_found limit (byte ∷ bytes) n h =
    cond_both (is_digit byte) (within limit (number_after 0 (byte ∷ bytes))) None (λ o. o ≡ Some n → IsMagnitude limit (byte ∷ bytes) n)
    (λ e h. let w = within_found limit n (number_after 0 (byte ∷ bytes)) h in
    let r = number_after_found (10 * 0 + (byte - 48)) bytes n (rw e at w.0) in
    record {
      first = byte;
      digits = r.digits;
      after = r.after;
      spelled = ap (λ (l : List ℕ). byte ∷ l) r.spelled;
      all_digits = and_from _ _ e r.all_digits;
      blanks_after = r.blanks_after;
      value = r.value_is;
      within_limit = w.1;
    }) (λ e h. (cc)) h

pub magnitude_only : (limit : ℕ) (first : ℕ) (digits after : List ℕ) → list_all is_digit (first ∷ digits) ≡ true
    → list_all is_blank after ≡ true → value_after 0 (first ∷ digits) ≤ limit
    → magnitude_of limit (first ∷ digits ++ after) ≡ Some (value_after 0 (first ∷ digits))
unfolding magnitude_of
magnitude_only limit first digits after d a w =
    rw (and_parts (is_digit first) (list_all is_digit digits) d).0 (ap (within limit) (number_after_only 0 (first ∷ digits) after d a)
    ∙ rw (le-leb _ _ w) refl)

-- blanks, a sign and a magnitude make a coordinate
with_sign : (limit : ℕ) (field sign bytes : List ℕ) (n : ℕ) (value : ℤ) → drop_blanks field ≡ sign ++ bytes → IsMagnitude limit bytes n
    → IsSigned sign n value → IsCoordinateField limit field value
with_sign limit field sign bytes n value e m s =
    let b = splits_blanks field in
    record {
      before = b.before;
      sign = sign;
      first = m.first;
      digits = m.digits;
      after = m.after;
      spelled = b.spelled ∙ ap (λ (l : List ℕ). b.before ++ l) (e ∙ ap (λ (l : List ℕ). sign ++ l) m.spelled);
      blanks_before = b.blanks_before;
      all_digits = m.all_digits;
      blanks_after = m.blanks_after;
      signed = (let P : ℕ → Type 0 = λ v. IsSigned sign v value in subst P m.value s);
      within = (let P : ℕ → Type 0 = λ v. v ≤ limit in subst P m.value m.within_limit);
    }

made_found : (limit : ℕ) (field sign bytes : List ℕ) (value : ℤ) (make : ℕ → ℤ) (read : Option ℕ) → magnitude_of limit bytes ≡ read
    → drop_blanks field ≡ sign ++ bytes → ((n : ℕ) → IsSigned sign n (make n)) → made_of make read ≡ Value value
    → IsCoordinateField limit field value
made_found limit field sign bytes value make None r e s h = (cc)
made_found limit field sign bytes value make (Some n) r e s h =
    let same : make n ≡ value = (cc) in
    subst (IsCoordinateField limit field) same (with_sign limit field sign bytes n (make n) e (magnitude_found limit bytes n r) (s n))

-- what is made of bytes has any property that it has with a plus, with a minus and with no sign
signed_cases : (limit byte : ℕ) (bytes : List ℕ) (P : Coordinate → Type 0) → (byte ≡ 43 → P (plus_of (magnitude_of limit bytes)))
    → (byte ≡ 45 → P (minus_of (magnitude_of limit bytes))) → P (plus_of (magnitude_of limit (byte ∷ bytes)))
    → P (signed_of limit (byte ∷ bytes))
unfolding signed_of
signed_cases limit byte bytes P with_plus with_minus with_none =
    cond_both (nat_eq byte 43) _ _ P (λ e. with_plus (eqb-true byte 43 e))
    (λ _. cond_both (nat_eq byte 45) _ _ P (λ e. with_minus (eqb-true byte 45 e)) (λ _. with_none))

signed_found : (limit : ℕ) (field rest : List ℕ) (value : ℤ) → drop_blanks field ≡ rest → signed_of limit rest ≡ Value value
    → IsCoordinateField limit field value
unfolding signed_of
signed_found limit field [] value d h = (cc)
signed_found limit field (byte ∷ bytes) value d h =
    signed_cases limit byte bytes (λ c. c ≡ Value value → IsCoordinateField limit field value)
    (λ e. made_found limit field (43 ∷ []) bytes value pos (magnitude_of limit bytes) refl (d ∙ ap (λ b. b ∷ bytes) e) plus)
    (λ e. made_found limit field (45 ∷ []) bytes value negated (magnitude_of limit bytes) refl (d ∙ ap (λ b. b ∷ bytes) e) minus)
    (made_found limit field [] (byte ∷ bytes) value pos (magnitude_of limit (byte ∷ bytes)) refl d unsigned) h

-- if a value is read, the field spells it
pub coordinate_found : (limit : ℕ) (field : List ℕ) (value : ℤ) → coordinate_of limit field ≡ Value value
    → IsCoordinateField limit field value
unfolding coordinate_of
coordinate_found limit field value h = signed_found limit field (drop_blanks field) value refl h

made_not_blank : (make : ℕ → ℤ) (read : Option ℕ) → made_of make read ≡ Blank → ⊥
made_not_blank make None h = (cc)
made_not_blank make (Some n) h = (cc)

blank_from_rest : (limit : ℕ) (field rest : List ℕ) → drop_blanks field ≡ rest → signed_of limit rest ≡ Blank
    → list_all is_blank field ≡ true
unfolding signed_of
blank_from_rest limit field [] d h =
    let b = splits_blanks field in
    ap (list_all is_blank) (b.spelled ∙ ap (λ (l : List ℕ). b.before ++ l) d ∙ append-nil b.before) ∙ b.blanks_before
blank_from_rest limit field (byte ∷ bytes) d h =
    absurd (signed_cases limit byte bytes (λ c. c ≡ Blank → ⊥) (λ _. made_not_blank pos (magnitude_of limit bytes))
    (λ _. made_not_blank negated (magnitude_of limit bytes)) (made_not_blank pos (magnitude_of limit (byte ∷ bytes))) h)

-- only a blank field is read as blank
pub blank_found : (limit : ℕ) (field : List ℕ) → coordinate_of limit field ≡ Blank → IsBlankField field
unfolding coordinate_of
blank_found limit field h = blank_from_rest limit field (drop_blanks field) refl h

-- a blank field is read as blank
pub blank_only : (limit : ℕ) (field : List ℕ) → IsBlankField field → coordinate_of limit field ≡ Blank
unfolding coordinate_of signed_of
blank_only limit field h = rw (drop_blanks-blanks field h) refl

digit_above : (byte : ℕ) → is_digit byte ≡ true → 48 ≤ byte
digit_above byte h = leb-true 48 byte (and_parts _ _ h).0

signed_only : (limit : ℕ) (sign : List ℕ) (first : ℕ) (rest : List ℕ) (n : ℕ) (value : ℤ) → is_digit first ≡ true → IsSigned sign n value
    → magnitude_of limit (first ∷ rest) ≡ Some n → signed_of limit (drop_blanks (sign ++ (first ∷ rest))) ≡ Value value
unfolding signed_of
signed_only limit _ first rest _ _ d (unsigned n) h =
    let above = digit_above first d in
    rw (digit_not_blank first d, ne_eqb first 43 (λ e. omega arith), ne_eqb first 45 (λ e. omega arith), h) refl
signed_only limit _ first rest _ _ d (plus n) h = rw h refl
signed_only limit _ first rest _ _ d (minus n) h = rw h refl

-- if the field spells a value, that value is read
pub coordinate_only : (limit : ℕ) (field : List ℕ) (value : ℤ) → IsCoordinateField limit field value
    → coordinate_of limit field ≡ Value value
unfolding coordinate_of
coordinate_only limit field value h =
    ap (λ l. signed_of limit (drop_blanks l)) h.spelled
    ∙ ap (signed_of limit) (drop_blanks-append h.before (h.sign ++ (h.first ∷ h.digits ++ h.after)) h.blanks_before)
    ∙ signed_only limit h.sign h.first (h.digits ++ h.after) _ value
    (and_parts (is_digit h.first) (list_all is_digit h.digits) h.all_digits).0 h.signed
    (magnitude_only limit h.first h.digits h.after h.all_digits h.blanks_after h.within)

abs_of_negated : (n : ℕ) → unsigned_abs (negated n) ≡ n
abs_of_negated zero = refl
abs_of_negated (suc n) = refl

abs_of_signed : (sign : List ℕ) (n : ℕ) (value : ℤ) → IsSigned sign n value → unsigned_abs value ≡ n
abs_of_signed _ _ _ (unsigned n) = refl
abs_of_signed _ _ _ (plus n) = refl
abs_of_signed _ _ _ (minus n) = abs_of_negated n

-- a spelled coordinate is within the limit
pub coordinate_within : (limit : ℕ) (field : List ℕ) (value : ℤ) → IsCoordinateField limit field value → unsigned_abs value ≤ limit
coordinate_within limit field value h = let e = abs_of_signed h.sign _ value h.signed in let w = h.within in rw e w

pub length-digits_text : (width n : ℕ) → length (digits_text width n) ≡ width
unfolding digits_text
length-digits_text zero n = refl
length-digits_text (suc width) n = let l = length-digits_text width (n / 10) in let m =
    length_push (digits_text width (n / 10)) (48 + n % 10) in omega arith

digits_text_allowed : (width n : ℕ) → AreAllowed (digits_text width n)
unfolding AreAllowed digits_text
digits_text_allowed zero n = All-nil (λ b. IsTrue (is_allowed b))
digits_text_allowed (suc width) n = All-push (λ b. IsTrue (is_allowed b)) _ _ (digits_text_allowed width (n / 10)) (digit_allowed n)

digits_text_digits : (width n : ℕ) → list_all is_digit (digits_text width n) ≡ true
unfolding digits_text
digits_text_digits zero n = refl
digits_text_digits (suc width) n =
    digits_push (digits_text width (n / 10)) (48 + n % 10) (digits_text_digits width (n / 10)) (last_is_digit n)

digits_text_value : (width n : ℕ) → n < 10 ^ width → value_after 0 (digits_text width n) ≡ n
unfolding digits_text
digits_text_value zero n h = omega arith
digits_text_value (suc width) n h =
    let v = digits_text_value width (n / 10) (tenth_below width n h) in
    let m = value_after-push 0 (digits_text width (n / 10)) (48 + n % 10) in
    omega arith

sign_allowed : (value : ℤ) → is_allowed (sign_of value) ≡ true
sign_allowed (pos n) = refl
sign_allowed (negsuc n) = refl

-- the canonical text is a sign and that many digits, all of them allowed bytes
pub coordinate_text_is_text : (width : ℕ) (value : ℤ) → IsText (suc width) (coordinate_text width value)
unfolding coordinate_text AreAllowed
coordinate_text_is_text width value =
    record {
      len = ap suc (length-digits_text width (unsigned_abs value));
      allowed = All-cons (λ b. IsTrue (is_allowed b)) (sign_of value) (digits_text width (unsigned_abs value)) (sign_allowed value)
          (digits_text_allowed width (unsigned_abs value));
    }

sign_is_signed : (value : ℤ) → IsSigned (sign_of value ∷ []) (unsigned_abs value) value
sign_is_signed (pos n) = plus n
sign_is_signed (negsuc n) = minus (suc n)

text_spells : (limit : ℕ) (text : List ℕ) (value : ℤ) → list_all is_digit text ≡ true → 0 < length text
    → value_after 0 text ≡ unsigned_abs value → unsigned_abs value ≤ limit → IsCoordinateField limit (sign_of value ∷ text) value
text_spells limit [] value d l v w = absurd (omega arith)
text_spells limit (first ∷ digits) value d l v w =
    record {
      before = [];
      sign = sign_of value ∷ [];
      first = first;
      digits = digits;
      after = [];
      spelled = ap (λ (l : List ℕ). sign_of value ∷ first ∷ l) (sym (append-nil digits));
      blanks_before = refl;
      all_digits = d;
      blanks_after = refl;
      signed = (let P : ℕ → Type 0 = λ n. IsSigned (sign_of value ∷ []) n value in subst P (sym v) (sign_is_signed value));
      within = rw v w;
    }

-- the canonical text spells the coordinate
pub coordinate_text_spells : (width limit : ℕ) (value : ℤ) → 0 < width → limit < 10 ^ width → unsigned_abs value ≤ limit
    → IsCoordinateField limit (coordinate_text width value) value
unfolding coordinate_text
coordinate_text_spells width limit value wide most h =
    text_spells limit (digits_text width (unsigned_abs value)) value (digits_text_digits width (unsigned_abs value)) (let l =
    length-digits_text width (unsigned_abs value) in omega arith) (digits_text_value width (unsigned_abs value) (omega arith)) h

-- a coordinate that is read is within the limit
pub coordinate_read_within : (limit : ℕ) (field : List ℕ) (value : ℤ) → coordinate_of limit field ≡ Value value → unsigned_abs value ≤ limit
coordinate_read_within limit field value h = coordinate_within limit field value (coordinate_found limit field value h)
