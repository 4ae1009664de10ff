-- A number field is read as the number that it spells, and the canonical text is among the spellings.
use Rattle.std.proofs.Common.{Bool, List, None, Some, [], ap, arith, cond, false, refl, suc, sym, true, unwrap_or, zero, ℕ, ◌*◌, ◌++◌, ◌+◌, ◌-◌, ◌∙◌, ◌∷◌, ◌≡◌, ◌≤◌}
use Rattle.std.proofs.lemmas.Bool.{and_from, and_parts, cond_both, eqb-true, leb-true, ne_eqb}
use Rattle.std.proofs.lemmas.List.{append-nil}
use Rattle.std.specs.List.{list_all}
use Rattle.tl_layout.specs.NumberField.{IsNumberField, is_blank, is_digit, value_after}
use Rattle.tl_layout.specs.NumberReading.{drop_blanks, number_after, number_of}
use Rattle.tl_layout.specs.Numbers.{none_if_zero}

-- no digit is a blank
pub digit_not_blank : (byte : ℕ) → is_digit byte ≡ true → is_blank byte ≡ false
digit_not_blank byte h = ne_eqb byte 32 (λ e. let low : 48 ≤ byte = leb-true 48 byte (and_parts _ _ h).0 in omega arith)

-- no blank is a digit
pub blank_not_digit : (byte : ℕ) → is_blank byte ≡ true → is_digit byte ≡ false
blank_not_digit byte h = let e : byte ≡ 32 = eqb-true byte 32 h in rw e refl

-- digits that continue the digits of n, followed only by blanks
pub record IsNumberRest (n : ℕ) (bytes : List ℕ) (value : ℕ) : Type 0 where
  pub digits : List ℕ
  pub after : List ℕ
  pub spelled : bytes ≡ digits ++ after
  pub all_digits : list_all is_digit digits ≡ true
  pub blanks_after : list_all is_blank after ≡ true
  pub value_is : value ≡ value_after n digits

rest_with : (n byte : ℕ) (bytes : List ℕ) (value : ℕ) → is_digit byte ≡ true → IsNumberRest (10 * n + (byte - 48)) bytes value
    → IsNumberRest n (byte ∷ bytes) value
rest_with n byte bytes value e r =
    record {
      digits = byte ∷ r.digits;
      after = r.after;
      spelled = ap (λ (l : List ℕ). byte ∷ l) r.spelled;
      all_digits =
          and_from _ _ e r.all_digits;
      blanks_after = r.blanks_after;
      value_is = r.value_is;
    }

no_digits : (n : ℕ) (bytes : List ℕ) (value : ℕ) → cond (list_all is_blank bytes) (Some n) None ≡ Some value → IsNumberRest n bytes value
no_digits n bytes value =
    cond_both (list_all is_blank bytes) (Some n) None (λ o. o ≡ Some value → IsNumberRest n bytes value)
    (λ e h. record { digits = []; after = bytes; spelled = refl; all_digits = refl; blanks_after = e; value_is = (cc) }) (λ e h. (cc))

pub number_after_found : (n : ℕ) (bytes : List ℕ) (value : ℕ) → number_after n bytes ≡ Some value → IsNumberRest n bytes value
unfolding number_after
number_after_found n [] value h =
    record { digits = []; after = []; spelled = refl; all_digits = refl; blanks_after = refl; value_is = (cc) }
number_after_found n (byte ∷ bytes) value h =
    cond_both (is_digit byte) _ _ (λ o. o ≡ Some value → IsNumberRest n (byte ∷ bytes) value)
    (λ e h. rest_with n byte bytes value e (number_after_found (10 * n + (byte - 48)) bytes value h))
    (λ e. no_digits n (byte ∷ bytes) value) h

no_more : (n : ℕ) (after : List ℕ) → list_all is_blank after ≡ true → number_after n after ≡ Some n
unfolding number_after
no_more n [] h = refl
no_more n (byte ∷ after) h = rw (blank_not_digit byte (and_parts (is_blank byte) _ h).0, h) refl

pub number_after_only : (n : ℕ) (digits after : List ℕ) → list_all is_digit digits ≡ true → list_all is_blank after ≡ true
    → number_after n (digits ++ after) ≡ Some (value_after n digits)
unfolding number_after
number_after_only n [] after d a = no_more n after a
number_after_only n (byte ∷ digits) after d a =
    let parts = and_parts (is_digit byte) (list_all is_digit digits) d in
    rw parts.0 (number_after_only (10 * n + (byte - 48)) digits after parts.1 a)

-- the leading blanks, and the rest of the field
pub record SplitsBlanks (field : List ℕ) : Type 0 where
  pub before : List ℕ
  pub spelled : field ≡ before ++ drop_blanks field
  pub blanks_before : list_all is_blank before ≡ true

blanks_with : (byte : ℕ) (bytes : List ℕ) (b : Bool) → is_blank byte ≡ b → SplitsBlanks bytes → SplitsBlanks (byte ∷ bytes)
blanks_with byte bytes true e r =
    record {
      before = byte ∷ r.before;
      spelled = rw e (ap (λ (l : List ℕ). byte ∷ l) r.spelled);
      blanks_before =
          and_from _ _ e r.blanks_before;
    }
blanks_with byte bytes false e r = record { before = []; spelled = rw e refl; blanks_before = refl }

pub splits_blanks : (field : List ℕ) → SplitsBlanks field
splits_blanks [] = record { before = []; spelled = refl; blanks_before = refl }
splits_blanks (byte ∷ bytes) = blanks_with byte bytes (is_blank byte) refl (splits_blanks bytes)

pub drop_blanks-append : (before rest : List ℕ) → list_all is_blank before ≡ true → drop_blanks (before ++ rest) ≡ drop_blanks rest
drop_blanks-append [] rest h = refl
drop_blanks-append (byte ∷ before) rest h =
    let parts = and_parts (is_blank byte) (list_all is_blank before) h in
    rw parts.0 (drop_blanks-append before rest parts.1)

pub drop_blanks-blanks : (bytes : List ℕ) → list_all is_blank bytes ≡ true → drop_blanks bytes ≡ []
drop_blanks-blanks bytes h = ap drop_blanks (sym (append-nil bytes)) ∙ drop_blanks-append bytes [] h

-- if a number is read, the field spells it
pub number_found : (field : List ℕ) (n : ℕ) → number_of field ≡ Some n → IsNumberField field n
unfolding number_of
number_found field n h =
    let s = splits_blanks field in
    let r = number_after_found 0 (drop_blanks field) n h in
    record {
      before = s.before;
      digits = r.digits;
      after = r.after;
      spelled = s.spelled
          ∙ ap (λ (l : List ℕ). s.before ++ l) r.spelled;
      blanks_before = s.blanks_before;
      all_digits = r.all_digits;
      blanks_after =
          r.blanks_after;
      value = r.value_is;
    }

behind_blanks : (digits after : List ℕ) → list_all is_digit digits ≡ true → list_all is_blank after ≡ true
    → number_after 0 (drop_blanks (digits ++ after)) ≡ Some (value_after 0 digits)
unfolding number_after
behind_blanks [] after d a = rw (drop_blanks-blanks after a) refl
behind_blanks (byte ∷ digits) after d a =
    rw (digit_not_blank byte (and_parts (is_digit byte) (list_all is_digit digits) d).0) (number_after_only 0 (byte ∷ digits) after d a)

-- if the field spells a number, that number is read
pub number_only : (field : List ℕ) (n : ℕ) → IsNumberField field n → number_of field ≡ Some n
unfolding number_of
number_only field n h =
    ap (λ l. number_after 0 (drop_blanks l)) h.spelled
    ∙ ap (number_after 0) (drop_blanks-append h.before (h.digits ++ h.after) h.blanks_before)
    ∙ behind_blanks h.digits h.after h.all_digits h.blanks_after ∙ ap Some (sym h.value)

-- storing none as 0 loses nothing
pub none_if_zero_again : (n : ℕ) → unwrap_or (none_if_zero n) 0 ≡ n
none_if_zero_again zero = refl
none_if_zero_again (suc n) = refl
