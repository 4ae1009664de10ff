-- A coordinate that is only a sign and digits.
use Rattle.tl_layout.proofs.Common.{IfSome, List, None, Option, Some, Value, [], ap, arith, chunk, get_or, inl, inr, le-leb, length, minus_of, number_after, plus_of, refl, sym, take_all, true, ℕ, ℤ, ◌∙◌, ◌∷◌, ◌≡◌, ◌≤◌, ◌⊎◌}
use Rattle.tl_layout.specs.NumberField.{is_digit}
use Rattle.tl_layout.specs.CoordinateReading.{coordinate_of, magnitude_of, signed_of}

-- a number that begins with a digit and is within the limit is a magnitude
magnitude_is : (limit m : ℕ) (text : List ℕ) → is_digit (get_or text 0 0) ≡ true → number_after 0 text ≡ Some m → m ≤ limit
    → magnitude_of limit text ≡ Some m
unfolding magnitude_of
magnitude_is limit m [] d n h = (cc)
magnitude_is limit m (first ∷ rest) d n h = rw (d, n, le-leb m limit h) refl

-- the coordinate of a sign and a magnitude
signed_is : (limit m sign : ℕ) (text : List ℕ) (value : ℤ) → is_digit (get_or text 0 0) ≡ true → number_after 0 text ≡ Some m → m ≤ limit
    → (sign ≡ 43 → Value value ≡ plus_of (Some m)) → (sign ≡ 45 → Value value ≡ minus_of (Some m)) → (sign ≡ 43) ⊎ (sign ≡ 45)
    → coordinate_of limit (sign ∷ text) ≡ Value value
unfolding coordinate_of signed_of
signed_is limit m sign text value d n h plus minus (inl e) = rw e (ap plus_of (magnitude_is limit m text d n h) ∙ sym (plus e))
signed_is limit m sign text value d n h plus minus (inr e) = rw e (ap minus_of (magnitude_is limit m text d n h) ∙ sym (minus e))

-- the same for the coordinate that was found, if one was
pub found_is : (limit m sign : ℕ) (text field : List ℕ) (found : Option ℤ) → field ≡ sign ∷ text → is_digit (get_or text 0 0) ≡ true
    → number_after 0 text ≡ Some m → m ≤ limit → IfSome found (λ value. sign ≡ 43 → Value value ≡ plus_of (Some m))
    → IfSome found (λ value. sign ≡ 45 → Value value ≡ minus_of (Some m)) → IfSome found (λ _. (sign ≡ 43) ⊎ (sign ≡ 45))
    → IfSome found (λ value. coordinate_of limit field ≡ Value value)
found_is limit m sign text field None is d n h plus minus reported = tt
found_is limit m sign text field (Some value) is d n h plus minus reported =
    ap (coordinate_of limit) is ∙ signed_is limit m sign text value d n h plus minus reported

-- a field is its first byte and the bytes after it
pub first_and_eight : (field : List ℕ) → length field ≡ 9 → field ≡ get_or field 0 0 ∷ chunk 1 8 field
first_and_eight [] l = absurd (omega arith)
first_and_eight (x ∷ xs) l = ap (λ (rest : List ℕ). x ∷ rest) (sym (take_all 8 xs (omega arith)))

pub two_and_eight : (field : List ℕ) → length field ≡ 10 → field ≡ get_or field 0 0 ∷ get_or field 1 0 ∷ chunk 2 8 field
two_and_eight [] l = absurd (omega arith)
two_and_eight (x ∷ []) l = absurd (omega arith)
two_and_eight (x ∷ y ∷ xs) l = ap (λ (rest : List ℕ). x ∷ y ∷ rest) (sym (take_all 8 xs (omega arith)))
