-- Coordinates: blanks, at most one sign, digits, blanks.
use Rattle.std.specs.Prelude.{List, [], negsuc, pos, suc, true, zero, ℕ, ℤ, ◌++◌, ◌∷◌, ◌≡◌, ◌≤◌}
use Rattle.std.specs.List.{list_all}
use Rattle.tl_layout.specs.NumberField.{is_blank, is_digit, value_after}

-- minus n
abbrev pub negated : ℕ → ℤ
negated zero = pos 0
negated (suc n) = negsuc n

-- the coordinate that a sign, or no sign, makes from a magnitude
pub data IsSigned : List ℕ → ℕ → ℤ → Type 0 where
  unsigned : (n : ℕ) → IsSigned [] n (pos n)
  plus : (n : ℕ) → IsSigned (43 ∷ []) n (pos n)
  minus : (n : ℕ) → IsSigned (45 ∷ []) n (negated n)

-- The field spells the coordinate: blanks, at most one sign, one or more digits that make a magnitude within the
-- limit, blanks.
pub record IsCoordinateField (limit : ℕ) (field : List ℕ) (value : ℤ) : Type 0 where
  pub before : List ℕ
  pub sign : List ℕ
  pub first : ℕ
  pub digits : List ℕ
  pub after : List ℕ
  pub spelled : field ≡ before ++ (sign ++ (first ∷ digits ++ after))
  pub blanks_before : list_all is_blank before ≡ true
  pub all_digits : list_all is_digit (first ∷ digits) ≡ true
  pub blanks_after : list_all is_blank after ≡ true
  pub signed : IsSigned sign (value_after 0 (first ∷ digits)) value
  pub within : value_after 0 (first ∷ digits) ≤ limit

-- a field of only blanks
abbrev pub IsBlankField : List ℕ → Type 0
IsBlankField field = list_all is_blank field ≡ true
