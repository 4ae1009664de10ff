-- Number fields: blanks, digits, blanks. Each of the three can be empty.
use Rattle.std.specs.Prelude.{Bool, List, [], nat_le, true, ℕ, ◌&&◌, ◌*◌, ◌++◌, ◌+◌, ◌-◌, ◌==◌, ◌∷◌, ◌≡◌}
use Rattle.std.specs.List.{list_all}

-- a blank, the byte 0x20
abbrev pub is_blank : ℕ → Bool
is_blank byte = byte == 32

-- a digit, from the byte 0x30 to the byte 0x39
abbrev pub is_digit : ℕ → Bool
is_digit byte = nat_le 48 byte && nat_le byte 57

-- the number that digits make when they follow the digits of n: for no digits at all, from 0 on, that is 0
abbrev pub value_after : ℕ → List ℕ → ℕ
value_after n [] = n
value_after n (digit ∷ digits) = value_after (10 * n + (digit - 48)) digits

-- The field spells the number, or 0 if it has none: blanks, the digits that make the number, blanks.
pub record IsNumberField (field : List ℕ) (n : ℕ) : Type 0 where
  pub before : List ℕ
  pub digits : List ℕ
  pub after : List ℕ
  pub spelled : field ≡ before ++ (digits ++ after)
  pub blanks_before : list_all is_blank before ≡ true
  pub all_digits : list_all is_digit digits ≡ true
  pub blanks_after : list_all is_blank after ≡ true
  pub value : n ≡ value_after 0 digits
