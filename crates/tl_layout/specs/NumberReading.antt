-- How a number field is read.
use Rattle.std.specs.Prelude.{List, None, Option, Some, [], if◌then◌else◌, ℕ, ◌*◌, ◌+◌, ◌-◌, ◌∷◌}
use Rattle.std.specs.List.{list_all}
use Rattle.tl_layout.specs.NumberField.{is_blank, is_digit}

-- the field without its leading blanks
abbrev pub drop_blanks : List ℕ → List ℕ
drop_blanks [] = []
drop_blanks (byte ∷ bytes) = if is_blank byte then drop_blanks bytes else byte ∷ bytes

-- the number whose first digits make n and whose further digits are these, if only blanks follow them
unfoldable pub number_after : ℕ → List ℕ → Option ℕ
number_after n [] = Some n
number_after n (byte ∷ bytes) =
    if is_digit byte then number_after (10 * n + (byte - 48)) bytes else (if list_all is_blank (byte ∷ bytes) then Some n else None)

-- the number that a field spells: 0 for none, and no result for a malformed field
unfoldable pub number_of : List ℕ → Option ℕ
number_of field = number_after 0 (drop_blanks field)
