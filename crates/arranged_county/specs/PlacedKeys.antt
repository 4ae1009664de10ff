-- How keys in a list are found: by marks in slots, or by a table of the other keys.
use Rattle.std.specs.Option.{option_or}
use Rattle.std.specs.Prelude.{List, Option, Some, slice_get, slice_index, ℕ, ◌+◌, ◌≡◌, ◌⊎◌}

-- no key is at two places
abbrev pub AreApart : {K : Type 0} → List K → Type 0
AreApart {K} keys = (first second : ℕ) (key : K) → slice_get keys first ≡ Some key → slice_get keys second ≡ Some key → first ≡ second

-- the place of each key is in the mark in its slot, counted from 1, or in the table of the other keys
abbrev pub ArePlaced : {K : Type 0} → (K → ℕ) → (K → Option ℕ) → List ℕ → List K → Type 0
ArePlaced {K} slot others marks keys =
    (place : ℕ) (key : K) → slice_get keys place ≡ Some key → (slice_index marks (slot key) ≡ place + 1) ⊎ (others key ≡ Some place)

-- the first table's place of a key, or the second table's if the first has none
abbrev pub found_by_either : {K : Type 0} → (K → Option ℕ) → (K → Option ℕ) → K → Option ℕ
found_by_either first second key = option_or (first key) (second key)
