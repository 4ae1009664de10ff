-- Choices as numbers: elements with the same key can have any order, and some keys can be turned.
use Rattle.std.specs.Prelude.{Bool, List, [], cond, drop, map, suc, take, zero, ℕ, ◌%◌, ◌++◌, ◌/◌, ◌∷◌}
use Rattle.std.specs.List.{insert}
use Rattle.std.specs.declared.cmp.Ordering.{Ordering}
use Rattle.ordered_lists.specs.Orders.{times}
use Rattle.county_chart.specs.declared.open_place.OpenPlace.{OpenPlace}

-- the element itself for the digit 0, and turned for any other
abbrev pub turned_by : {X : Type 0} → (X → X) → ℕ → X → X
turned_by turn zero x = x
turned_by turn (suc digit) x = turn x

-- Inserts an element among later ones by the last two digits of a number. The last digit is below `alike`: that many of the
-- later ones come before the element. The next digit is below `ways` and selects the element's direction. The rest of the
-- number is returned with the list.
abbrev pub stood : {X : Type 0} → (X → X) → ℕ → ℕ → X → List X × ℕ → List X × ℕ
stood turn alike ways x later = (insert later.0 (later.1 % alike) (turned_by turn (later.1 / alike % ways) x), later.1 / alike / ways)

-- The elements, from the last to the first, placed among the later ones by the digits of a number: each moves behind some later ones with
-- its key, and may be turned if its key can run either way.
abbrev pub chosen : {X K : Type 0} → (K → K → Ordering) → (K → Bool) → (X → K) → (X → X) → List X → ℕ → List X × ℕ
chosen cmp either key turn [] n = ([], n)
chosen cmp either key turn (x ∷ xs) n =
    stood turn (suc (times cmp (key x) (map key xs))) (cond (either (key x)) 2 1) x (chosen cmp either key turn xs n)

-- the first element, inserted among the others as an open place allows
abbrev pub first_stood : {X : Type 0} → (X → X) → OpenPlace → List X → ℕ → List X × ℕ
first_stood turn at [] n = ([], n)
first_stood turn at (x ∷ xs) n = stood turn at.alike (cond at.either_way 2 1) x (xs, n)

-- the element at an open place, inserted among those after it
abbrev pub moved_at : {X : Type 0} → (X → X) → OpenPlace → List X × ℕ → List X × ℕ
moved_at turn at state = (
  take at.place state.0 ++ (first_stood turn at (drop at.place state.0) state.1).0,
  (first_stood turn at (drop at.place state.0) state.1).1,
)

-- the elements at open places, inserted among those after them, from the last place to the first
abbrev pub moved : {X : Type 0} → (X → X) → List OpenPlace → List X × ℕ → List X × ℕ
moved turn [] state = state
moved turn (at ∷ places) state = moved_at turn at (moved turn places state)
