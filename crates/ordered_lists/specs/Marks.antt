-- Marks by number.
use Rattle.std.specs.Prelude.{Bool, List, Some, length, slice_get, ℕ, ◌<◌, ◌≡◌}
use Rattle.std.specs.Ordering.{nat_cmp}
use Rattle.ordered_lists.specs.Orders.{contains}

-- each number that has a place in the marks is marked exactly if it is in the list
abbrev pub AreMarksOf : List ℕ → List Bool → Type 0
AreMarksOf numbers marks = (number : ℕ) → number < length marks → slice_get marks number ≡ Some (contains nat_cmp number numbers)
