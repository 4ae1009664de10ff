-- Lists that are stored one after the other in one list, and the ranges that cut them out.
use Rattle.std.specs.Prelude.{List, map, slice_range, ℕ, ◌≤◌}
use Rattle.std.specs.List.{AllByRecursion}

-- the piece of the list for each range, from its first place up to its second
abbrev pub pieces_in : {X : Type 0} → List X → List (ℕ × ℕ) → List (List X)
pieces_in xs ranges = map (λ range. slice_range xs range.0 range.1) ranges

-- each range is within a list of that length
abbrev pub AreWithin : ℕ → List (ℕ × ℕ) → Type 0
AreWithin length ranges = AllByRecursion (λ range. (range.0 ≤ range.1) × (range.1 ≤ length)) ranges
