-- The first of the faults of a value, in the order of their places.
use Rattle.std.specs.Prelude.{Bool, List, false, true, ℕ, ◌≡◌}
use Rattle.std.specs.Cmp.Lexicographic.{slice_cmp}
use Rattle.std.specs.Ordering.{is_gt, nat_cmp}
use Rattle.std.specs.declared.cmp.Ordering.{Ordering}

-- places, compared by their first difference
abbrev pub place_cmp : List (List ℕ) → List (List ℕ) → Ordering
place_cmp = slice_cmp (slice_cmp nat_cmp)

-- the fault is present, and no fault that is present has a lesser place
pub record IsFirst {F : Type 0} (is_there : F → Bool) (place : F → List (List ℕ)) (fault : F) : Type 0 where
  pub there : is_there fault ≡ true
  pub least : (other : F) → is_there other ≡ true → is_gt (place_cmp (place fault) (place other)) ≡ false
