-- Open places that can move keys of chains: choices can have the keys in another order.
use Rattle.std.specs.Prelude.{Bool, List, not, ℕ, ◌+◌, ◌||◌}
use Rattle.std.specs.Cmp.Lexicographic.{slice_cmp}
use Rattle.std.specs.List.{list_any, range_with_len}
use Rattle.std.specs.Ordering.{is_eq}
use Rattle.std.specs.declared.cmp.Ordering.{Ordering}
use Rattle.county_chart.specs.declared.open_place.OpenPlace.{OpenPlace}
use Rattle.record_groups.specs.Groups.{group_at}

-- whether these aren't the same keys in the same order
abbrev pub are_other : {K : Type 0} → (K → K → Ordering) → List K → List K → Bool
are_other cmp keys others = not (is_eq (slice_cmp cmp keys others))

-- whether the chain this far behind a place has other keys than the one there
abbrev pub is_other : {K : Type 0} → (K → K → Ordering) → List (List K) → ℕ → ℕ → Bool
is_other cmp along place behind = are_other cmp (group_at along place) (group_at along (place + behind))

-- whether an open place can turn its chain, or moves one with other keys
abbrev pub moves_keys : {K : Type 0} → (K → K → Ordering) → List (List K) → OpenPlace → Bool
moves_keys cmp along at = at.either_way || list_any (is_other cmp along at.place) (range_with_len 0 at.alike)
