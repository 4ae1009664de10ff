-- New keys at a place: it has a wanted key, and no fixed place before has it.
use Rattle.std.specs.Prelude.{Bool, List, filter, map, not, ℕ, ◌&&◌}
use Rattle.std.specs.List.{list_any, range_with_len}
use Rattle.std.specs.declared.cmp.Ordering.{Ordering}
use Rattle.ordered_lists.specs.Orders.{contains}
use Rattle.county_chart.specs.declared.open_place.OpenPlace.{OpenPlace}
use Rattle.canonical_form.specs.Growth.{first_seen}
use Rattle.record_groups.specs.Groups.{group_at, grouped}
use Rattle.tl_number.specs.KeysAlong.{is_open}

-- the keys at the fixed ones of the first places
abbrev pub fixed_keys : {K : Type 0} → List OpenPlace → List (List K) → ℕ → List K
fixed_keys places along count = grouped (map (group_at along) (filter (λ place. not (is_open places place)) (range_with_len 0 count)))

-- whether one of the keys is wanted, and isn't among the earlier ones
abbrev pub has_new : {K : Type 0} → (K → K → Ordering) → List K → List K → List K → Bool
has_new cmp wanted earlier keys = list_any (λ key. contains cmp key wanted && not (contains cmp key earlier)) keys

-- whether a place has a wanted key that no fixed place before it has
abbrev pub has_new_at : {K : Type 0} → (K → K → Ordering) → List OpenPlace → List K → List (List K) → ℕ → Bool
has_new_at cmp places wanted along place = has_new cmp wanted (fixed_keys places along place) (group_at along place)

-- the earlier keys: wanted ones that fixed places before this one have
abbrev pub earlier_keys : {K : Type 0} → (K → K → Ordering) → List OpenPlace → List K → List (List K) → ℕ → List K
earlier_keys cmp places wanted along place = first_seen cmp (filter (λ key. contains cmp key wanted) (fixed_keys places along place))
