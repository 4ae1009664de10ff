-- Lists in groups.
use Rattle.std.specs.Prelude.{List, Some, [], drop, flat_map, length, slice_get, suc, unwrap_or, ℕ, ◌++◌, ◌+◌, ◌≡◌}

-- the group at a place, or the empty group after the last one
abbrev pub group_at : {X : Type 0} → List (List X) → ℕ → List X
group_at groups place = unwrap_or (slice_get groups place) []

-- the elements of all groups, group after group
abbrev pub grouped : {X : Type 0} → List (List X) → List X
grouped groups = flat_map (λ group. group) groups

-- the elements from a place in a group on: the rest of the group, and the groups after it
abbrev pub rest_of : {X : Type 0} → List (List X) → ℕ → ℕ → List X
rest_of groups group place = drop place (group_at groups group) ++ grouped (drop (suc group) groups)

-- the group at a place has this many records
abbrev pub HasRecords : {X : Type 0} → List (List X) → ℕ → ℕ → Type 0
HasRecords groups place count = count ≡ length (group_at groups place)

-- the heads of consecutive groups, from the one at a place on
abbrev pub AreHeads : {H : Type 0} → (ℕ → H → Type 0) → ℕ → List H → Type 0
AreHeads {H} IsHead first heads = (ahead : ℕ) (head : H) → slice_get heads ahead ≡ Some head → IsHead (first + ahead) head
