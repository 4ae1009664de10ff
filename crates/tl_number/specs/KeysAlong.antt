-- The keys along directed chains, and the open ones, which first appear at open places.
use Rattle.std.specs.Prelude.{Bool, List, [], cond, filter, flat_map, nat_le, nat_lt, option_to_list, ℕ, ◌&&◌, ◌++◌, ◌+◌, ◌∷◌}
use Rattle.std.specs.List.{list_any, position_or_len, range_with_len}
use Rattle.std.specs.Ordering.{is_eq}
use Rattle.std.specs.declared.cmp.Ordering.{Ordering}
use Rattle.ordered_lists.specs.Orders.{contains}
use Rattle.tl_shape.specs.Chain.{Chain}
use Rattle.county_chart.specs.County.{County}
use Rattle.county_chart.specs.declared.directed_chain.DirectedChain.{DirectedChain}
use Rattle.county_chart.specs.declared.open_place.OpenPlace.{OpenPlace}
use Rattle.canonical_form.specs.DirectedChains.{parts_along}

-- whether an open place moves a chain to or from the place
abbrev pub covers : OpenPlace → ℕ → Bool
covers at place = nat_le at.place place && nat_lt place (at.place + at.alike)

-- whether one of them does
abbrev pub is_open : List OpenPlace → ℕ → Bool
is_open places place = list_any (λ at. covers at place) places

-- the open ones of the first places
abbrev pub open_among : List OpenPlace → ℕ → List ℕ
open_among places count = filter (is_open places) (range_with_len 0 count)

-- the keys that weren't seen before, in the order of their first occurrence
abbrev pub newly_seen : {K : Type 0} → (K → K → Ordering) → List K → List K → List K
newly_seen cmp seen [] = []
newly_seen cmp seen (key ∷ keys) =
    cond (contains cmp key seen) (newly_seen cmp seen keys) (key ∷ newly_seen cmp (seen ++ (key ∷ [])) keys)

-- of the keys at each place from one on, those that weren't seen before and first appear at an open place
abbrev pub open_keys : {K : Type 0} → (K → K → Ordering) → (ℕ → Bool) → List K → ℕ → List (List K) → List K
open_keys cmp opened seen place [] = []
open_keys cmp opened seen place (keys ∷ rest) =
    cond (opened place) (newly_seen cmp seen keys) [] ++ open_keys cmp opened (seen ++ newly_seen cmp seen keys) (place + 1) rest

-- the same for all places
abbrev pub first_open : {K : Type 0} → (K → K → Ordering) → List OpenPlace → List (List K) → List K
first_open cmp places along = open_keys cmp (is_open places) [] 0 along

-- the keys of each directed chain
abbrev pub keys_along : {K : Type 0} → (Chain → List K) → County → List DirectedChain → List (List K)
keys_along keys county arrangement = parts_along (λ chain. flat_map keys (option_to_list chain)) county arrangement

-- the place of a key in a list, or the list's length
abbrev pub place_in : {K : Type 0} → (K → K → Ordering) → List K → K → ℕ
place_in cmp keys key = position_or_len (λ other. is_eq (cmp key other)) keys
