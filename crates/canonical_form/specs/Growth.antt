-- Numbers by first appearance.
use Rattle.std.specs.Prelude.{List, [], cond, map, max, ℕ, ⊤, ◌++◌, ◌+◌, ◌∷◌, ◌≤◌}
use Rattle.std.specs.List.{range_with_len}
use Rattle.std.specs.declared.cmp.Ordering.{Ordering}
use Rattle.ordered_lists.specs.Orders.{contains}
use Rattle.county_chart.specs.Packing.{numbered_from}

-- the numbers up to greatest have occurred; each further number has occurred before or is the next one
abbrev pub GrowsFrom : ℕ → List ℕ → Type 0
GrowsFrom greatest [] = ⊤
GrowsFrom greatest (n ∷ ns) = (1 ≤ n) × (n ≤ greatest + 1) × GrowsFrom (max greatest n) ns

-- numbers by first appearance: 1 occurs first, and each number only after the one below it
abbrev pub Grows : List ℕ → Type 0
Grows = GrowsFrom 0

-- 1, 2, 3, .. up to n
abbrev pub up_to : ℕ → List ℕ
up_to n = range_with_len 1 n

-- the keys seen so far, and then the others in the order of their first occurrence
abbrev pub first_seen_after : {K : Type 0} → (K → K → Ordering) → List K → List K → List K
first_seen_after cmp seen [] = seen
first_seen_after cmp seen (key ∷ keys) =
    cond (contains cmp key seen) (first_seen_after cmp seen keys) (first_seen_after cmp (seen ++ (key ∷ [])) keys)

-- the keys in the order of their first occurrence, without repetition
abbrev pub first_seen : {K : Type 0} → (K → K → Ordering) → List K → List K
first_seen cmp keys = first_seen_after cmp [] keys

-- each key with its number, counted from 1
abbrev pub numbered : {K : Type 0} → List K → List (K × ℕ)
numbered keys = map (λ pair. (pair.1, pair.0)) (numbered_from 1 keys)
