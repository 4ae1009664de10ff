-- Searches over keys: the least key that passes a test.
use Rattle.std.specs.Prelude.{Bool, List, None, Option, Some, false, nat_lt, not, true, ◌&&◌, ◌≡◌}
use Rattle.std.specs.Ordering.{is_gt}
use Rattle.std.specs.declared.cmp.Ordering.{Ordering}
use Rattle.ordered_lists.specs.Orders.{contains, times}

-- the key passes the test and no lesser key does; without a key, no key passes
abbrev pub IsLeastPassing : {K : Type 0} → (K → K → Ordering) → (K → Bool) → Option K → Type 0
IsLeastPassing {K} cmp test None = (key : K) → test key ≡ false
IsLeastPassing {K} cmp test (Some key) = (test key ≡ true) × ((other : K) → test other ≡ true → is_gt (cmp key other) ≡ false)

-- whether the key occurs in the list more than once
abbrev pub is_repeated : {K : Type 0} → (K → K → Ordering) → List K → K → Bool
is_repeated cmp keys key = nat_lt 1 (times cmp key keys)

-- whether the key is in the first list and not in the second
abbrev pub is_unknown : {K : Type 0} → (K → K → Ordering) → List K → List K → K → Bool
is_unknown cmp asked known key = contains cmp key asked && not (contains cmp key known)
