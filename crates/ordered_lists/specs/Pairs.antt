-- Pairs of an old key and its new one: the new key of each old one, pairs reversed, and pairs one after other pairs.
use Rattle.std.specs.Prelude.{Bool, IsPermutation, List, [], cond, filter, map, ◌∷◌}
use Rattle.std.specs.Ordering.{is_eq}
use Rattle.std.specs.declared.cmp.Ordering.{Ordering}
use Rattle.ordered_lists.specs.Orders.{contains}

-- the new key of an old one, or the old one itself if no pair names it
abbrev pub image : {K : Type 0} → (K → K → Ordering) → List (K × K) → K → K
image cmp [] x = x
image cmp (pair ∷ pairs) x = cond (is_eq (cmp x pair.0)) pair.1 (image cmp pairs x)

-- the pairs name each old key once on the left and each new key once on the right, and no other
pub record ArePaired {K : Type 0} (pairs : List (K × K)) (olds news : List K) : Type 0 where
  pub left : IsPermutation (map (λ pair. pair.0) pairs) olds
  pub right : IsPermutation (map (λ pair. pair.1) pairs) news

-- each key paired with itself
abbrev pub to_itself : {K : Type 0} → List K → List (K × K)
to_itself = map (λ n. (n, n))

-- each pair reversed
abbrev pub swapped : {K : Type 0} → List (K × K) → List (K × K)
swapped = map (λ pair. (pair.1, pair.0))

-- whether a pair names the key on its left
abbrev pub is_named : {K : Type 0} → (K → K → Ordering) → List (K × K) → K → Bool
is_named cmp pairs x = contains cmp x (map (λ pair. pair.0) pairs)

-- first by some pairs and then by others; a key whose image the others don't name is left out
abbrev pub composed : {K : Type 0} → (K → K → Ordering) → List (K × K) → List (K × K) → List (K × K)
composed cmp firsts nexts = map (λ pair. (pair.0, image cmp nexts pair.1)) (filter (λ pair. is_named cmp nexts pair.1) firsts)
