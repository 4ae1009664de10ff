-- Lists cut into pieces, and elements numbered from a number on.
use Rattle.county_chart.proofs.Common.{AllByRecursion, List, [], all_drop, all_take, all_weaker, ap, arith, drop, length, length-drop, length-take, map, pieces, range_with_len, refl, rules, suc, zero, ℕ, ◌*◌, ◌+◌, ◌<◌, ◌∷◌, ◌≡◌, ◌≤◌}
use Rattle.county_chart.specs.Packing.{numbered_from}

-- pieces of n: at most c of them if there are at most n * c elements, none longer than n
pub few_pieces : {X : Type 0} (n c most : ℕ) (xs : List X) → length xs ≤ n * c → length (pieces n most xs) ≤ c
few_pieces n c zero xs h = omega arith
few_pieces n c (suc most) [] h = omega arith
few_pieces n zero (suc most) (x ∷ xs) h = absurd (omega arith)
few_pieces n (suc c) (suc most) (x ∷ xs) h =
    search (rules, length-drop, few_pieces n c most (drop n (x ∷ xs)) (omega (arith, length-drop n (x ∷ xs), h)))

pub short_pieces : {X : Type 0} (n most : ℕ) (xs : List X) → AllByRecursion (λ piece. length piece ≤ n) (pieces n most xs)
short_pieces n zero xs = tt
short_pieces n (suc most) [] = tt
short_pieces n (suc most) (x ∷ xs) = ((let t = length-take n (x ∷ xs) in omega arith), short_pieces n most (drop n (x ∷ xs)))

-- a property of each element is a property of each element of a piece
pub all_in_pieces : {X : Type 0} (P : X → Type 0) (n most : ℕ) (xs : List X) → AllByRecursion P xs
    → AllByRecursion (AllByRecursion P) (pieces n most xs)
all_in_pieces P n zero xs a = tt
all_in_pieces P n (suc most) [] a = tt
all_in_pieces P n (suc most) (x ∷ xs) a = (all_take P n (x ∷ xs) a, all_in_pieces P n most (drop n (x ∷ xs)) (all_drop P n (x ∷ xs) a))

-- a property of each content, with RTSQs from i
pub all_numbered_from : {X : Type 0} (P : X → Type 0) (i : ℕ) (xs : List X) → AllByRecursion P xs
    → AllByRecursion (λ (entry : ℕ × X). (i ≤ entry.0) × ((entry.0 < i + length xs) × P entry.1)) (numbered_from i xs)
all_numbered_from P i [] a = tt
all_numbered_from {X} P i (x ∷ xs) a = (
  (omega arith, (omega arith, a.0)),
  all_weaker (λ (entry : ℕ × X). (suc i ≤ entry.0) × ((entry.0 < suc i + length xs) × P entry.1))
      (λ entry. (i ≤ entry.0) × ((entry.0 < i + suc (length xs)) × P entry.1))
      (λ entry h. (let l : suc i ≤ entry.0 = h.0 in omega arith, (let l : entry.0 < suc i + length xs = h.1.0 in omega arith, h.1.1)))
      (numbered_from (suc i) xs) (all_numbered_from P (suc i) xs a.1),
)

pub length-numbered_from : {X : Type 0} (i : ℕ) (xs : List X) → length (numbered_from i xs) ≡ length xs
length-numbered_from i [] = refl
length-numbered_from i (x ∷ xs) = ap suc (length-numbered_from (suc i) xs)

-- numbered lists
pub lefts-numbered_from : {X : Type 0} (i : ℕ) (xs : List X) → map (λ (e : ℕ × X). e.0) (numbered_from i xs) ≡ range_with_len i (length xs)
lefts-numbered_from i [] = refl
lefts-numbered_from i (x ∷ xs) = search (rules, lefts-numbered_from (suc i) xs)

pub rights-numbered_from : {X : Type 0} (i : ℕ) (xs : List X) → map (λ (e : ℕ × X). e.1) (numbered_from i xs) ≡ xs
rights-numbered_from i [] = refl
rights-numbered_from i (x ∷ xs) = ap (λ ys. x ∷ ys) (rights-numbered_from (suc i) xs)
