-- Moves at open places leave the elements at all other places as they are.
use Rattle.canonical_form.proofs.Common.{AgreeApart, AllByRecursion, ArePlacesInOrder, AreWithin, Bool, Decides, IsPermutation-insert, List, None, OpenPlace, Ordering, Some, [], all_weaker, ap, arith, cond, drop, false, first_stood, insert, length, length_permutation, ltb-false, ltb-true, moved, nat_lt, open_places, refl, rules, slice_get, slice_get_past, suc, sym, take, true, turned_by, zero, ℕ, ◌%◌, ◌++◌, ◌+◌, ◌/◌, ◌<◌, ◌∙◌, ◌∷◌, ◌≡◌, ◌≤◌}
use Rattle.canonical_form.specs.MovedChains.{IsApart}

pub nothing_left : {X : Type 0} (xs : List X) → length xs ≡ 0 → xs ≡ []
nothing_left [] e = refl
nothing_left (x ∷ xs) e = absurd (omega (arith, e))

-- lists that are the same at each place are equal
pub same_everywhere : {X : Type 0} (xs ys : List X) → ((place : ℕ) → slice_get xs place ≡ slice_get ys place) → xs ≡ ys
same_everywhere [] [] h = refl
same_everywhere [] (y ∷ ys) h = let e : None ≡ Some y = h 0 in cc
same_everywhere (x ∷ xs) [] h = let e : Some x ≡ None = h 0 in cc
same_everywhere (x ∷ xs) (y ∷ ys) h =
    let e : Some x ≡ Some y = h 0 in
    let first : x ≡ y = cc in
    λ i. first i ∷ same_everywhere xs ys (λ place. h (suc place)) i

-- a test of all places of two lists of this length decides whether they are equal
pub decides_equal : {X : Type 0} (xs ys : List X) (n : ℕ) → length xs ≡ n → length ys ≡ n → (b : Bool)
    → Decides b ((place : ℕ) → place < n → slice_get xs place ≡ slice_get ys place) → Decides b (xs ≡ ys)
decides_equal xs ys n l m b decides = (
  λ t. same_everywhere xs ys (λ place. go place (decides.0 t) (nat_lt place n) refl),
  λ e. decides.1 (λ place h. ap (λ zs. slice_get zs place) e),
) where
  go : (place : ℕ) → ((place : ℕ) → place < n → slice_get xs place ≡ slice_get ys place) → (c : Bool) → nat_lt place n ≡ c
      → slice_get xs place ≡ slice_get ys place
  go place below true e = below place (ltb-true place n e)
  go place below false e = let h = ltb-false place n e in
      slice_get_past xs place (omega (arith, l, h)) ∙ sym (slice_get_past ys place (omega (arith, m, h)))

-- if nothing is open, lists that agree are equal
pub agree_same : {X : Type 0} (xs ys : List X) → AgreeApart [] xs ys → xs ≡ ys
agree_same xs ys h = same_everywhere xs ys (λ place. h place tt)

pub agree_both : {X : Type 0} (places : List OpenPlace) (xs ys zs : List X) → AgreeApart places xs zs → AgreeApart places ys zs
    → AgreeApart places xs ys
agree_both places xs ys zs a b place apart = a place apart ∙ sym (b place apart)

-- after the place of an inserted element, the list is as if the element were first
insert_kept : {X : Type 0} (j : ℕ) (later : List X) (t x : X) (place : ℕ) → j < place
    → slice_get (insert later j t) place ≡ slice_get (x ∷ later) place
insert_kept j later t x zero l = absurd (omega (arith, l))
insert_kept zero later t x (suc place) l = refl
insert_kept (suc j) [] t x (suc place) l = refl
insert_kept (suc j) (y ∷ ys) t x (suc place) l = insert_kept j ys t y place (omega (arith, l))

pub insert_count : {X : Type 0} (j : ℕ) (later : List X) (t : X) → length (insert later j t) ≡ suc (length later)
insert_count j later t = let same = length_permutation (t ∷ later) (insert later j t) (IsPermutation-insert later j t) in omega (arith, same)

module _ {X : Type 0} (turn : X → X) (at : OpenPlace) (n : ℕ) (some : 0 < at.alike) where
  pub stood_kept : (p : ℕ) (xs : List X) → p + at.alike ≤ length xs → (place : ℕ) → (p ≤ place → p + at.alike ≤ place)
      → slice_get (take p xs ++ (first_stood turn at (drop p xs) n).0) place ≡ slice_get xs place
  stood_kept p [] within place apart = absurd (omega (arith, within, some))
  stood_kept zero (x ∷ xs) within place apart =
      let behind : n % at.alike < at.alike = omega (arith, some) in
      let past : at.alike ≤ place = omega (arith, apart (omega arith)) in
      insert_kept (n % at.alike) xs (turned_by turn (n / at.alike % cond at.either_way 2 1) x) x place (omega (arith, behind, past))
  stood_kept (suc p) (x ∷ xs) within zero apart = refl
  stood_kept (suc p) (x ∷ xs) within (suc place) apart =
      stood_kept p xs (omega (arith, within)) place (λ l. (let past = apart (omega (arith, l)) in omega (arith, past)))

  stood_count : (p : ℕ) (xs : List X) → p + at.alike ≤ length xs → length (take p xs ++ (first_stood turn at (drop p xs) n).0) ≡ length xs
  stood_count p [] within = absurd (omega (arith, within, some))
  stood_count zero (x ∷ xs) within = insert_count (n % at.alike) xs (turned_by turn (n / at.alike % cond at.either_way 2 1) x)
  stood_count (suc p) (x ∷ xs) within = ap suc (stood_count p xs (omega (arith, within)))

-- A list keeps its length under moves,
pub moved_count : {X : Type 0} (turn : X → X) (places : List OpenPlace) (xs : List X) (n : ℕ) → AreWithin (length xs) places
    → length (moved turn places (xs, n)).0 ≡ length xs
moved_count turn [] xs n within = refl
moved_count turn (at ∷ places) xs n within =
    let later = moved turn places (xs, n) in
    let count = moved_count turn places xs n within.1 in
    stood_count turn at later.1 within.0.some at.place later.0 (omega (arith, within.0.there, count)) ∙ count

-- and agrees with the original apart from open places.
pub moved_apart : {X : Type 0} (turn : X → X) (places : List OpenPlace) (xs : List X) (n : ℕ) → AreWithin (length xs) places
    → AgreeApart places (moved turn places (xs, n)).0 xs
moved_apart turn [] xs n within place apart = refl
moved_apart turn (at ∷ places) xs n within place apart =
    let later = moved turn places (xs, n) in
    let count = moved_count turn places xs n within.1 in
    stood_kept turn at later.1 within.0.some at.place later.0 (omega (arith, within.0.there, count)) place apart.0
    ∙ moved_apart turn places xs n within.1 place apart.1

-- A place before an open place is apart from it and from all later ones.
pub before_apart : (at : OpenPlace) (places : List OpenPlace) → ArePlacesInOrder (at ∷ places) → (place : ℕ) → place < at.place
    → AllByRecursion (IsApart place) (at ∷ places)
before_apart at places in_order place before = (
  (λ l. absurd (omega (arith, l, before))),
  all_weaker (λ later. at.place ≤ later.place) (IsApart place) (λ later behind l. absurd (omega (arith, l, before, behind))) places in_order.0,
)

-- The open places of keys in a list are in order.
module _ {K : Type 0} (cmp : K → K → Ordering) (either : K → Bool) where
  from_place : (low place : ℕ) (keys : List K) → low ≤ place → AllByRecursion (λ at. low ≤ at.place) (open_places cmp either place keys)
  from_place low place [] l = tt
  from_place low place (k ∷ ks) l = let rest = from_place low (suc place) ks (omega (arith, l)) in search rules

  pub open_in_order : (place : ℕ) (keys : List K) → ArePlacesInOrder (open_places cmp either place keys)
  open_in_order place [] = tt
  open_in_order place (k ∷ ks) =
      let later = from_place place (suc place) ks (omega arith) in
      let rest = open_in_order (suc place) ks in
      search rules
