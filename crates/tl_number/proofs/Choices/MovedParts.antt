-- Moves at open places in two parts: the later places take the last digits of a number, and the earlier places the others.
use Rattle.std.proofs.Common.{List, None, Some, [], ap, append_assoc, arith, drop, length, length-drop, length-take, map, mul_comm, refl, slice_get, subst, suc, sym, take, take-append-drop, zero, ℕ, ◌%◌, ◌*◌, ◌++◌, ◌+◌, ◌-◌, ◌/◌, ◌<◌, ◌∙◌, ◌∷◌, ◌≡◌, ◌≤◌}
use Rattle.std.specs.List.{AllByRecursion}
use Rattle.std.proofs.lemmas.Nat.{div_below, mod_below}
use Rattle.std.proofs.Math.Nat.{div-add-mod}
use Rattle.std.proofs.lemmas.List.{drop-append-le, take-append-le}
use Rattle.ordered_lists.proofs.Lists.Elements.{all_weaker}
use Rattle.county_chart.specs.Choices.{ways_at}
use Rattle.county_chart.specs.declared.open_place.OpenPlace.{OpenPlace}
use Rattle.canonical_form.specs.MovedChains.{AreWithin, IsApart}
use Rattle.canonical_form.specs.NumberedChoices.{first_stood, moved, moved_at, stood, turned_by}
use Rattle.canonical_form.proofs.Choices.Choosing.{some_digit, stood-digits}
use Rattle.canonical_form.proofs.Choices.FixedPlaces.{moved_apart, moved_count}
use Rattle.tl_number.specs.ShapeDigits.{ways_of}

-- lists that agree up to a place begin alike
take_agree : {X : Type 0} (count : ℕ) (xs ys : List X) → ((place : ℕ) → place < count → slice_get xs place ≡ slice_get ys place)
    → take count xs ≡ take count ys
take_agree zero xs ys h = refl
take_agree (suc count) [] [] h = refl
take_agree (suc count) [] (y ∷ ys) h = let e : None ≡ Some y = h 0 (omega arith) in cc
take_agree (suc count) (x ∷ xs) [] h = let e : Some x ≡ None = h 0 (omega arith) in cc
take_agree (suc count) (x ∷ xs) (y ∷ ys) h =
    let e : Some x ≡ Some y = h 0 (omega arith) in
    let first : x ≡ y = cc in
    λ i. first i ∷ take_agree count xs ys (λ place l. h (suc place) (omega (arith, l))) i

get_left : {X : Type 0} (xs ys zs : List X) (place : ℕ) → place < length xs → slice_get (xs ++ ys) place ≡ slice_get (xs ++ zs) place
get_left [] ys zs place l = absurd (omega (arith, l))
get_left (x ∷ xs) ys zs zero l = refl
get_left (x ∷ xs) ys zs (suc place) l = get_left xs ys zs place (omega (arith, l))

get_right : {X : Type 0} (xs ys zs : List X) (place : ℕ) → length xs ≡ length ys → length xs ≤ place
    → slice_get (xs ++ zs) place ≡ slice_get (ys ++ zs) place
get_right [] [] zs place e l = refl
get_right [] (y ∷ ys) zs place e l = absurd (omega (arith, e))
get_right (x ∷ xs) [] zs place e l = absurd (omega (arith, e))
get_right (x ∷ xs) (y ∷ ys) zs zero e l = absurd (omega (arith, l))
get_right (x ∷ xs) (y ∷ ys) zs (suc place) e l = get_right xs ys zs place (omega (arith, e)) (omega (arith, l))

-- a list after another one begins where that one ends
take_past : {X : Type 0} (xs ys : List X) (n k : ℕ) → n ≡ length xs + k → take n (xs ++ ys) ≡ xs ++ take k ys
take_past [] ys n k e = ap (λ m. take m ys) (let same : n ≡ k = omega (arith, e) in same)
take_past (x ∷ xs) ys zero k e = absurd (omega (arith, e))
take_past (x ∷ xs) ys (suc n) k e = ap (λ zs. x ∷ zs) (take_past xs ys n k (omega (arith, e)))

drop_past : {X : Type 0} (xs ys : List X) (n k : ℕ) → n ≡ length xs + k → drop n (xs ++ ys) ≡ drop k ys
drop_past [] ys n k e = ap (λ m. drop m ys) (let same : n ≡ k = omega (arith, e) in same)
drop_past (x ∷ xs) ys zero k e = absurd (omega (arith, e))
drop_past (x ∷ xs) ys (suc n) k e = drop_past xs ys n k (omega (arith, e))

module _ {X : Type 0} (turn : X → X) where
  -- the number 0 moves nothing
  first_zero : (at : OpenPlace) → 0 < at.alike → (xs : List X) → first_stood turn at xs 0 ≡ (xs, 0)
  first_zero at some [] = refl
  first_zero at some (x ∷ xs) =
      let none : (0 * ways_at at + 0) * at.alike + 0 ≡ 0 = omega arith in
      ap (λ n. stood turn at.alike (ways_at at) x (xs, n)) (sym none)
      ∙ stood-digits turn at.alike (ways_at at) x xs 0 0 0 some (some_digit at.either_way)

  pub moved-zero : (places : List OpenPlace) (xs : List X) → AreWithin (length xs) places → moved turn places (xs, 0) ≡ (xs, 0)
  moved-zero [] xs within = refl
  moved-zero (at ∷ places) xs within =
      ap (moved_at turn at) (moved-zero places xs within.1)
      ∙ (λ j. (
        take at.place xs ++ (first_zero at within.0.some (drop at.place xs) j).0,
        (first_zero at within.0.some (drop at.place xs) j).1,
      ))
      ∙ ap (λ ys. (ys, 0)) (take-append-drop at.place xs)

  -- places one after another
  pub moved-append : (front back : List OpenPlace) (state : List X × ℕ) → moved turn (front ++ back) state ≡ moved turn front (moved turn back state)
  moved-append [] back state = refl
  moved-append (at ∷ front) back state = ap (moved_at turn at) (moved-append front back state)

  -- a place takes its digits, and leaves the rest of the number
  stood_rest : (at : OpenPlace) → 0 < at.alike → (xs : List X) → 0 < length xs → (digit n : ℕ) → n < at.alike * ways_at at
      → first_stood turn at xs (digit * (at.alike * ways_at at) + n) ≡ ((first_stood turn at xs n).0, digit)
  stood_rest at some [] there digit n l = absurd (omega (arith, there))
  stood_rest at some (x ∷ xs) there digit n l =
      let g : ℕ = at.alike in
      let w : ℕ = ways_at at in
      let i : ℕ = n % g in
      let d : ℕ = n / g in
      let low : i < g = mod_below n g some in
      let high : d < w = div_below n g w some (omega (arith, l, mul_comm g w)) in
      let parts : d * g + i ≡ n = omega (arith, div-add-mod n g, mul_comm d g) in
      let whole : (digit * w + d) * g + i ≡ digit * (g * w) + n = omega (arith, spread digit w d g, parts) in
      let plain : (0 * w + d) * g + i ≡ n = omega (arith, spread 0 w d g, parts) in
      let all = stood-digits turn g w x xs i d digit low high in
      let one = stood-digits turn g w x xs i d 0 low high in
      ap (λ m. stood turn g w x (xs, m)) (sym whole) ∙ all
      ∙ ap (λ ys. (ys, digit)) (sym (ap (λ r. r.0) one) ∙ ap (λ m. (stood turn g w x (xs, m)).0) plain)
    where
      spread : (q w d g : ℕ) → (q * w + d) * g ≡ q * (g * w) + d * g
      spread q w d g = grind arith

  -- So do several places: each takes its digits, from the last place to the first.
  pub moved-digits : (places : List OpenPlace) (xs : List X) → AreWithin (length xs) places → (digit n : ℕ) → n < ways_of places
      → moved turn places (xs, digit * ways_of places + n) ≡ ((moved turn places (xs, n)).0, digit)
  moved-digits [] xs within digit n l =
      let none : n ≡ 0 = omega (arith, l) in
      let whole : digit * 1 + n ≡ digit = omega (arith, none) in
      ap (λ m. (xs, m)) whole
  moved-digits (at ∷ places) xs within digit n l =
      let own : ℕ = at.alike * ways_at at in
      let later : ℕ = ways_of places in
      let some : 0 < later = positive own later (omega (arith, l)) in
      let q : ℕ = n / later in
      let s : ℕ = n % later in
      let low : s < later = mod_below n later some in
      let high : q < own = div_below n later own some l in
      let parts : q * later + s ≡ n = omega (arith, div-add-mod n later, mul_comm later q) in
      let whole : (digit * own + q) * later + s ≡ digit * (own * later) + n = omega (arith, spread digit own q later, parts) in
      let rest : List X = (moved turn places (xs, s)).0 in
      let all : moved turn places (xs, digit * (own * later) + n) ≡ (rest, digit * own + q) =
      ap (λ m. moved turn places (xs, m)) (sym whole) ∙ moved-digits places xs within.1 (digit * own + q) s low in
      let one : moved turn places (xs, n) ≡ (rest, q) = ap (λ m. moved turn places (xs, m)) (sym parts) ∙ moved-digits places xs within.1 q s low in
      let count = moved_count turn places xs s within.1 in
      let there : 0 < length (drop at.place rest) = omega (arith, length-drop at.place rest, count, within.0.there, within.0.some) in
      ap (moved_at turn at) all
      ∙ (λ j. (
        take at.place rest ++ (stood_rest at within.0.some (drop at.place rest) there digit q high j).0,
        (stood_rest at within.0.some (drop at.place rest) there digit q high j).1,
      ))
      ∙ ap (λ ys. (ys, digit)) (sym (ap (λ r. (moved_at turn at r).0) one))
    where
      spread : (d o q w : ℕ) → (d * o + q) * w ≡ d * (o * w) + q * w
      spread d o q w = grind arith

      positive : (a b : ℕ) → 0 < a * b → 0 < b
      positive a zero h = absurd (omega (arith, h))
      positive a (suc b) h = omega arith

  -- what comes after the elements that a place moves stays
  stood_before : (at : OpenPlace) → 0 < at.alike → (xs ys : List X) (n : ℕ) → at.alike ≤ length xs
      → first_stood turn at (xs ++ ys) n ≡ ((first_stood turn at xs n).0 ++ ys, (first_stood turn at xs n).1)
  stood_before at some [] ys n there = absurd (omega (arith, some, there))
  stood_before at some (x ∷ xs) ys n there =
      let i : ℕ = n % at.alike in
      let t : X = turned_by turn (n / at.alike % ways_at at) x in
      let low : i ≤ length xs = omega (arith, mod_below n at.alike some, there) in
      λ j. (
        ((λ k. take-append-le i xs ys low k ++ t ∷ drop-append-le i xs ys low k) ∙ sym (append_assoc (take i xs) (t ∷ drop i xs) ys)) j,
        n / at.alike / ways_at at,
      )

  moved_at-before : (at : OpenPlace) → 0 < at.alike → (xs ys : List X) (n : ℕ) → at.place + at.alike ≤ length xs
      → moved_at turn at (xs ++ ys, n) ≡ ((moved_at turn at (xs, n)).0 ++ ys, (moved_at turn at (xs, n)).1)
  moved_at-before at some xs ys n there =
      let p : ℕ = at.place in
      let front : take p (xs ++ ys) ≡ take p xs = take-append-le p xs ys (omega (arith, there)) in
      let rest : drop p (xs ++ ys) ≡ drop p xs ++ ys = drop-append-le p xs ys (omega (arith, there)) in
      let moving = stood_before at some (drop p xs) ys n (omega (arith, length-drop p xs, there)) in
      (λ j. (front j ++ (first_stood turn at (rest j) n).0, (first_stood turn at (rest j) n).1))
      ∙ (λ j. (take p xs ++ (moving j).0, (moving j).1))
      ∙ ap (λ zs. (zs, (first_stood turn at (drop p xs) n).1)) (sym (append_assoc (take p xs) (first_stood turn at (drop p xs) n).0 ys))

  pub moved-before : (places : List OpenPlace) (xs ys : List X) (n : ℕ) → AreWithin (length xs) places
      → moved turn places (xs ++ ys, n) ≡ ((moved turn places (xs, n)).0 ++ ys, (moved turn places (xs, n)).1)
  moved-before [] xs ys n within = refl
  moved-before (at ∷ places) xs ys n within =
      let later = moved turn places (xs, n) in
      ap (moved_at turn at) (moved-before places xs ys n within.1)
      ∙ moved_at-before at within.0.some later.0 ys later.1 (omega (arith, within.0.there, moved_count turn places xs n within.1))

  -- an open place, counted from an edge
  abbrev from_edge : ℕ → OpenPlace → OpenPlace
  from_edge edge at = record { place = at.place - edge; alike = at.alike; either_way = at.either_way }

  -- what comes before the elements that places move stays
  moved_at-after : (at : OpenPlace) (xs ys : List X) (n : ℕ) → length xs ≤ at.place
      → moved_at turn at (xs ++ ys, n)
      ≡ (xs ++ (moved_at turn (from_edge (length xs) at) (ys, n)).0, (moved_at turn (from_edge (length xs) at) (ys, n)).1)
  moved_at-after at xs ys n past =
      let k : ℕ = at.place - length xs in
      let there : at.place ≡ length xs + k = omega (arith, past) in
      (λ j. (
        take_past xs ys at.place k there j ++ (first_stood turn at (drop_past xs ys at.place k there j) n).0,
        (first_stood turn at (drop_past xs ys at.place k there j) n).1,
      ))
      ∙ ap (λ zs. (zs, (first_stood turn at (drop k ys) n).1)) (append_assoc xs (take k ys) (first_stood turn at (drop k ys) n).0)

  moved-after : (places : List OpenPlace) (xs ys : List X) (n : ℕ) → AllByRecursion (λ at. length xs ≤ at.place) places
      → moved turn places (xs ++ ys, n)
      ≡ (xs ++ (moved turn (map (from_edge (length xs)) places) (ys, n)).0, (moved turn (map (from_edge (length xs)) places) (ys, n)).1)
  moved-after [] xs ys n past = refl
  moved-after (at ∷ places) xs ys n past =
      let later = moved turn (map (from_edge (length xs)) places) (ys, n) in
      ap (moved_at turn at) (moved-after places xs ys n past.1) ∙ moved_at-after at xs later.0 later.1 past.0

  -- So moves before an edge and moves after it can be made in either order.
  pub moved-either : (front back : List OpenPlace) (xs : List X) (edge : ℕ) → edge ≤ length xs → AreWithin edge front
      → AllByRecursion (λ at. edge ≤ at.place) back → (digit n : ℕ)
      → (moved turn front ((moved turn back (xs, n)).0, digit)).0 ≡ (moved turn back ((moved turn front (xs, digit)).0, n)).0
  moved-either front back xs edge inside ends begins digit n =
      ap (λ ys. (moved turn front (ys, digit)).0) (ap (λ ys. (moved turn back (ys, n)).0) split ∙ ap (λ r. r.0) (moved-after back first rest n (past first taken)))
      ∙ ap (λ r. r.0) (moved-before front first (behind (length first)) digit ends_here)
      ∙ ap (λ count. done ++ behind count) (sym count)
      ∙ sym (ap (λ ys. (moved turn back ((moved turn front (ys, digit)).0, n)).0) split
      ∙ ap (λ r. (moved turn back (r.0, n)).0) (moved-before front first rest digit ends_here)
      ∙ ap (λ r. r.0) (moved-after back done rest n (past done (count ∙ taken))))
    where
      first : List X
      first = take edge xs

      rest : List X
      rest = drop edge xs

      done : List X
      done = (moved turn front (first, digit)).0

      split : xs ≡ first ++ rest
      split = sym (take-append-drop edge xs)

      taken : length first ≡ edge
      taken = omega (arith, length-take edge xs, inside)

      ends_here : AreWithin (length first) front
      ends_here = subst (λ count. AreWithin count front) (sym taken) ends

      count : length done ≡ length first
      count = moved_count turn front first digit ends_here

      behind : ℕ → List X
      behind from = (moved turn (map (from_edge from) back) (rest, n)).0

      past : (ys : List X) → length ys ≡ edge → AllByRecursion (λ at. length ys ≤ at.place) back
      past ys e = subst (λ from. AllByRecursion (λ at. from ≤ at.place) back) (sym e) begins

  -- Earlier places that end before a place at which or after which all later ones begin.
  module _ (front back : List OpenPlace) (xs : List X) (within : AreWithin (length xs) back) (edge : ℕ) (inside : edge ≤ length xs)
      (ends : AreWithin edge front) (begins : AllByRecursion (λ at. edge ≤ at.place) back) where
    -- the elements before the edge, and the elements after it
    abbrev first_part : ℕ → List X
    first_part digit = (moved turn front (take edge xs, digit)).0

    abbrev second_part : ℕ → List X
    second_part n = drop edge (moved turn back (xs, n)).0

    taken : length (take edge xs) ≡ edge
    taken = omega (arith, length-take edge xs, inside)

    ends_here : AreWithin (length (take edge xs)) front
    ends_here = subst (λ count. AreWithin count front) (sym taken) ends

    first_count : (digit : ℕ) → length (first_part digit) ≡ edge
    first_count digit = moved_count turn front (take edge xs) digit ends_here ∙ taken

    before_edge : (n : ℕ) → take edge (moved turn back (xs, n)).0 ≡ take edge xs
    before_edge n = take_agree edge (moved turn back (xs, n)).0 xs (λ place l. moved_apart turn back xs n within place
        (all_weaker (λ at. edge ≤ at.place) (IsApart place) (λ at later up. absurd (omega (arith, later, up, l))) back begins))

    in_parts : (digit n : ℕ) → n < ways_of back → (moved turn (front ++ back) (xs, digit * ways_of back + n)).0 ≡ first_part digit ++ second_part n
    in_parts digit n l =
        let whole : List X = (moved turn back (xs, n)).0 in
        ap (λ r. r.0) (moved-append front back (xs, digit * ways_of back + n)
        ∙ ap (moved turn front) (moved-digits back xs within digit n l
        ∙ ap (λ ys. (ys, digit)) (sym (take-append-drop edge whole) ∙ ap (λ ys. ys ++ second_part n) (before_edge n)))
        ∙ moved-before front (take edge xs) (second_part n) digit ends_here)

    -- Before the edge, elements don't depend on the later places' digits,
    pub same_before : (digit n m : ℕ) → n < ways_of back → m < ways_of back → (place : ℕ) → place < edge
        → slice_get (moved turn (front ++ back) (xs, digit * ways_of back + n)).0 place
        ≡ slice_get (moved turn (front ++ back) (xs, digit * ways_of back + m)).0 place
    same_before digit n m l k place h =
        ap (λ ys. slice_get ys place) (in_parts digit n l)
        ∙ get_left (first_part digit) (second_part n) (second_part m) place (omega (arith, h, first_count digit))
        ∙ sym (ap (λ ys. slice_get ys place) (in_parts digit m k))

    -- and after it not on the earlier places'.
    pub same_behind : (digit n : ℕ) → n < ways_of back → (place : ℕ) → edge ≤ place
        → slice_get (moved turn (front ++ back) (xs, digit * ways_of back + n)).0 place
        ≡ slice_get (moved turn (front ++ back) (xs, n)).0 place
    same_behind digit n l place h =
        ap (λ ys. slice_get ys place) (in_parts digit n l)
        ∙ get_right (first_part digit) (first_part 0) (second_part n) place (first_count digit ∙ sym (first_count 0)) (omega (arith, h, first_count digit))
        ∙ sym (ap (λ ys. slice_get ys place) (ap (λ m. (moved turn (front ++ back) (xs, m)).0) (let plain : n ≡ 0 * ways_of back + n = omega arith in plain)
        ∙ in_parts 0 n l))
