-- Values of choices, element by element, by the digits of the choices.
use Rattle.std.specs.Prelude.{Bool, List, [], cond, drop, false, length, nat_lt, not, slice_get, suc, take, true, zero, ℕ, ◌*◌, ◌++◌, ◌+◌, ◌<◌, ◌==◌, ◌∷◌, ◌≡◌, ◌≤◌}
use Rattle.std.specs.Cmp.Lexicographic.{slice_cmp}
use Rattle.std.specs.Option.{option_cmp}
use Rattle.std.specs.Ordering.{ordering_then}
use Rattle.std.specs.declared.cmp.Ordering.{Ordering}
use Rattle.std.specs.declared.cmp.Ordering.TheVariants.{Equal}
use Rattle.std.proofs.Common.{Option, ap, ap₂, arith, drop-drop, refl, subst, sym, take-append-drop, ◌-◌, ◌∙◌}
use Rattle.std.proofs.lemmas.Bool.{and_parts, eqb-true, false≢true, ltb-false, ltb-true}
use Rattle.ordered_lists.proofs.Lists.Elements.{all_right}
use Rattle.county_chart.specs.Choices.{is_settled, open_place_at, open_places, running, ways_at}
use Rattle.county_chart.specs.declared.open_place.OpenPlace.{OpenPlace}
use Rattle.canonical_form.specs.MovedChains.{AreWithin}
use Rattle.canonical_form.specs.NumberedChoices.{moved}
use Rattle.canonical_form.proofs.Choices.Choosing.{some_digit}
use Rattle.tl_number.specs.ShapeDigits.{ArePlacesApart, ways_of}
use Rattle.tl_number.proofs.Choices.MovedParts.{same_before, same_behind}

-- lists whose elements compare alike at each place compare alike
by_place : {Y : Type 0} (cmp : Y → Y → Ordering) (xs ys us vs : List Y) → length xs ≡ length ys → length xs ≡ length us → length xs ≡ length vs
    → ((place : ℕ) → option_cmp cmp (slice_get xs place) (slice_get ys place) ≡ option_cmp cmp (slice_get us place) (slice_get vs place))
    → slice_cmp cmp xs ys ≡ slice_cmp cmp us vs
by_place cmp [] [] [] [] e f g h = refl
by_place cmp (x ∷ xs) (y ∷ ys) (u ∷ us) (v ∷ vs) e f g h =
    ap₂ ordering_then (h 0) (by_place cmp xs ys us vs (omega (arith, e)) (omega (arith, f)) (omega (arith, g)) (λ place. h (suc place)))
by_place cmp xs ys us vs e f g h = absurd (omega (arith, e, f, g))

-- ---- how many choices open places leave

pub ways-append : (front back : List OpenPlace) → ways_of (front ++ back) ≡ ways_of front * ways_of back
ways-append [] back = omega arith
ways-append (at ∷ front) back =
    ap (λ n. at.alike * ways_at at * n) (ways-append front back)
    ∙ (let parts : at.alike * ways_at at * (ways_of front * ways_of back) ≡ at.alike * ways_at at * ways_of front * ways_of back = grind arith in parts)

product : (a b : ℕ) → 0 < a → 0 < b → 0 < a * b
product zero b h l = absurd (omega (arith, h))
product (suc a) zero h l = absurd (omega (arith, l))
product (suc a) (suc b) h l = omega arith

-- a product with a factor of at least one is no less than the other factor
pub grown : (a b : ℕ) → 0 < a → b ≤ a * b
grown zero b h = absurd (omega (arith, h))
grown (suc a) b h = grind arith

pub some_ways : (count : ℕ) (places : List OpenPlace) → AreWithin count places → 0 < ways_of places
some_ways count [] within = omega arith
some_ways count (at ∷ places) within =
    product (at.alike * ways_at at) (ways_of places) (product at.alike (ways_at at) within.0.some (some_digit at.either_way)) (some_ways count places within.1)

pub ways_running : {K : Type 0} (cmp : K → K → Ordering) (either : K → Bool) (place : ℕ) (keys : List K)
    → ways_of (open_places cmp either place keys) ≡ running cmp either keys
ways_running cmp either place [] = refl
ways_running {K} cmp either place (key ∷ keys) = go (is_settled at) refl (ways_running cmp either (suc place) keys)
  where
    at : OpenPlace
    at = open_place_at cmp either place key keys

    rest : List OpenPlace
    rest = open_places cmp either (suc place) keys

    ways : (b : Bool) → not b ≡ true → ◌≡◌ {A = ℕ} (cond b 2 1) 1
    ways true f = absurd (false≢true f)
    ways false f = refl

    go : (b : Bool) → is_settled at ≡ b → ways_of rest ≡ running cmp either keys
        → ways_of (cond b rest (at ∷ rest)) ≡ at.alike * (cond (either key) 2 1 * running cmp either keys)
    go true e ih =
        let both = and_parts (at.alike == 1) (not at.either_way) e in
        let one : at.alike ≡ 1 = eqb-true at.alike 1 both.0 in
        let one_way : ways_at at ≡ 1 = ways at.either_way both.1 in
        ih ∙ (let plain : running cmp either keys ≡ 1 * (1 * running cmp either keys) = omega arith in plain)
        ∙ sym (λ j. one j * (one_way j * running cmp either keys))
    go false e ih =
        ap (λ n. at.alike * ways_at at * n) ih
        ∙ (let parts : at.alike * ways_at at * running cmp either keys ≡ at.alike * (ways_at at * running cmp either keys) = grind arith in parts)

-- places that are taken from the first one on are followed by the others
pub ways_taken : (places : List OpenPlace) (first end : ℕ) → first ≤ end
    → ways_of (drop first places) ≡ ways_of (take (end - first) (drop first places)) * ways_of (drop end places)
ways_taken places first end l =
    ap ways_of (sym (take-append-drop (end - first) (drop first places)))
    ∙ ways-append (take (end - first) (drop first places)) (drop (end - first) (drop first places))
    ∙ ap (λ rest. ways_of (take (end - first) (drop first places)) * ways_of rest)
    (drop-drop (end - first) first places ∙ ap (λ n. drop n places) (let same : first + (end - first) ≡ end = omega (arith, l) in same))

-- later places leave at most as many choices as all
pub fewer_ways : (count : ℕ) (places : List OpenPlace) → AreWithin count places → (first : ℕ) → ways_of (drop first places) ≤ ways_of places
fewer_ways count [] within zero = omega arith
fewer_ways count [] within (suc first) = omega arith
fewer_ways count (at ∷ places) within zero = omega arith
fewer_ways count (at ∷ places) within (suc first) =
    let rest : ways_of (drop first places) ≤ ways_of places = fewer_ways count places within.1 first in
    let own : 0 < at.alike * ways_at at = product at.alike (ways_at at) within.0.some (some_digit at.either_way) in
    omega (arith, rest, grown (at.alike * ways_at at) (ways_of places) own)

-- ---- values by digits

-- Values whose elements are decided by the elements at the same place of the choice with a number.
module _ {D R : Type 0} (turn : D → D) (cmp : R → R → Ordering) (same_one : (r : Option R) → Equal ≡ option_cmp cmp r r)
    (xs : List D) (places : List OpenPlace) (value : ℕ → List R)
    (decided : (i k place : ℕ) → slice_get (moved turn places (xs, i)).0 place ≡ slice_get (moved turn places (xs, k)).0 place
    → slice_get (value i) place ≡ slice_get (value k) place)
    (as_many : (i k : ℕ) → length (value i) ≡ length (value k)) where
  -- If earlier open places move elements before all that later ones move, the digits of the later ones compare alike after each digit.
  pub digits_apart : (front back : List OpenPlace) → places ≡ front ++ back → AreWithin (length xs) places → ArePlacesApart (length xs) front back
      → (digit n m : ℕ) → n < ways_of back → m < ways_of back
      → slice_cmp cmp (value (digit * ways_of back + n)) (value (digit * ways_of back + m)) ≡ slice_cmp cmp (value n) (value m)
  digits_apart front back split all apart digit n m l k =
      by_place cmp (value (put digit n)) (value (put digit m)) (value n) (value m)
      (as_many (put digit n) (put digit m)) (as_many (put digit n) n) (as_many (put digit n) m) (λ place. go place (nat_lt place apart.edge) refl)
    where
      put : ℕ → ℕ → ℕ
      put d i = d * ways_of back + i

      at : ℕ → ℕ → Option D
      at i place = slice_get (moved turn places (xs, i)).0 place

      at_split : (i place : ℕ) → at i place ≡ slice_get (moved turn (front ++ back) (xs, i)).0 place
      at_split i place = ap (λ ps. slice_get (moved turn ps (xs, i)).0 place) split

      within : AreWithin (length xs) back
      within = all_right _ front back (subst (AreWithin (length xs)) split all)

      before : (d place : ℕ) → place < apart.edge → at (put d n) place ≡ at (put d m) place
      before d place h =
          at_split (put d n) place
          ∙ same_before turn front back xs within apart.edge apart.inside apart.ends apart.begins d n m l k place h
          ∙ sym (at_split (put d m) place)

      behind : (i : ℕ) → i < ways_of back → (place : ℕ) → apart.edge ≤ place → at (put digit i) place ≡ at i place
      behind i h place past =
          at_split (put digit i) place
          ∙ same_behind turn front back xs within apart.edge apart.inside apart.ends apart.begins digit i h place past
          ∙ sym (at_split i place)

      tie : (i j place : ℕ) → at i place ≡ at j place → Equal ≡ option_cmp cmp (slice_get (value i) place) (slice_get (value j) place)
      tie i j place same = same_one (slice_get (value i) place) ∙ ap (option_cmp cmp (slice_get (value i) place)) (decided i j place same)

      plain : (i : ℕ) → put 0 i ≡ i
      plain i = omega arith

      go : (place : ℕ) (b : Bool) → nat_lt place apart.edge ≡ b
          → option_cmp cmp (slice_get (value (put digit n)) place) (slice_get (value (put digit m)) place)
          ≡ option_cmp cmp (slice_get (value n) place) (slice_get (value m) place)
      go place true e =
          let h : place < apart.edge = ltb-true place apart.edge e in
          sym (tie (put digit n) (put digit m) place (before digit place h))
          ∙ tie n m place (ap (λ i. at i place) (sym (plain n)) ∙ before 0 place h ∙ ap (λ i. at i place) (plain m))
      go place false e =
          let past : apart.edge ≤ place = ltb-false place apart.edge e in
          ap₂ (option_cmp cmp) (decided (put digit n) n place (behind n l place past)) (decided (put digit m) m place (behind m k place past))
