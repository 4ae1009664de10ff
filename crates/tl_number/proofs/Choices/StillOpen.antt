-- The places still open, shape by shape.
use Rattle.std.proofs.Common.{Bool, List, [], ap, arith, cond, false, get_or, length, map, mul_comm, refl, subst, sym, true, ℕ, ◌*◌, ◌++◌, ◌+◌, ◌<◌, ◌==◌, ◌||◌, ◌∙◌, ◌∷◌, ◌≡◌, ◌≤◌}
use Rattle.std.specs.List.{AllByRecursion}
use Rattle.std.proofs.lemmas.Bool.{eqb-true, or_right}
use Rattle.std.proofs.lemmas.Nat.{mul-add-lt}
use Rattle.ordered_lists.proofs.Lists.Elements.{all_append, all_joined, all_left, all_map, all_right, all_weaker}
use Rattle.county_chart.specs.ShapeOrder.{OrderOfShapes}
use Rattle.county_chart.specs.declared.directed_chain.DirectedChain.{DirectedChain}
use Rattle.county_chart.specs.declared.open_place.OpenPlace.{OpenPlace}
use Rattle.canonical_form.specs.MovedChains.{AreWithin, other_way}
use Rattle.canonical_form.specs.NumberedChoices.{moved}
use Rattle.canonical_form.proofs.Choices.FixedPlaces.{moved_count}
use Rattle.tl_number.specs.KeysAlong.{covers, is_open}
use Rattle.tl_number.specs.ShapeDigits.{combined, ways_of}
use Rattle.tl_number.specs.StillOpen.{IsChoiceLeft, LeavesOpen, settled, still_open}
use Rattle.tl_number.proofs.Choices.DigitsApart.{some_ways, ways-append}
use Rattle.tl_number.proofs.Choices.MovedParts.{moved-append, moved-digits, moved-either, moved-zero}

-- The places still open are among these.
pub record AreAmong (count : ℕ) (places still : List OpenPlace) : Type 0 where
  pub within : AreWithin count still
  pub begins : (edge : ℕ) → AllByRecursion (λ at. edge ≤ at.place) places → AllByRecursion (λ at. edge ≤ at.place) still
  pub opened : (place : ℕ) → is_open still place ≡ true → is_open places place ≡ true

open_behind : (group back : List OpenPlace) (place : ℕ) → is_open back place ≡ true → is_open (group ++ back) place ≡ true
open_behind [] back place e = e
open_behind (at ∷ group) back place e = or_right (covers at place) (is_open (group ++ back) place) (open_behind group back place e)

open_both : (group still back : List OpenPlace) (place : ℕ) → (is_open still place ≡ true → is_open back place ≡ true)
    → is_open (group ++ still) place ≡ true → is_open (group ++ back) place ≡ true
open_both [] still back place h e = h e
open_both (at ∷ group) still back place h e = go (covers at place) e (open_both group still back place h)
  where
    go : (b : Bool) → (b || is_open (group ++ still) place) ≡ true → (is_open (group ++ still) place ≡ true → is_open (group ++ back) place ≡ true)
        → (b || is_open (group ++ back) place) ≡ true
    go true f rest = refl
    go false f rest = rest f

one_digit : (digits : List ℕ) → length digits ≡ 1 → digits ≡ get_or digits 0 0 ∷ []
one_digit [] e = absurd (omega (arith, e))
one_digit (digit ∷ []) e = refl
one_digit (digit ∷ other ∷ digits) e = absurd (omega (arith, e))

-- no place is open
pub none_among : (count : ℕ) → AreAmong count [] []
none_among count = record { within = tt; begins = λ edge all. tt; opened = λ place e. e }

-- one more shape, before the others
pub more_among : (count : ℕ) (group back still : List OpenPlace) (digits : List ℕ) → AreWithin count group → AreAmong count back still
    → AreAmong count (group ++ back) (still_open group digits still)
more_among count group back still digits within are = go (length digits == 1)
  where
    go : (b : Bool) → AreAmong count (group ++ back) (cond b still (group ++ still))
    go true = record {
      within = are.within;
      begins = λ edge all. are.begins edge (all_right (λ at. edge ≤ at.place) group back all);
      opened = λ place e. open_behind group back place (are.opened place e);
    }
    go false = record {
      within = all_append _ group still within are.within;
      begins = λ edge all. all_append _ group still (all_left (λ at. edge ≤ at.place) group back all)
          (are.begins edge (all_right (λ at. edge ≤ at.place) group back all));
      opened = λ place e. open_both group still back place (are.opened place) e;
    }

module _ (by_shape : List DirectedChain) where
  -- Nothing is open, and the order of shapes is the only choice.
  pub leaves_none : (still : OrderOfShapes) → still.by_shape ≡ by_shape → still.places ≡ [] → LeavesOpen by_shape [] (0 ∷ []) still
  leaves_none still is none = record {
    base = 0;
    below = omega arith;
    based = is;
    choices = ((0, omega (arith, ap ways_of none), sym (λ j. (moved other_way (none j) (is j, 0)).0)), tt);
  }

  -- An arrangement of a choice has as many chains.
  pub left_count : {places : List OpenPlace} {numbers : List ℕ} {still : OrderOfShapes} → AreWithin (length by_shape) places
      → LeavesOpen by_shape places numbers still → length still.by_shape ≡ length by_shape
  left_count {places} within leaves = ap length leaves.based ∙ moved_count other_way places by_shape leaves.base within

  -- ---- one more shape, before the others

  module _ (group back : List OpenPlace) (numbers : List ℕ) (still : OrderOfShapes) (within : AreWithin (length by_shape) group)
      (within_back : AreWithin (length by_shape) back) (leaves : LeavesOpen by_shape back numbers still)
      (are : AreAmong (length by_shape) back still.places) where
    count : length still.by_shape ≡ length by_shape
    count = left_count within_back leaves

    within_still : AreWithin (length still.by_shape) still.places
    within_still = subst (λ n. AreWithin n still.places) (sym count) are.within

    abbrev put : ℕ → ℕ → ℕ
    put digit n = digit * ways_of back + n

    -- a digit before a number that later places leave
    few : (later : List OpenPlace) (digit n : ℕ) → digit < ways_of group → n < ways_of later → digit * ways_of later + n < ways_of (group ++ later)
    few later digit n h l =
        omega (arith, mul-add-lt digit (ways_of later) n (ways_of group) h l, ways-append group later, mul_comm (ways_of later) (ways_of group))

    -- a choice's chains, the digit's shape last
    in_turn : (digit n : ℕ) → n < ways_of back
        → (moved other_way (group ++ back) (by_shape, put digit n)).0 ≡ (moved other_way group ((moved other_way back (by_shape, n)).0, digit)).0
    in_turn digit n l = ap (λ r. r.0) (moved-append other_way group back (by_shape, put digit n)
        ∙ ap (moved other_way group) (moved-digits other_way back by_shape within_back digit n l))

    module _ (next : OrderOfShapes) where
      -- Each digit before each number leaves a choice.
      all_left_by : (P : ℕ → Type 0) → ((digit n : ℕ) → P digit → n < ways_of back → IsChoiceLeft by_shape back still n
          → IsChoiceLeft by_shape (group ++ back) next (put digit n)) → (digits : List ℕ) → AllByRecursion P digits
          → AllByRecursion (λ n. n < ways_of back) numbers
          → AllByRecursion (IsChoiceLeft by_shape (group ++ back) next) (combined (ways_of back) digits numbers)
      all_left_by P one digits high low =
          all_joined (IsChoiceLeft by_shape (group ++ back) next) (λ digit. map (put digit) numbers) digits
          (all_weaker P (λ digit. AllByRecursion (IsChoiceLeft by_shape (group ++ back) next) (map (put digit) numbers))
          (λ digit h. all_map (IsChoiceLeft by_shape (group ++ back) next) (put digit) numbers (those digit h numbers low leaves.choices)) digits high)
        where
          those : (digit : ℕ) → P digit → (ns : List ℕ) → AllByRecursion (λ n. n < ways_of back) ns
              → AllByRecursion (IsChoiceLeft by_shape back still) ns → AllByRecursion (λ n. IsChoiceLeft by_shape (group ++ back) next (put digit n)) ns
          those digit h [] l a = tt
          those digit h (n ∷ ns) l a = (one digit n h l.0 a.0, those digit h ns l.1 a.1)

      -- If one digit is left, the shape's chains stay.
      module _ (digit : ℕ) (high : digit < ways_of group) (edge : ℕ) (inside : edge ≤ length by_shape) (ends : AreWithin edge group)
          (begins : AllByRecursion (λ at. edge ≤ at.place) back) (is : next.by_shape ≡ (moved other_way group (still.by_shape, digit)).0)
          (same : next.places ≡ still.places) where
        one_decided : (n : ℕ) → n < ways_of back → IsChoiceLeft by_shape back still n → IsChoiceLeft by_shape (group ++ back) next (put digit n)
        one_decided n l left = (
          left.0,
          subst (λ places. left.0 < ways_of places) (sym same) left.1,
          in_turn digit n l ∙ ap (λ chains. (moved other_way group (chains, digit)).0) left.2
              ∙ moved-either other_way group still.places still.by_shape edge (omega (arith, inside, count)) ends (are.begins edge begins) digit left.0
              ∙ (λ j. (moved other_way (sym same j) (sym is j, left.0)).0),
        )

        decided_based : next.by_shape ≡ (moved other_way (group ++ back) (by_shape, put digit leaves.base)).0
        decided_based = is ∙ ap (λ chains. (moved other_way group (chains, digit)).0) leaves.based ∙ sym (in_turn digit leaves.base leaves.below)

      -- Else its places stay open.
      module _ (is : next.by_shape ≡ still.by_shape) (more : next.places ≡ group ++ still.places) where
        one_open : (digit n : ℕ) → digit < ways_of group → n < ways_of back → IsChoiceLeft by_shape back still n
            → IsChoiceLeft by_shape (group ++ back) next (put digit n)
        one_open digit n h l left =
            let whole = digit * ways_of still.places + left.0 in (
              whole,
              subst (λ places. whole < ways_of places) (sym more) (few still.places digit left.0 h left.1),
              in_turn digit n l ∙ ap (λ chains. (moved other_way group (chains, digit)).0) left.2
                  ∙ sym (ap (λ r. r.0) (moved-append other_way group still.places (still.by_shape, whole)
                  ∙ ap (moved other_way group) (moved-digits other_way still.places still.by_shape within_still digit left.0 left.1)))
                  ∙ (λ j. (moved other_way (sym more j) (sym is j, whole)).0),
            )

        open_based : next.by_shape ≡ (moved other_way (group ++ back) (by_shape, put 0 leaves.base)).0
        open_based = is ∙ leaves.based
            ∙ sym (in_turn 0 leaves.base leaves.below ∙ ap (λ r. r.0) (moved-zero other_way group (moved other_way back (by_shape, leaves.base)).0
            (subst (λ n. AreWithin n group) (sym (moved_count other_way back by_shape leaves.base within_back)) within)))

      pub leaves_more : (digits : List ℕ) → AllByRecursion (λ digit. digit < ways_of group) digits → AllByRecursion (λ n. n < ways_of back) numbers
          → (edge : ℕ) → edge ≤ length by_shape → AreWithin edge group → AllByRecursion (λ at. edge ≤ at.place) back
          → next.by_shape ≡ settled group digits still.by_shape → next.places ≡ still_open group digits still.places
          → LeavesOpen by_shape (group ++ back) (combined (ways_of back) digits numbers) next
      leaves_more digits high low edge inside ends begins shape places = go (length digits == 1) refl
        where
          digit : ℕ
          digit = get_or digits 0 0

          go : (b : Bool) → (length digits == 1) ≡ b → LeavesOpen by_shape (group ++ back) (combined (ways_of back) digits numbers) next
          go true e =
              let lone : digits ≡ digit ∷ [] = one_digit digits (eqb-true (length digits) 1 e) in
              let below : digit < ways_of group = (subst (AllByRecursion (λ d. d < ways_of group)) lone high).0 in
              let is : next.by_shape ≡ (moved other_way group (still.by_shape, digit)).0 =
              shape ∙ ap (λ b. cond b (moved other_way group (still.by_shape, digit)).0 still.by_shape) e in
              let same : next.places ≡ still.places = places ∙ ap (λ b. cond b still.places (group ++ still.places)) e in
              record {
                base = put digit leaves.base;
                below = few back digit leaves.base below leaves.below;
                based = decided_based digit below edge inside ends begins is same;
                choices = all_left_by (λ d. d ≡ digit)
                    (λ d n at l left. subst (λ d. IsChoiceLeft by_shape (group ++ back) next (put d n)) (sym at)
                    (one_decided digit below edge inside ends begins is same n l left)) digits
                    (subst (AllByRecursion (λ d. d ≡ digit)) (sym lone) (refl, tt)) low;
              }
          go false e =
              let is : next.by_shape ≡ still.by_shape =
              shape ∙ ap (λ b. cond b (moved other_way group (still.by_shape, digit)).0 still.by_shape) e in
              let more : next.places ≡ group ++ still.places = places ∙ ap (λ b. cond b still.places (group ++ still.places)) e in
              record {
                base = put 0 leaves.base;
                below = few back 0 leaves.base (some_ways (length by_shape) group within) leaves.below;
                based = open_based is more;
                choices = all_left_by (λ d. d < ways_of group) (one_open is more) digits high low;
              }
