-- What records of type 1 leave open: the base arrangement, and the places at which the remaining choices differ from it.
use Rattle.std.specs.Prelude.{List, cond, get_or, length, true, ℕ, ◌++◌, ◌<◌, ◌==◌, ◌≡◌}
use Rattle.std.specs.List.{AllByRecursion}
use Rattle.canonical_form.specs.MovedChains.{AreWithin, other_way}
use Rattle.canonical_form.specs.NumberedChoices.{moved}
use Rattle.county_chart.specs.ShapeOrder.{OrderOfShapes}
use Rattle.county_chart.specs.declared.directed_chain.DirectedChain.{DirectedChain}
use Rattle.county_chart.specs.declared.open_place.OpenPlace.{OpenPlace}
use Rattle.tl_number.specs.KeysAlong.{is_open}
use Rattle.tl_number.specs.ShapeDigits.{ways_of}

-- The places still open, of those of a shape and those after it. If one digit is left, it decides where the shape's chains stand.
abbrev pub still_open : List OpenPlace → List ℕ → List OpenPlace → List OpenPlace
still_open places digits behind = cond (length digits == 1) behind (places ++ behind)

-- the arrangement in which they stand there
abbrev pub settled : List OpenPlace → List ℕ → List DirectedChain → List DirectedChain
settled places digits chains = cond (length digits == 1) (moved other_way places (chains, get_or digits 0 0)).0 chains

-- Moves at the places still open make the choice with this number from the base arrangement.
abbrev pub IsChoiceLeft : List DirectedChain → List OpenPlace → OrderOfShapes → ℕ → Type 0
IsChoiceLeft by_shape places still n =
    (digits : ℕ) × (digits < ways_of still.places)
    × ((moved other_way places (by_shape, n)).0 ≡ (moved other_way still.places (still.by_shape, digits)).0)

-- Choices with these numbers differ only at places still open from the base arrangement, which is a choice too.
pub record LeavesOpen (by_shape : List DirectedChain) (places : List OpenPlace) (numbers : List ℕ) (still : OrderOfShapes) : Type 0 where
  pub base : ℕ
  pub below : base < ways_of places
  pub based : still.by_shape ≡ (moved other_way places (by_shape, base)).0
  pub choices : AllByRecursion (IsChoiceLeft by_shape places still) numbers

-- The places still open are within the base arrangement, and are among the open places.
pub record AreStillOpen (places : List OpenPlace) (still : OrderOfShapes) : Type 0 where
  pub within : AreWithin (length still.by_shape) still.places
  pub opened : (place : ℕ) → is_open still.places place ≡ true → is_open places place ≡ true
