-- Moving chains at the open places of the order of shapes, and the places where no chain moves.
use Rattle.std.specs.Prelude.{List, [], length, not, slice_get, ℕ, ⊤, ◌+◌, ◌<◌, ◌∷◌, ◌≡◌, ◌≤◌}
use Rattle.std.specs.List.{AllByRecursion}
use Rattle.county_chart.specs.County.{County}
use Rattle.county_chart.specs.declared.directed_chain.DirectedChain.{DirectedChain}
use Rattle.county_chart.specs.declared.open_place.OpenPlace.{OpenPlace}
use Rattle.canonical_form.specs.WholeArrangements.{AreWhole}

-- the chain in the other direction
abbrev pub other_way : DirectedChain → DirectedChain
other_way directed = record { place = directed.place; turned = not directed.turned }

-- there is a chain at the place, and as many from it on as the place counts
pub record IsWithin (count : ℕ) (at : OpenPlace) : Type 0 where
  pub some : 0 < at.alike
  pub there : at.place + at.alike ≤ count

-- the same for each of these places
abbrev pub AreWithin : ℕ → List OpenPlace → Type 0
AreWithin count places = AllByRecursion (IsWithin count) places

-- an open place moves no chain to or from the place
abbrev pub IsApart : ℕ → OpenPlace → Type 0
IsApart place at = at.place ≤ place → at.place + at.alike ≤ place

-- two lists agree at each place that no open place moves
abbrev pub AgreeApart : {X : Type 0} → List OpenPlace → List X → List X → Type 0
AgreeApart places xs ys = (place : ℕ) → AllByRecursion (IsApart place) places → slice_get xs place ≡ slice_get ys place

-- the open places ascend
abbrev pub ArePlacesInOrder : List OpenPlace → Type 0
ArePlacesInOrder [] = ⊤
ArePlacesInOrder (at ∷ places) = AllByRecursion (λ later. at.place ≤ later.place) places × ArePlacesInOrder places

-- two arrangements of a county, which agree except for what open places move
pub record AgreeButOpen (county : County) (places : List OpenPlace) (one other : List DirectedChain) : Type 0 where
  pub whole : AreWhole county one
  pub other_whole : AreWhole county other
  pub count : length one ≡ length other
  pub within : AreWithin (length one) places
  pub in_order : ArePlacesInOrder places
  pub apart : AgreeApart places one other
