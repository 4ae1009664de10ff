-- The digits of a choice's number, shape by shape.
use Rattle.std.specs.Prelude.{List, [], flat_map, map, ℕ, ◌*◌, ◌+◌, ◌∷◌, ◌≤◌}
use Rattle.std.specs.List.{AllByRecursion}
use Rattle.county_chart.specs.Choices.{ways_at}
use Rattle.county_chart.specs.declared.open_place.OpenPlace.{OpenPlace}
use Rattle.canonical_form.specs.MovedChains.{AreWithin}

-- earlier open places move chains before an edge, and later ones after it
pub record ArePlacesApart (count : ℕ) (front back : List OpenPlace) : Type 0 where
  pub edge : ℕ
  pub inside : edge ≤ count
  pub ends : AreWithin edge front
  pub begins : AllByRecursion (λ at. edge ≤ at.place) back

-- how many choices open places leave
abbrev pub ways_of : List OpenPlace → ℕ
ways_of [] = 1
ways_of (at ∷ places) = at.alike * ways_at at * ways_of places

-- each digit before each number, where the digit counts this many ways
abbrev pub combined : ℕ → List ℕ → List ℕ → List ℕ
combined ways digits numbers = flat_map (λ digit. map (λ number. digit * ways + number) numbers) digits
