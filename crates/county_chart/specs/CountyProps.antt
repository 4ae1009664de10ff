-- The fact that a county is well-formed has at most one proof.
use Rattle.std.specs.Prelude.{List, [], ℕ, ◌∷◌}
use Rattle.std.specs.declared.cmp.Ordering.{Ordering}
use Rattle.std.proofs.Props.{props}
use Rattle.county_chart.specs.County.{County}
use Rattle.county_chart.specs.CountyRules.{IsCounty}
use Rattle.county_chart.specs.LandmarkParts.{LandmarkParts}
use Rattle.county_chart.specs.StoredCounty.{LinksUnderLands}
use Rattle.ordered_lists.specs.Orders.{IsInOrder}

pub IsInOrder-prop : {X : Type 0} (cmp : X → X → Ordering) (xs : List X) → IsProp (IsInOrder cmp xs)
IsInOrder-prop cmp [] = hlevel props
IsInOrder-prop cmp (x ∷ xs) = let rest : IsProp (IsInOrder cmp xs) = IsInOrder-prop cmp xs in hlevel (props, rest)

pub IsCounty-prop : (c : County) → IsProp (IsCounty c)
IsCounty-prop c = hlevel (props, IsInOrder-prop)

pub LinksUnderLands-prop : (landmarks : List (ℕ × LandmarkParts)) → IsProp (LinksUnderLands landmarks)
LinksUnderLands-prop landmarks = hlevel props
