-- The profile of a county, and which clause of it a county breaks.
use Rattle.std.specs.Prelude.{Bool, List, [], false, nat_lt, ℕ, ◌∷◌, ◌≡◌}
use Rattle.county_chart.specs.declared.profile_fault.ProfileFault.TheVariants.{Memory, PolygonWithoutChain, TooSymmetric}
use Rattle.county_chart.specs.Choices.{choices, most_choices}
use Rattle.county_chart.specs.County.{County}
use Rattle.county_chart.specs.CountyRules.{is_without_chain}
use Rattle.county_chart.specs.FirstOf.{IsFirst}
use Rattle.county_chart.specs.PolygonKeys.{PolygonKey}
use Rattle.county_chart.specs.declared.profile_fault.ProfileFault.{ProfileFault}

-- whether a clause of the profile is broken at a place
abbrev pub is_clause_broken : County → ProfileFault → Bool
is_clause_broken county (PolygonWithoutChain cenid polyid) = is_without_chain county (cenid, polyid)
is_clause_broken county TooSymmetric = nat_lt most_choices (choices county)
is_clause_broken county Memory = false

-- the clause's number, and then the place: the CENID's bytes, the POLYID; a clause of the whole county has no place
abbrev pub profile_fault_place : ProfileFault → List (List ℕ)
profile_fault_place (PolygonWithoutChain cenid polyid) = (23 ∷ []) ∷ cenid ∷ (polyid ∷ []) ∷ []
profile_fault_place TooSymmetric = (24 ∷ []) ∷ []
profile_fault_place Memory = (9 ∷ []) ∷ []

-- no clause is broken anywhere: each polygon with a type P record is on a side, and at most as many choices are
-- open as are tried
abbrev pub IsInProfile : County → Type 0
IsInProfile county = (fault : ProfileFault) → is_clause_broken county fault ≡ false

-- this clause is broken at this place, no clause with a lower number is broken, and this one is broken at no lower
-- place
abbrev pub IsFirstBrokenClause : County → ProfileFault → Type 0
IsFirstBrokenClause county = IsFirst (is_clause_broken county) profile_fault_place

-- the clause on polygons holds: each polygon with a type P record is on a side
abbrev pub AreAllOnSides : County → Type 0
AreAllOnSides county = (key : PolygonKey) → is_without_chain county key ≡ false
