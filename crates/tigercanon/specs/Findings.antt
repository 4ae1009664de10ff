-- What is found for two sets, or for two counties and their canonical counties.
use Rattle.std.specs.Prelude.{Err, List, Ok, Result, ℕ, ◌≡◌, ◌≢◌}
use Rattle.county_chart.specs.County.{County}
use Rattle.county_chart.specs.Packing.{packed}
use Rattle.county_chart.specs.Renumbering.{Carries, Renumbering}
use Rattle.tigercanon.specs.Comparing.{AreDifferentInView, AreOneMapInView, IsAcceptable}
use Rattle.tigercanon.specs.declared.library.comparing.Verdict.TheVariants.{Different, Same}
use Rattle.tigercanon.specs.Sets.{CarriesSetInView}
use Rattle.tigercanon.specs.declared.library.comparing.Verdict.{Verdict}

-- that this renaming carries the first onto the second, that some renaming does, that none does, or nothing, because an allocation
-- failed
pub data Finding : Type 0 where
  Carried : Renumbering → Finding
  OneMap : Finding
  TwoMaps : Finding
  NoMemory : Finding

-- the finding holds for what the view shows of two sets, both of which are accepted
abbrev pub IsFound : (County → County) → List (List ℕ) → List (List ℕ) → Finding → Type 0
IsFound view a b (Carried r) = CarriesSetInView view r a b
IsFound view a b OneMap = AreOneMapInView view a b
IsFound view a b TwoMaps = AreDifferentInView view a b
IsFound view a b NoMemory = IsAcceptable a × IsAcceptable b

-- the finding holds for two counties, by their canonical counties, which have the same records exactly if the two describe the same map
abbrev pub IsFoundOfCounties : (a b canon other : County) → Finding → Type 0
IsFoundOfCounties a b canon other (Carried r) = Carries r a b
IsFoundOfCounties a b canon other OneMap = packed canon ≡ packed other
IsFoundOfCounties a b canon other TwoMaps = packed canon ≢ packed other
IsFoundOfCounties a b canon other NoMemory = Unit {0}

-- the finding of a verdict, or `NoMemory` if there is none
abbrev pub finding_of : {E : Type 0} → Result Verdict E → Finding
finding_of (Ok (Same r)) = Carried r
finding_of (Ok Different) = TwoMaps
finding_of (Err _) = NoMemory
