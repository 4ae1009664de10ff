-- The outcome of comparing two sets: whether they describe the same map, and why there may be no verdict.
use Rattle.std.specs.Prelude.{List, ℕ, ◌≡◌, ◌⊎◌}
use Rattle.tl_layout.specs.declared.record_type.Record.{Record}
use Rattle.county_chart.specs.County.{County, county_of}
use Rattle.county_chart.specs.Renumbering.{AreSame, Renumbering}
use Rattle.canonical_form.specs.CountyViews.{plain}
use Rattle.tigercanon.specs.Faults.{IsWantOfMemory, ReportsRefusal, ReportsRefusalOfRead}
use Rattle.tigercanon.specs.Sets.{CarriesSetInView, IsAcceptedSet}
use Rattle.tigercanon.specs.declared.library.comparing.CompareFault.TheVariants.{In, Memory}
use Rattle.tigercanon.specs.declared.library.comparing.CompareFault.{CompareFault}

-- both sets are accepted, and no renaming carries what the view shows of the first set's county onto what it shows of the second's
pub record AreDifferentInView (view : County → County) (a b : List (List ℕ)) : Type 0 where
  pub records : List Record
  pub others : List Record
  pub first : IsAcceptedSet a records
  pub second : IsAcceptedSet b others
  pub not_same : AreSame (view (county_of records)) (view (county_of others)) → ⊥

-- both sets are accepted, and no renaming carries the county of the first onto the second's
abbrev pub AreDifferent : List (List ℕ) → List (List ℕ) → Type 0
AreDifferent = AreDifferentInView plain

-- both sets are accepted, and some renaming carries what the view shows of the first onto what it shows of the second
abbrev pub AreOneMapInView : (County → County) → List (List ℕ) → List (List ℕ) → Type 0
AreOneMapInView view a b = (r : Renumbering) × CarriesSetInView view r a b

-- both sets are accepted, and some renaming carries the first onto the second
abbrev pub AreOneMap : List (List ℕ) → List (List ℕ) → Type 0
AreOneMap = AreOneMapInView plain

-- the set is accepted
abbrev pub IsAcceptable : List (List ℕ) → Type 0
IsAcceptable parts = (records : List Record) × IsAcceptedSet parts records

-- What a fault means for two sets: except for a device's fault and a failed allocation, it is what the set that it names is refused
-- for, the first set, or the second if the first is accepted. If a failed allocation names no set, both sets are accepted.
abbrev pub ReportsRefusalOfOne : List (List ℕ) → List (List ℕ) → CompareFault → Type 0
ReportsRefusalOfOne a b (In set fault) =
    ((set ≡ 1) × ReportsRefusal a fault) ⊎ ((set ≡ 2) × IsAcceptable a × ReportsRefusal b fault)
ReportsRefusalOfOne a b Memory = IsAcceptable a × IsAcceptable b

-- the same for parts that have been read: no fault is a device's, and each fault names a set
abbrev pub ReportsRefusalOfOneRead : List (List ℕ) → List (List ℕ) → CompareFault → Type 0
ReportsRefusalOfOneRead a b (In set fault) =
    ((set ≡ 1) × ReportsRefusalOfRead a fault) ⊎ ((set ≡ 2) × IsAcceptable a × ReportsRefusalOfRead b fault)
ReportsRefusalOfOneRead a b Memory = ⊥

-- for a set that is accepted the only fault is a failed allocation
abbrev pub ReportsMemoryOfAccepted : List (List ℕ) → List (List ℕ) → CompareFault → Type 0
ReportsMemoryOfAccepted a b (In set fault) =
    (set ≡ 1 → IsAcceptable a → IsWantOfMemory fault) × (set ≡ 2 → IsAcceptable b → IsWantOfMemory fault)
ReportsMemoryOfAccepted a b Memory = Unit {0}
