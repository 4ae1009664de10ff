-- Whole lists of records: which are accepted, why the others are refused, and the canonical list of an accepted one.
use Rattle.std.specs.Prelude.{List, ◌≡◌}
use Rattle.tl_layout.specs.declared.record_type.Record.{Record}
use Rattle.county_chart.specs.County.{County, county_of}
use Rattle.county_chart.specs.LinkRules.{IsFirstBrokenRule, IsLinked}
use Rattle.county_chart.specs.Profile.{IsFirstBrokenClause, IsInProfile}
use Rattle.county_chart.specs.Renumbering.{AreSame}
use Rattle.county_chart.specs.declared.fault.LinkFault.{LinkFault}
use Rattle.county_chart.specs.declared.profile_fault.ProfileFault.{ProfileFault}
use Rattle.canonical_form.specs.Canonical.{IsCanonical}
use Rattle.canonical_form.specs.CountyViews.{plain}

-- the records fit together, and their county is in the profile
pub record IsAccepted (records : List Record) : Type 0 where
  pub linked : IsLinked records
  pub profile : IsInProfile (county_of records)

-- the reasons for refusing records that were read
pub data RecordsRefusal : Type 0 where
  Unlinked : LinkFault → RecordsRefusal
  OutOfProfile : ProfileFault → RecordsRefusal

-- the first broken rule, or for records that fit together, the first broken clause of the profile
abbrev pub IsRefusal : List Record → RecordsRefusal → Type 0
IsRefusal records (Unlinked fault) = IsFirstBrokenRule records fault
IsRefusal records (OutOfProfile fault) = IsLinked records × IsFirstBrokenClause (county_of records) fault

-- an accepted list, and a canonical list whose county the view shows whole and which is the same as the view of the first
-- list's county
pub record IsCanonicalInView (view : County → County) (records answer : List Record) : Type 0 where
  pub accepted : IsAccepted records
  pub canonical : IsCanonical answer
  pub own : view (county_of answer) ≡ county_of answer
  pub same : AreSame (view (county_of records)) (county_of answer)

-- an accepted list, and a canonical list with the same county
abbrev pub IsCanonicalOf : List Record → List Record → Type 0
IsCanonicalOf = IsCanonicalInView plain
