-- Sets of parts, each a list of bytes: which sets are accepted, what the others are refused for, and the canonical text of a set.
use Rattle.std.specs.Prelude.{List, [], codes, ℕ, ◌++◌, ◌∷◌, ◌≡◌}
use Rattle.tl_layout.specs.Limits.{most_records}
use Rattle.tl_layout.specs.RecordText.{text_of}
use Rattle.tl_layout.specs.declared.record_type.Record.{Record}
use Rattle.tl_load.specs.Choice.{tiger}
use Rattle.tl_load.specs.Outcome.{SpellsWithin}
use Rattle.tl_load.specs.Verdicts.{without_place}
use Rattle.county_chart.specs.County.{County, county_of}
use Rattle.county_chart.specs.LinkRules.{IsLinked}
use Rattle.county_chart.specs.Packing.{Typed, packed, type_after_type}
use Rattle.county_chart.specs.Renumbering.{Carries, Renumbering}
use Rattle.canonical_form.specs.Accepted.{IsAccepted, IsCanonicalInView, IsRefusal, RecordsRefusal}
use Rattle.canonical_form.specs.Accepted.RecordsRefusal.{OutOfProfile, Unlinked}
use Rattle.canonical_form.specs.CountyViews.{plain}
use Rattle.tigercanon.specs.declared.fault.Fault.TheVariants.{Link, Load, Memory, Profile, Write}
use Rattle.tigercanon.specs.Respelling.{IsFirstFault}
use Rattle.tigercanon.specs.declared.fault.Fault.{Fault}

-- the parts spell these records, which are accepted
pub record IsAcceptedSet (parts : List (List ℕ)) (records : List Record) : Type 0 where
  pub spelled : SpellsWithin tiger most_records parts records
  pub accepted : IsAccepted records

-- the parts spell records, which are refused for this
abbrev pub IsRecordsRefusal : List (List ℕ) → RecordsRefusal → Type 0
IsRecordsRefusal parts refusal = (records : List Record) × SpellsWithin tiger most_records parts records × IsRefusal records refusal

-- what a set is refused for: the fault of its first faulty line; if the lines spell records, the first rule that these break; if
-- the records fit together, the first clause of the profile that their county breaks. A sink's failure and a failed allocation are
-- no refusals of a set.
abbrev pub IsSetRefusal : List (List ℕ) → Fault → Type 0
IsSetRefusal parts (Load fault) = IsFirstFault parts fault
IsSetRefusal parts (Link fault) = IsRecordsRefusal parts (Unlinked fault)
IsSetRefusal parts (Profile fault) = IsRecordsRefusal parts (OutOfProfile fault)
IsSetRefusal parts _ = ⊥

-- the refusal without the part and line of a faulty line
abbrev pub refusal_without_place : Fault → Fault
refusal_without_place (Load fault) = Load (without_place fault)
refusal_without_place (Link fault) = Link fault
refusal_without_place (Profile fault) = Profile fault
refusal_without_place (Write fault) = Write fault
refusal_without_place Memory = Memory

-- the parts are accepted, and the text is the line that says so
pub record SaysAccepted (parts : List (List ℕ)) (text : List ℕ) : Type 0 where
  pub records : List Record
  pub accepted : IsAcceptedSet parts records
  pub text_is : text ≡ codes "accepted" ++ 10 ∷ []

-- the text of a canonical list, in this view, of the accepted records that the parts spell
pub record IsCanonicalTextInView (view : County → County) (parts : List (List ℕ)) (text : List ℕ) : Type 0 where
  pub records : List Record
  pub canonical : List Record
  pub spelled : SpellsWithin tiger most_records parts records
  pub canonical_of : IsCanonicalInView view records canonical
  pub text_is : text_of canonical ≡ text

-- the text of a canonical list of the accepted records that the parts spell
abbrev pub IsCanonicalText : List (List ℕ) → List ℕ → Type 0
IsCanonicalText = IsCanonicalTextInView plain

-- both sets are accepted, and the renaming carries what the view shows of the first set's county onto what it shows of the second's
pub record CarriesSetInView (view : County → County) (renaming : Renumbering) (parts others : List (List ℕ)) : Type 0 where
  pub records : List Record
  pub other_records : List Record
  pub accepted : IsAcceptedSet parts records
  pub other_accepted : IsAcceptedSet others other_records
  pub carries : Carries renaming (view (county_of records)) (view (county_of other_records))

-- both sets are accepted, and the renaming carries the county of the first onto the second's
abbrev pub CarriesSet : Renumbering → List (List ℕ) → List (List ℕ) → Type 0
CarriesSet = CarriesSetInView plain

-- the set is one part, which is a canonical text in this view
pub record IsOneCanonicalTextInView (view : County → County) (parts : List (List ℕ)) (text : List ℕ) : Type 0 where
  pub whole : List (List ℕ)
  pub canonical : IsCanonicalTextInView view whole text
  pub parts_are : parts ≡ text ∷ []

-- the set is one part, which is a canonical text
abbrev pub IsOneCanonicalText : List (List ℕ) → List ℕ → Type 0
IsOneCanonicalText = IsOneCanonicalTextInView plain

-- the set is accepted, and the county is what the view shows of the county of its records
pub record IsViewedSet (view : County → County) (parts : List (List ℕ)) (county : County) : Type 0 where
  pub records : List Record
  pub accepted : IsAcceptedSet parts records
  pub county_is : county ≡ view (county_of records)

-- the set is accepted, the first county is what the view shows of the county of its records, and the second county has their
-- canonical records
pub record IsCanonSetInView (view : County → County) (parts : List (List ℕ)) (county canon : County) : Type 0 where
  pub records : List Record
  pub accepted : IsAcceptedSet parts records
  pub county_is : county ≡ view (county_of records)
  pub canonical : IsCanonicalInView view records (packed canon)

-- the records fit together, and the tables have their county
abbrev pub AreLinkedAs : Typed → List Record → Type 0
AreLinkedAs tables records = IsLinked records × (county_of (type_after_type tables) ≡ county_of records)

-- the parts spell records which fit together, and the tables have their county
abbrev pub IsLinkedSet : List (List ℕ) → Typed → Type 0
IsLinkedSet parts tables = (records : List Record) × SpellsWithin tiger most_records parts records × AreLinkedAs tables records
