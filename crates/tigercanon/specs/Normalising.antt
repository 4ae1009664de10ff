-- The outcome of normalising a set: its canonical text, in memory or on a sink, or why there is none.
use Rattle.std.specs.Prelude.{Bool, Err, List, MatchResult, Ok, Option, Result, false, length, take, true, ℕ, ◌++◌, ◌+◌, ◌<◌, ◌≡◌}
use Rattle.tl_layout.specs.RecordText.{text_of}
use Rattle.tl_layout.specs.declared.record_type.Record.{Record}
use Rattle.county_chart.specs.County.{County, county_of}
use Rattle.county_chart.specs.Renumbering.{AreSame}
use Rattle.canonical_form.specs.Canonical.{IsCanonical}
use Rattle.canonical_form.specs.CountyViews.{plain}
use Rattle.tigercanon.specs.Sets.{IsAcceptedSet, IsCanonicalTextInView, IsSetRefusal}
use Rattle.tigercanon.specs.declared.fault.Fault.TheVariants.{Load, Write}
use Rattle.tigercanon.specs.Faults.{RefusesBy}
use Rattle.tigercanon.specs.Reading.{AreRead, IsFaultOfRead}
use Rattle.tigercanon.specs.declared.fault.Fault.{Fault}
use Rattle.tl_write.specs.declared.fault.WriteFault.{WriteFault}

-- each canonical list that the view shows whole, and whose county is the same as what the view shows of the county of the accepted
-- parts, has this text
abbrev pub IsOnlyTextInView : (County → County) → List (List ℕ) → List ℕ → Type 0
IsOnlyTextInView view parts text = (records canonical : List Record) → IsAcceptedSet parts records → IsCanonical canonical
    → view (county_of canonical) ≡ county_of canonical → AreSame (view (county_of records)) (county_of canonical)
    → text_of canonical ≡ text

-- each canonical list whose county is the same as the county of the accepted parts has this text
abbrev pub IsOnlyText : List (List ℕ) → List ℕ → Type 0
IsOnlyText = IsOnlyTextInView plain

-- the sources were read to their ends, and this text, and no other, is the canonical text, in this view, of the parts that
-- they gave
pub record AreNormalisedInView {R : Type 0} (view : County → County) (remaining : R → Option (List ℕ)) (given : R → ℕ)
    (before after : List R) (text : List ℕ) : Type 0 where
  pub parts : List (List ℕ)
  pub read : AreRead remaining given before after parts
  pub canonical : IsCanonicalTextInView view parts text
  pub only : IsOnlyTextInView view parts text

-- the sources were read to their ends, and this text, and no other, is the canonical text of the parts that they gave
abbrev pub AreNormalised : {R : Type 0} → (R → Option (List ℕ)) → (R → ℕ) → List R → List R → List ℕ → Type 0
AreNormalised remaining = AreNormalisedInView plain remaining

-- the sources were read to their ends, and the parts that they gave are refused for this fault
pub record AreRefusedParts {R : Type 0} (remaining : R → Option (List ℕ)) (given : R → ℕ) (before after : List R) (fault : Fault)
    : Type 0 where
  pub parts : List (List ℕ)
  pub read : AreRead remaining given before after parts
  pub refused : IsSetRefusal parts fault

-- the fault is the sink's failure
abbrev pub is_of_sink : Fault → Bool
is_of_sink (Write _) = true
is_of_sink _ = false

-- what the sources are refused for: a fault in the lines of every set that begins with what was read, and the read that brought it
-- was the last; or that of the parts, which were read to their ends
abbrev pub IsRefusalOfRead : {R : Type 0} → (R → Option (List ℕ)) → (R → ℕ) → (R → ℕ) → List R → List R → Fault → Type 0
IsRefusalOfRead remaining given reads before after (Load fault) = IsFaultOfRead remaining given reads before after fault
IsRefusalOfRead remaining given reads before after fault = AreRefusedParts remaining given before after fault

-- unless it is a failed allocation or the failure of a device or a sink, the fault is what the sources are refused for
abbrev pub ReportsRead : {R : Type 0} → (R → Option (List ℕ)) → (R → ℕ) → (R → ℕ) → List R → List R → Fault → Type 0
ReportsRead remaining given reads before after fault =
    is_of_sink fault ≡ false → RefusesBy (IsRefusalOfRead remaining given reads before after) fault

-- a sink took these bytes, after those that it held
abbrev pub Took : {W : Type 0} → (W → List ℕ → Type 0) → W → W → List ℕ → Type 0
Took holds before after bytes = (held : List ℕ) → holds before held → holds after (held ++ bytes)

-- the sink took the whole text, which has this number of bytes
abbrev pub GoesOut : {W : Type 0} → (W → List ℕ → Type 0) → W → W → List ℕ → ℕ → Type 0
GoesOut holds before after text count = (count ≡ length text) × Took holds before after text

-- the sink took this number of bytes from the beginning of the text, and not all of it
abbrev pub StopsShort : {W : Type 0} → (W → List ℕ → Type 0) → W → W → List ℕ → ℕ → Type 0
StopsShort holds before after text written = (written < length text) × Took holds before after (take written text)

-- the sink took the whole canonical text of the parts in this view, which has the returned number of bytes; or it failed,
-- once, and took only the reported number of bytes from its beginning, not all of it
pub record IsWrittenInView {W : Type 0} (view : County → County) (failed : W → ℕ) (holds : W → List ℕ → Type 0) (parts : List (List ℕ))
    (old new : W) (written : Result ℕ WriteFault) : Type 0 where
  pub text : List ℕ
  pub canonical : IsCanonicalTextInView view parts text
  pub out : MatchResult written (λ count. GoesOut holds old new text count × (failed new ≡ failed old))
      (λ fault. StopsShort holds old new text fault.written × (failed new ≡ failed old + 1))

-- the sink took only the first bytes of the canonical text in this view, this number of them, and not all of it
pub record IsCutOffInView {R W : Type 0} (view : County → County) (remaining : R → Option (List ℕ)) (given : R → ℕ)
    (before after : List R) (holds : W → List ℕ → Type 0) (old new : W) (written : ℕ) : Type 0 where
  pub text : List ℕ
  pub normalised : AreNormalisedInView view remaining given before after text
  pub short : written < length text
  pub took : Took holds old new (take written text)

-- the sink took only the first bytes of the canonical text, this number of them, and not all of it
abbrev pub IsCutOff : {R W : Type 0} → (R → Option (List ℕ)) → (R → ℕ) → List R → List R → (W → List ℕ → Type 0) → W → W → ℕ → Type 0
IsCutOff remaining given before after holds = IsCutOffInView plain remaining given before after holds

-- whether a call stopped because its sink failed
abbrev pub is_stopped : Result ℕ Fault → Bool
is_stopped (Ok _) = false
is_stopped (Err fault) = is_of_sink fault
