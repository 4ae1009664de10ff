-- A set is refused for the fault of its records.
use Rattle.tigercanon.proofs.Common.{AreRead, AreRefusedParts, Fault, HoldsByType, HoldsWithinLimits, IsSetRefusal, Link, List, Load, Memory, Option, Profile, Record, RefusesBy, RefusesSpelled, ReportsRead, SpellsWithin, Tables, Write, accepted_within, false, is_of_sink, most_records, refl, spelled_fit, tiger, ℕ, ◌≡◌}

-- what refuses one thing for a fault may refuse another for it
pub refused_weaker : (p q : Fault → Type 0) → ((f : Fault) → p f → q f) → (f : Fault) → RefusesBy p f → RefusesBy q f
refused_weaker p q weaker (Load f) h = λ of. weaker (Load f) (h of)
refused_weaker p q weaker (Link f) h = λ ne. weaker (Link f) (h ne)
refused_weaker p q weaker (Profile f) h = λ ne. weaker (Profile f) (h ne)
refused_weaker p q weaker (Write f) h = absurd h
refused_weaker p q weaker Memory h = tt

-- a fault for which something is refused isn't a sink's
pub not_of_sink : (p : Fault → Type 0) (f : Fault) → RefusesBy p f → is_of_sink f ≡ false
not_of_sink p (Write f) h = absurd h
not_of_sink p f h = refl

-- the fault of the records of parts that were read is reported for what was read
pub read_refused : {R : Type 0} (remaining : R → Option (List ℕ)) (given reads : R → ℕ) (before after : List R) (parts : List (List ℕ))
    → AreRead remaining given before after parts → (f : Fault) → RefusesSpelled parts f
    → ReportsRead remaining given reads before after f
read_refused remaining given reads before after parts read (Load f) h = absurd (h.1 f refl)
read_refused remaining given reads before after parts read f h = λ none.
    refused_weaker (IsSetRefusal parts) (AreRefusedParts remaining given before after)
    (λ g refused. record { parts = parts; read = read; refused = refused }) f h.0

-- tables of the records that parts spell have records within their limits
pub within_limits : (parts : List (List ℕ)) (tables : Tables) (records : List Record) → HoldsByType tables records
    → SpellsWithin tiger most_records parts records → HoldsWithinLimits tables
within_limits parts tables records holds spelled = record {
  records = records;
  holds = holds;
  fits = spelled_fit parts records spelled.spells;
  few = accepted_within most_records parts records spelled;
}
