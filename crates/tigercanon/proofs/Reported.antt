-- Faults reported for parts that were read, as faults reported for parts and for two sets.
use Rattle.tigercanon.proofs.Common.{CompareFault, Err, Fault, IfErr, IfErr-at_err, IfErr-weaker, IsAcceptedSet, IsFirstFault, IsNotDevice, IsOfLines, IsWantOfMemory, Link, List, Load, LoadFault, Memory, Profile, Record, ReportsMemoryOfAccepted, ReportsRefusal, ReportsRefusalOfOne, ReportsRefusalOfOneRead, ReportsRefusalOfRead, Result, SpellsWithin, Write, accepted_no_fault, ap, inl, inr, most_records, refl, tiger, tiger_is_sound, ℕ, ◌≢◌}
use Rattle.tigercanon.proofs.Sets.{accepted_set_not_refused}
use Rattle.tigercanon.specs.declared.library.comparing.CompareFault.TheVariants.{In, Memory as NoMemory}
use Rattle.county_chart.specs.declared.fault.LinkFault.TheVariants.{Memory as LinkMemory}
use Rattle.county_chart.specs.declared.profile_fault.ProfileFault.TheVariants.{Memory as ProfileMemory}
use Rattle.tl_load.specs.declared.fault.LoadFault.TheVariants as faults

-- parts that spell records can only be refused because an allocation failed
pub memory_alone : (parts : List (List ℕ)) (records : List Record) (f : LoadFault) → SpellsWithin tiger most_records parts records
    → (IsOfLines f → IsFirstFault parts f) → IsNotDevice f → IsWantOfMemory (Load f)
memory_alone parts records faults.Device accepts first other = other
memory_alone parts records faults.Memory accepts first other = tt
memory_alone parts records f accepts first other =
    absurd (accepted_no_fault tiger tiger_is_sound most_records parts records _ accepts (first tt))

is_not_device : (f : LoadFault) → f ≢ faults.Device → IsNotDevice f
is_not_device faults.Device other = other refl
is_not_device f other = tt

-- for an accepted set only out of memory can be reported
module _ (parts : List (List ℕ)) (records : List Record) (accepted : IsAcceptedSet parts records) where
  pub accepted_wants_memory : (f : Fault) → ReportsRefusalOfRead parts f → IsWantOfMemory f
  accepted_wants_memory (Load f) reported = memory_alone parts records f accepted.spelled reported.0 (is_not_device f (λ e. reported.1 (ap Load e)))
  accepted_wants_memory (Link LinkMemory) reported = tt
  accepted_wants_memory (Link f) reported = absurd (accepted_set_not_refused parts records (Link f) accepted (reported.0 (λ e. cc)))
  accepted_wants_memory (Profile ProfileMemory) reported = tt
  accepted_wants_memory (Profile f) reported = absurd (accepted_set_not_refused parts records (Profile f) accepted (reported.0 (λ e. cc)))
  accepted_wants_memory (Write f) reported = reported.0
  accepted_wants_memory Memory reported = tt

module _ {T : Type 0} (parts : List (List ℕ)) (r : Result T Fault) (reported : IfErr r (ReportsRefusalOfRead parts)) where
  pub reported_refused : IfErr r (ReportsRefusal parts)
  reported_refused = IfErr-weaker r _ _ (λ f h. h.0) reported

  pub reported_no_device : r ≢ Err (Load faults.Device)
  reported_no_device e = (IfErr-at_err (ReportsRefusalOfRead parts) e reported).1 refl

  pub reported_succeeds : (records : List Record) → IsAcceptedSet parts records → IfErr r IsWantOfMemory
  reported_succeeds records accepted = IfErr-weaker r _ _ (accepted_wants_memory parts records accepted) reported

-- the same for two sets
module _ (a b : List (List ℕ)) where
  pub one_refused : (f : CompareFault) → ReportsRefusalOfOneRead a b f → ReportsRefusalOfOne a b f
  one_refused (In set f) (inl h) = inl (h.0, h.1.0)
  one_refused (In set f) (inr h) = inr (h.0, h.1, h.2.0)
  one_refused NoMemory h = absurd h

  pub one_succeeds : (f : CompareFault) → ReportsRefusalOfOneRead a b f → ReportsMemoryOfAccepted a b f
  one_succeeds (In set f) (inl h) = (
    (λ is accepted. accepted_wants_memory a accepted.0 accepted.1 f h.1),
    (λ is accepted. absurd cc),
  )
  one_succeeds (In set f) (inr h) = (
    (λ is accepted. absurd cc),
    (λ is accepted. accepted_wants_memory b accepted.0 accepted.1 f h.2),
  )
  one_succeeds NoMemory h = absurd h
