-- The exit status, and what it says about a job.
use Rattle.tigercanon.proofs.Common.{Compare, Contains, Device, DeviceFailed, Different, Does, Done, Ending, Err, Fault, GivenOutput, GivenSet, HasRun, HoldsAccepted, IfErr, IsDifferent, IsDone, IsOfNoLines, IsPartOnly, IsReportedWhy, Job, LeavesStopped, Link, List, Load, Mask, Memory, Ok, OnOk, Option, Profile, RefusesOne, ReportsFor, ReportsNoDevice, ReportsSet, Result, Stopped, Write, [], ap, arith, fault_line, inl, inr, lit<, refl, status_of, status_of_outcome, sym, ℕ, ◌<◌, ◌∙◌, ◌∷◌, ◌≡◌, ◌≢◌, ◌≤◌, ◌⊎◌}
use Rattle.county_chart.specs.declared.fault.LinkFault.TheVariants.{Memory as LinkMemory}
use Rattle.county_chart.specs.declared.profile_fault.ProfileFault.TheVariants.{Memory as ProfileMemory}
use Rattle.tl_load.specs.declared.fault.LoadFault.TheVariants.{Memory as LoadMemory}

-- each fault has one of the statuses above 1
status_above : (f : Fault) → (1 < status_of f) × Contains (0 ∷ 1 ∷ 3 ∷ 4 ∷ 5 ∷ []) (status_of f)
status_above (Load Device) = (lit< tt, (3, lit< tt, refl))
status_above (Load LoadMemory) = (lit< tt, (4, lit< tt, refl))
status_above (Load f) = (lit< tt, (2, lit< tt, refl))
status_above (Link LinkMemory) = (lit< tt, (4, lit< tt, refl))
status_above (Link f) = (lit< tt, (2, lit< tt, refl))
status_above (Profile ProfileMemory) = (lit< tt, (4, lit< tt, refl))
status_above (Profile f) = (lit< tt, (2, lit< tt, refl))
status_above (Write f) = (lit< tt, (3, lit< tt, refl))
status_above Memory = (lit< tt, (4, lit< tt, refl))

pub status_is_one : (r : Result Ending Stopped) → Contains (0 ∷ 1 ∷ 3 ∷ 4 ∷ 5 ∷ []) (status_of_outcome r)
status_is_one (Ok Done) = (0, lit< tt, refl)
status_is_one (Ok Different) = (1, lit< tt, refl)
status_is_one (Err stopped) = (status_above stopped.fault).1

-- a fault with the status of a refusal is none of a device or of memory
not_refusal : (fault : Fault) → IsOfNoLines fault → status_of fault ≡ 3 → ⊥
not_refusal (Load Device) h s = omega (arith, s)
not_refusal Memory h s = omega (arith, s)
not_refusal fault h s = absurd h

set_refused : (set : GivenSet) (fault : Fault) → ReportsSet set fault → status_of fault ≡ 3 → set.refused fault
set_refused set (Load Device) reported s = absurd (omega (arith, s))
set_refused set (Load LoadMemory) reported s = absurd (omega (arith, s))
set_refused set (Load f) reported s = reported.0 tt
set_refused set (Link LinkMemory) reported s = absurd (omega (arith, s))
set_refused set (Link f) reported s = reported.0 (λ e. cc)
set_refused set (Profile ProfileMemory) reported s = absurd (omega (arith, s))
set_refused set (Profile f) reported s = reported.0 (λ e. cc)
set_refused set fault reported s = absurd (omega (arith, s))

module _ (first second : GivenSet) where
  reported_refused : (job : Job) (fault : Fault) (set : Option ℕ) → ReportsFor job first second fault set → status_of fault ≡ 3
      → RefusesOne job first second
  reported_refused Compare fault set (inl reported) s = (fault, inl (set_refused first fault reported.1 s))
  reported_refused Compare fault set (inr reported) s = (fault, inr (go reported.2, set_refused second fault reported.3 s))
    where
      go : HoldsAccepted first ⊎ IsOfNoLines fault → HoldsAccepted first
      go (inl accepted) = accepted
      go (inr none) = absurd (not_refusal fault none s)
  reported_refused job fault set reported s = (fault, reported.1.1, set_refused first fault reported.1.0 s)

-- a device that is reported failed
reported_device : (first second : GivenSet) (out : GivenOutput) (job : Job) (set : Option ℕ) → ReportsFor job first second (Load Device) set
    → DeviceFailed first second out
reported_device first second out Compare set (inl reported) = inl (reported.1.1 refl)
reported_device first second out Compare set (inr reported) = inr (inl (reported.3.1 refl))
reported_device first second out job set reported = inl (reported.1.0.1 refl)

pub unreported : {P : Type 0} (r : Result Ending Stopped) → OnOk r P → status_of_outcome r ≤ 1 → P
unreported (Ok ending) kept most = kept
unreported (Err stopped) kept most = let above = (status_above stopped.fault).0 in absurd (omega (arith, above, most))

-- what a job's status says about its sets and its output
module _ (mask : Mask) (job : Job) (first second : GivenSet) (out : GivenOutput) where
  left_refused : (fault : Fault) (set : Option ℕ) → LeavesStopped mask job first second out fault set → status_of fault ≡ 3
      → RefusesOne job first second
  left_refused (Write f) set left s = absurd (omega (arith, s))
  left_refused fault set left s = reported_refused first second job fault set left.1 s

  left_kept : (fault : Fault) (set : Option ℕ) → LeavesStopped mask job first second out fault set → status_of fault ≢ 4 → out.kept
  left_kept (Write f) set left s = absurd (s refl)
  left_kept fault set left s = left.0

  left_some : (fault : Fault) (set : Option ℕ) → LeavesStopped mask job first second out fault set → IsPartOnly mask job first second out
  left_some (Write f) set left = inr (f.written, left.2)
  left_some fault set left = inl left.0

  left_device : (fault : Fault) (set : Option ℕ) → LeavesStopped mask job first second out fault set → status_of fault ≡ 4
      → DeviceFailed first second out
  left_device (Write f) set left s = inr (inr left.1)
  left_device (Load Device) set left s = reported_device first second out job set left.1
  left_device (Link LinkMemory) set left s = absurd (omega (arith, s))
  left_device (Profile ProfileMemory) set left s = absurd (omega (arith, s))
  left_device fault set left s = absurd (omega (arith, s))

  pub done : (r : Result Ending Stopped) → Does mask job first second out r → status_of_outcome r ≡ 0 → IsDone mask job first second out
  done (Ok Done) did s = did
  done (Ok Different) did s = absurd (omega (arith, s))
  done (Err stopped) did s = let above = (status_above stopped.fault).0 in absurd (omega (arith, above, s))

  pub different : (r : Result Ending Stopped) → Does mask job first second out r → status_of_outcome r ≡ 1
      → IsDifferent mask job first second out
  different (Ok Done) did s = absurd (omega (arith, s))
  different (Ok Different) did s = did
  different (Err stopped) did s = let above = (status_above stopped.fault).0 in absurd (omega (arith, above, s))

  -- a job with a status above 1 stopped
  pub why : (r : Result Ending Stopped) (status : ℕ) (reported : List ℕ → Type 0) → Does mask job first second out r
      → status ≡ status_of_outcome r → IfErr r (λ stopped. reported (fault_line stopped.fault stopped.set)) → 1 < status
      → IsReportedWhy mask job first second out reported status
  why (Ok Done) status reported did is line some = absurd (omega (arith, is, some))
  why (Ok Different) status reported did is line some = absurd (omega (arith, is, some))
  why (Err stopped) status reported did is line some =
      record { fault = stopped.fault; set = stopped.set; status_is = is; left = did; line = line }

  -- all that the status says
  pub run_with : (r : Result Ending Stopped) (status : ℕ) (reported : List ℕ → Type 0) (silent : Type 0) → Does mask job first second out r
      → status ≡ status_of_outcome r → IfErr r (λ stopped. reported (fault_line stopped.fault stopped.set)) → OnOk r silent
      → HasRun mask job first second out reported silent status
  run_with r status reported silent did is line none = record {
    statuses = rw is (status_is_one r);
    done = λ zero. done r did (sym is ∙ zero);
    different = λ one. different r did (sym is ∙ one);
    stopped = λ above. why r status reported did is line above;
    silent = λ most. unreported r none (omega (arith, is, most));
  }

  module _ (reported : List ℕ → Type 0) (status : ℕ) (stopped : IsReportedWhy mask job first second out reported status) where
    pub refused : status ≡ 3 → RefusesOne job first second
    refused three = left_refused stopped.fault stopped.set stopped.left (sym stopped.status_is ∙ three)

    pub kept : status ≢ 4 → out.kept
    kept other = left_kept stopped.fault stopped.set stopped.left (λ four. other (stopped.status_is ∙ four))

    pub device : status ≡ 4 → DeviceFailed first second out
    device four = left_device stopped.fault stopped.set stopped.left (sym stopped.status_is ∙ four)

    pub some : IsPartOnly mask job first second out
    some = left_some stopped.fault stopped.set stopped.left

-- a job with another status than a device's reported none
pub no_device_reported : (r : Result Ending Stopped) → status_of_outcome r ≢ 4 → ReportsNoDevice r
no_device_reported (Ok ending) other = tt
no_device_reported (Err stopped) other = λ e. other (ap status_of e)
