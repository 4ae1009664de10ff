-- What the program's jobs do with sources and a sink that count their failures.
use Rattle.std.specs.Prelude.{Err, IfErr, List, None, Ok, Option, Result, ℕ, ◌+◌, ◌≡◌, ◌≢◌, ◌⊎◌}
use Rattle.command_line.specs.declared.plans.Job.{Job}
use Rattle.command_line.specs.declared.plans.Job.TheVariants.{Normalise}
use Rattle.tigercanon.specs.declared.fault.Fault.TheVariants.{Load, Memory, Write}
use Rattle.tigercanon.specs.Normalising.{AreRefusedParts, IsRefusalOfRead, StopsShort, Took}
use Rattle.tigercanon.specs.Reading.{AreRead, NoneFailed, SomeUnread}
use Rattle.tigercanon.specs.Files.{bytes_of}
use Rattle.tigercanon.specs.Outcomes.{GivenOutput, GivenSet}
use Rattle.tigercanon.specs.declared.program.files.Opened.{Opened}
use Rattle.tigercanon.specs.declared.fault.Fault.{Fault}
use Rattle.tigercanon.specs.declared.program.ending.Ending.{Ending}
use Rattle.tigercanon.specs.declared.program.ending.Stopped.{Stopped}
use Rattle.tl_load.specs.declared.fault.LoadFault.TheVariants.{Device}
use Rattle.tl_load.specs.declared.source.Counted.{Counted}
use Rattle.tl_write.specs.declared.fault.WriteFault.{WriteFault}

-- what a job refuses sources for: normalising reads no further than the read that brings a fault, and every other job reads all
-- sources to their ends first
abbrev pub IsRefusalBy : {R : Type 0} → Job → (R → Option (List ℕ)) → (R → ℕ) → (R → ℕ) → List R → List R → Fault → Type 0
IsRefusalBy Normalise remaining given reads before after fault = IsRefusalOfRead remaining given reads before after fault
IsRefusalBy job remaining given reads before after fault = AreRefusedParts remaining given before after fault

-- a set of parts that sources give, as a job's reading left it: it counts as unread only if one of the sources failed, or has no end
abbrev pub set_of_sources : {R : Type 0} → Job → (R → Option (List ℕ)) → (R → ℕ) → (R → ℕ) → (R → ℕ) → List R → List R → GivenSet
set_of_sources job remaining given failed reads before after = record {
  holds = AreRead remaining given before after;
  refused = IsRefusalBy job remaining given reads before after;
  unread = SomeUnread failed reads before after;
}

-- a set of files that count their failures, as a job's reading left it
abbrev pub set_of_counted : {R : Type 0} → Job → (R → Option (List ℕ)) → List (Counted (Opened R)) → List (Counted (Opened R)) → GivenSet
set_of_counted job remaining before after =
    set_of_sources job (λ file. bytes_of remaining file.inner) (λ file. file.given) (λ file. file.failures) (λ file. file.reads) before after

-- no file has failed
abbrev pub NoFileFailed : {R : Type 0} → List (Counted (Opened R)) → List (Counted (Opened R)) → Type 0
NoFileFailed before after = NoneFailed (λ file. file.failures) before after

-- a device failed: a set couldn't be read, or the output failed
abbrev pub DeviceFailed : GivenSet → GivenSet → GivenOutput → Type 0
DeviceFailed first second out = first.unread ⊎ (second.unread ⊎ out.failed)

-- a sink, as printing left it
abbrev pub to_sink : {W : Type 0} → (W → ℕ) → (W → List ℕ → Type 0) → W → W → GivenOutput
to_sink failed holds old new = record {
  got = λ bytes. Took holds old new bytes;
  kept = new ≡ old;
  failed = failed new ≡ failed old + 1;
}

-- what stops a set from being read: a device's fault, if the set couldn't be read, or a failed allocation
abbrev pub StopsReading : Type 0 → Fault → Type 0
StopsReading unread fault = ((fault ≡ Load Device) × unread) ⊎ (fault ≡ Memory)

-- a job that stopped reported another fault than a device's
abbrev pub ReportsNoDevice : Result Ending Stopped → Type 0
ReportsNoDevice result = IfErr result (λ stopped. stopped.fault ≢ Load Device)

-- a job printed a text to a sink and ended in this way: the sink took the whole text, or it failed, once, and took a beginning
abbrev pub PrintsTo : {W : Type 0} → (W → ℕ) → (W → List ℕ → Type 0) → W → W → List ℕ → Ending → Result Ending Stopped → Type 0
PrintsTo failed holds old new text ending (Ok ended) = (ended ≡ ending) × Took holds old new text
PrintsTo failed holds old new text ending (Err stopped) = (fault : WriteFault)
    × (stopped ≡ record { fault = Write fault; set = None }) × (failed new ≡ failed old + 1)
    × StopsShort holds old new text fault.written
