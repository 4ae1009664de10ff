-- What it means that records were taken one after another.
use Rattle.std.specs.Prelude.{List, MatchResult, Result, if◌then◌else◌, is_ok, length, ℕ, ◌++◌, ◌+◌, ◌<◌, ◌≡◌}
use Rattle.tl_layout.specs.declared.record_type.Record.{Record}
use Rattle.tl_write.specs.GoingOut.{HasCounted, HoldsBeginning, IsGoingOut, Waiting}
use Rattle.tl_write.specs.declared.fault.WriteFault.{WriteFault}

-- More text was appended to a text that is being written to a sink; or the sink failed and then holds a beginning of both.
pub record PutsText {W : Type 0} (failed : W → ℕ) (holds : W → List ℕ → Type 0) (more : List ℕ) (before : Waiting) (sink : W)
    (result : Result (Unit {0}) WriteFault) (after : Waiting) (sink_after : W) : Type 0 where
  pub failures : failed sink_after ≡ (if is_ok result then failed sink else failed sink + 1)
  pub counted : (total : ℕ) → HasCounted total before
      → MatchResult result (λ _. HasCounted (total + length more) after) (λ f. f.written < total + length more)
  pub bytes : (held text : List ℕ) → IsGoingOut holds held text before sink
      → MatchResult result (λ _. IsGoingOut holds held (text ++ more) after sink_after)
      (λ f. HoldsBeginning holds held (text ++ more) f.written sink_after)

-- the records were appended to a list
abbrev pub ListsRecords : {E : Type 0} → List Record → List Record → Result (Unit {0}) E → List Record → Type 0
ListsRecords records before result after = MatchResult result (λ _. after ≡ before ++ records) (λ _. Unit {0})
