-- What a job over sources and a sink did.
use Rattle.tigercanon.proofs.Common.{Compare, CompareFault, Device, Does, Done, Ending, Err, Fault, GivenOutput, GivenSet, IsCutOffInView, IsSetRefusal, IsTextOf, Job, LeavesStopped, List, Load, Mask, None, Normalise, Ok, OneFailed, Option, PrintsTo, ReportsFor, ReportsOne, ReportsRead, ReportsRefusalOfOneRead, ReportsRefusalOfRead, ReportsSet, Result, Some, SomeUnread, Stopped, Write, WriteFault, ap, false, inl, inr, is_of_sink, masked, refl, set_of_sources, stopped_by, subst, sym, to_sink, true, ℕ, ◌+◌, ◌∷◌, ◌≡◌}
use Rattle.tigercanon.proofs.Refusing.{refused_weaker}
use Rattle.tigercanon.specs.declared.library.comparing.CompareFault.TheVariants.{In, Memory as NoMemory}

-- a source that failed couldn't be read
unread_of_failed : {R : Type 0} (failed reads : R → ℕ) (before after : List R) → OneFailed failed before after
    → SomeUnread failed reads before after
unread_of_failed failed reads (b ∷ bs) (n ∷ ns) (inl h) = inl (inl h.0)
unread_of_failed failed reads (b ∷ bs) (n ∷ ns) (inr h) = inr (unread_of_failed failed reads bs ns h.1)
unread_of_failed failed reads before after h = absurd h

module _ (known : GivenSet) where
  -- the fault of parts of the set, after reading
  pub read_reported : (parts : List (List ℕ)) → ((fault : Fault) → IsSetRefusal parts fault → known.refused fault) → (fault : Fault)
      → ReportsRefusalOfRead parts fault → ReportsSet known fault
  read_reported parts refuse fault t = (refused_weaker (IsSetRefusal parts) known.refused refuse fault t.0, λ is. absurd (t.1 is))

-- the fault of one of two sets that were compared
module _ (first second : GivenSet) where
  pub one_reported : (a b : List (List ℕ)) → first.holds a → ((f : Fault) → IsSetRefusal a f → first.refused f)
      → ((f : Fault) → IsSetRefusal b f → second.refused f) → (reported : CompareFault) → ReportsRefusalOfOneRead a b reported
      → ReportsOne first second (stopped_by reported).fault (stopped_by reported).set
  one_reported a b held refuse other (In set f) (inl reported) = inl (ap Some reported.0, read_reported first a refuse f reported.1)
  one_reported a b held refuse other (In set f) (inr reported) = inr (
    ap Some reported.0,
    (a, held),
    inl (record { parts = a; held = held; records = reported.1.0; accepted = reported.1.1 }),
    read_reported second b other f reported.2,
  )
  one_reported a b held refuse other NoMemory reported = absurd reported

-- ---- the end of a job

module _ (mask : Mask) (first second : GivenSet) where
  -- a fault that is reported for the sets leaves the output alone
  pub left_untouched : (out : GivenOutput) → out.kept → (job : Job) (fault : Fault) (set : Option ℕ) → ReportsFor job first second fault set
      → LeavesStopped mask job first second out fault set
  left_untouched out kept Compare (Write f) set (inl reported) = absurd reported.1.0
  left_untouched out kept Compare (Write f) set (inr reported) = absurd reported.3.0
  left_untouched out kept job (Write f) set reported = absurd reported.1.0.0
  left_untouched out kept job fault set reported = (kept, reported)

  -- a job that has its text prints it, or stops at the output
  pub text_printed : {W : Type 0} (failed : W → ℕ) (holds : W → List ℕ → Type 0) (old new : W) (job : Job) (ending : Ending)
      (text : List ℕ) → IsTextOf mask job first second ending text → (r : Result Ending Stopped)
      → PrintsTo failed holds old new text ending r → Does mask job first second (to_sink failed holds old new) r
  text_printed failed holds old new job ending text is (Ok ended) h = record {
    text = text;
    answered = subst (λ e. IsTextOf mask job first second e text) (sym h.0) is;
    printed = h.1;
  }
  text_printed failed holds old new job ending text is (Err stopped) h =
      subst (λ (s : Stopped). LeavesStopped mask job first second (to_sink failed holds old new) s.fault s.set) (sym h.1)
      (refl, h.2, record { text = text; answered = (ending, is); printed = h.3.1; short = h.3.0 })

module _ {R : Type 0} (remaining : R → Option (List ℕ)) (given failed reads : R → ℕ) (before after : List R) where
  -- the state after normalising to a sink
  pub normalised_leave : {W : Type 0} (sink_failed : W → ℕ) (holds : W → List ℕ → Type 0) (old new : W) (mask : Mask) (fault : Fault)
      → ((f : WriteFault) → fault ≡ Write f → IsCutOffInView (masked mask) remaining given before after holds old new f.written)
      → (is_of_sink fault ≡ true → sink_failed new ≡ sink_failed old + 1)
      → ReportsRead remaining given reads before after fault → (is_of_sink fault ≡ false → new ≡ old)
      → (fault ≡ Load Device → OneFailed failed before after) → (second : GivenSet)
      → LeavesStopped mask Normalise (set_of_sources Normalise remaining given failed reads before after) second (to_sink sink_failed holds old new)
      fault None
  normalised_leave sink_failed holds old new mask (Write f) cut rose reported same device second =
      let c = cut f refl in (
        refl,
        rose refl,
        record {
          text = c.text;
          answered = (Done, record { parts = c.normalised.parts; held = c.normalised.read; answered = c.normalised.canonical });
          printed = c.took;
          short = c.short;
        },
      )
  normalised_leave sink_failed holds old new mask fault cut rose reported same device second =
      (same refl, (refl, ((reported refl, λ is. unread_of_failed failed reads before after (device is)), tt)))
