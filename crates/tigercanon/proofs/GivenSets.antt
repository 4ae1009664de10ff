-- A statement about a set and its output holds for another set if every fact about the first is a fact about the second.
use Rattle.tigercanon.proofs.Common.{Compare, Different, Does, Done, Ending, Err, Fault, GivenOutput, GivenSet, HasRun, HoldsAccepted, IsOfNoLines, IsReportedWhy, IsTextOf, Job, LeavesStopped, List, Mask, OfTwoSets, Ok, Option, ReportsFor, ReportsSet, Result, Stopped, Write, fault_line, inl, inr, ℕ, ◌⊎◌}
use Rattle.tigercanon.proofs.Refusing.{refused_weaker}

-- every fact about one set is a fact about the other
pub record IsKnownOf (a b : GivenSet) : Type 0 where
  pub holds : (parts : List (List ℕ)) → a.holds parts → b.holds parts
  pub refused : (fault : Fault) → a.refused fault → b.refused fault
  pub unread : a.unread → b.unread

-- and the same for the output
pub record IsPrintedTo (x y : GivenOutput) : Type 0 where
  pub got : (bytes : List ℕ) → x.got bytes → y.got bytes
  pub kept : x.kept → y.kept
  pub failed : x.failed → y.failed

set_reported : (a b : GivenSet) → IsKnownOf a b → (fault : Fault) → ReportsSet a fault → ReportsSet b fault
set_reported a b known fault t = (refused_weaker a.refused b.refused known.refused fault t.0, λ is. known.unread (t.1 is))

module _ (a b c d : GivenSet) (first : IsKnownOf a b) (second : IsKnownOf c d) where
  of_two : (holds : List (List ℕ) → List (List ℕ) → Type 0) → OfTwoSets holds a c → OfTwoSets holds b d
  of_two holds h = record {
    parts = h.parts;
    others = h.others;
    held = first.holds h.parts h.held;
    others_held = second.holds h.others h.others_held;
    fact = h.fact;
  }

  text_of : (mask : Mask) (job : Job) (ending : Ending) (text : List ℕ) → IsTextOf mask job a c ending text → IsTextOf mask job b d ending text
  text_of mask Compare ending text h = (of_two _ h.0, h.1)
  text_of mask job Done text h = record { parts = h.parts; held = first.holds h.parts h.held; answered = h.answered }
  text_of mask job Different text h = absurd h

  reported_of : (job : Job) (fault : Fault) (set : Option ℕ) → ReportsFor job a c fault set → ReportsFor job b d fault set
  reported_of Compare fault set (inl t) = inl (t.0, set_reported a b first fault t.1)
  reported_of Compare fault set (inr t) = inr (t.0, (t.1.0, first.holds t.1.0 t.1.1), go t.2, set_reported c d second fault t.3)
    where
      go : HoldsAccepted a ⊎ IsOfNoLines fault → HoldsAccepted b ⊎ IsOfNoLines fault
      go (inl h) = inl (record { parts = h.parts; held = first.holds h.parts h.held; records = h.records; accepted = h.accepted })
      go (inr h) = inr h
  reported_of job fault set t = (t.0, (set_reported a b first fault t.1.0, t.1.1))

  module _ (mask : Mask) (job : Job) (x y : GivenOutput) (to : IsPrintedTo x y) where
    stopped_of : (fault : Fault) (set : Option ℕ) → LeavesStopped mask job a c x fault set → LeavesStopped mask job b d y fault set
    stopped_of (Write f) set l =
        let h = l.2 in (
          l.0,
          to.failed l.1,
          record {
            text = h.text;
            answered = (h.answered.0, text_of mask job h.answered.0 h.text h.answered.1);
            printed = to.got _ h.printed;
            short = h.short;
          },
        )
    stopped_of fault set l = (to.kept l.0, reported_of job fault set l.1)

    pub does_of : (r : Result Ending Stopped) → Does mask job a c x r → Does mask job b d y r
    does_of (Ok ending) h = record { text = h.text; answered = text_of mask job ending h.text h.answered; printed = to.got h.text h.printed }
    does_of (Err stopped) h = stopped_of stopped.fault stopped.set h

    pub why_of : (told said : List ℕ → Type 0) → ((line : List ℕ) → told line → said line) → (status : ℕ)
        → IsReportedWhy mask job a c x told status → IsReportedWhy mask job b d y said status
    why_of told said same status why = record {
      fault = why.fault;
      set = why.set;
      status_is = why.status_is;
      left = stopped_of why.fault why.set why.left;
      line = same (fault_line why.fault why.set) why.line;
    }

    pub run_of : (told said : List ℕ → Type 0) (none never : Type 0) → ((line : List ℕ) → told line → said line) → (none → never)
        → (status : ℕ) → HasRun mask job a c x told none status → HasRun mask job b d y said never status
    run_of told said none never same silent status run = record {
      statuses = run.statuses;
      done = λ zero. does_of (Ok Done) (run.done zero);
      different = λ one. does_of (Ok Different) (run.different one);
      stopped = λ above. why_of told said same status (run.stopped above);
      silent = λ most. silent (run.silent most);
    }

-- each fact about a set is one about itself
pub itself : (a : GivenSet) → IsKnownOf a a
itself a = record { holds = λ parts h. h; refused = λ fault h. h; unread = λ h. h }

-- and the same for an output
pub printed_to_itself : (x : GivenOutput) → IsPrintedTo x x
printed_to_itself x = record { got = λ bytes h. h; kept = λ h. h; failed = λ h. h }
