use Rattle.tl_load.proofs.Common.{IsAtEnd, List, None, WasFedInto, [], append-nil, arith, inr, subst, sym, ℕ, ◌≡◌}
use Rattle.tl_load.proofs.Histories.{fed_read, well_after}
use Rattle.tl_load.proofs.ReadSteps.{gave_none}
use Rattle.tl_load.proofs.loader_for.LoaderFor.read_part_by.Goals as goal

pub returns-in-Some-clause-fed : goal.returns-in-Some-clause-fed
returns-in-Some-clause-fed g c = (
  [],
  gave_none _ _ _,
  omega arith,
  λ limit closed open_part w. inr
      (subst (λ (b : List ℕ). WasFedInto g.K.Collector.holds limit c.args.self.now closed b) (sym (append-nil open_part)) w),
)

pub returns-in-None-clause-fed : goal.returns-in-None-clause-fed
returns-in-None-clause-fed g c =
    let none : c.args.self.now.fault ≡ None = rw (← c.self.view_is) c.in-None.is in
    let e = c.read_to_end-outcome.ensures in
    let r = e.reads in (
      r.0,
      r.1,
      r.2,
      λ limit closed open_part w. rw (c.latch.ensures.same, c.latch.ensures.stands)
          (fed_read g.K.Collector.holds limit c.args.self.now c.read_to_end-outcome.new.self r.0
          (IsAtEnd (g.R.Source.remaining c.read_to_end-outcome.new.source)) c.read_to_end-outcome.result closed open_part none e.limit
          e.fault r.3 w),
    )

pub returns-in-None-clause-stops : goal.returns-in-None-clause-stops
returns-in-None-clause-stops g c none =
    let s = c.read_to_end-outcome.ensures.stops in
    record {
      last = s.last;
      taken = s.taken;
      gave = s.gave;
      one_read = s.one_read;
      should = λ limit closed open_part w. well_after {T =
          Unit {0}} g.K.Collector.holds tt limit c.args.self.now s.should.after s.taken closed open_part none s.should.takes s.should.short w;
    }
