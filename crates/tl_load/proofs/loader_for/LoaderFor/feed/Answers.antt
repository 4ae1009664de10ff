use Rattle.tl_load.proofs.Common.{List, None, Some, WasFedInto, rules, ℕ, ◌++◌, ◌≡◌}
use Rattle.tl_load.proofs.Histories.{fed_piece, fed_unchanged, reported_at, unchanged_after_fault, well_of_step, with_fault_reported}
use Rattle.tl_load.proofs.loader_for.LoaderFor.feed.Given as given
use Rattle.tl_load.proofs.loader_for.LoaderFor.feed.Goals as goal

pub returns-in-Some-clause-fed : goal.returns-in-Some-clause-fed
returns-in-Some-clause-fed g c limit closed open_part w = search (rules, fed_unchanged)

pub returns-in-Some-clause-fault : goal.returns-in-Some-clause-fault
returns-in-Some-clause-fault g c limit closed open_part w =
    let stands : c.args.self.now.fault ≡ Some c.in-Some.fault = rw (← c.self.view_is) c.in-Some.is in
    unchanged_after_fault g.K.Collector.holds limit c.args.self.now closed (open_part ++ c.args.piece.now) c.in-Some.fault stands
    (fed_unchanged g.K.Collector.holds limit c.args.self.now c.args.piece.now c.in-Some.fault closed open_part stands w)

goes_on : (g : given.Over) (c : goal.After-latch g) (limit : ℕ) (closed : List (List ℕ)) (open_part : List ℕ)
    → WasFedInto g.K.Collector.holds limit c.args.self.now closed open_part
    → WasFedInto g.K.Collector.holds limit c.latch.new.self closed (open_part ++ c.args.piece.now)
goes_on g c limit closed open_part w =
    let none : c.args.self.now.fault ≡ None = rw (← c.self.view_is) c.in_default.is in
    rw c.latch.ensures.stands
    (fed_piece g.K.Collector.holds limit c.args.self.now c.take_piece-outcome.new.self c.args.piece.now c.take_piece-outcome.result closed
    open_part none c.take_piece-outcome.ensures.same_part c.take_piece-outcome.ensures.takes w)

pub returns-clause-fed : goal.returns-clause-fed
returns-clause-fed g c = goes_on g c

pub returns-clause-fault : goal.returns-clause-fault
returns-clause-fault g c limit closed open_part w =
    rw c.latch.ensures.same (reported_at g.K.Collector.holds limit c.latch.new.self _ _ c.take_piece-outcome.result
    (rw c.latch.ensures.stands (with_fault_reported c.take_piece-outcome.result c.take_piece-outcome.new.self))
    (goes_on g c limit closed open_part w))

pub returns-clause-well : goal.returns-clause-well
returns-clause-well g c =
    let none : c.args.self.now.fault ≡ None = rw (← c.self.view_is) c.in_default.is in
    rw c.latch.ensures.same
    (well_of_step g.K.Collector.holds c.args.self.now c.take_piece-outcome.new.self c.args.piece.now c.take_piece-outcome.result none
    c.take_piece-outcome.ensures.takes c.take_piece-outcome.ensures.short)
