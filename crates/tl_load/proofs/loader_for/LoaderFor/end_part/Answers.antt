use Rattle.tl_load.proofs.Common.{List, None, Some, WasFedInto, [], rules, ℕ, ◌++◌, ◌∷◌, ◌≡◌}
use Rattle.tl_load.proofs.Histories.{fed_closed, fed_closed_unchanged, reported_at, unchanged_after_fault, with_fault_reported}
use Rattle.tl_load.proofs.loader_for.LoaderFor.end_part.Given as given
use Rattle.tl_load.proofs.loader_for.LoaderFor.end_part.Goals as goal

pub returns-in-Some-clause-fed : goal.returns-in-Some-clause-fed
returns-in-Some-clause-fed g c limit closed open_part w = search (rules, fed_closed_unchanged)

pub returns-in-Some-clause-fault : goal.returns-in-Some-clause-fault
returns-in-Some-clause-fault g c limit closed open_part w =
    let stands : c.args.self.now.fault ≡ Some c.in-Some.fault = rw (← c.self.view_is) c.in-Some.is in
    unchanged_after_fault g.K.Collector.holds limit c.args.self.now (closed ++ open_part ∷ []) [] c.in-Some.fault stands
    (fed_closed_unchanged g.K.Collector.holds limit c.args.self.now c.in-Some.fault closed open_part stands w)

goes_on : (g : given.Over) (c : goal.After-latch g) (limit : ℕ) (closed : List (List ℕ)) (open_part : List ℕ)
    → WasFedInto g.K.Collector.holds limit c.args.self.now closed open_part
    → WasFedInto g.K.Collector.holds limit c.latch.new.self (closed ++ open_part ∷ []) []
goes_on g c limit closed open_part w =
    let none : c.args.self.now.fault ≡ None = rw (← c.self.view_is) c.in_default.is in
    rw c.latch.ensures.stands
    (fed_closed g.K.Collector.holds limit c.args.self.now c.close_part-outcome.new.self c.close_part-outcome.result closed open_part none
    c.close_part-outcome.ensures.limit c.close_part-outcome.ensures.fault c.close_part-outcome.ensures.closes w)

pub returns-clause-fed : goal.returns-clause-fed
returns-clause-fed g c = goes_on g c

pub returns-clause-fault : goal.returns-clause-fault
returns-clause-fault g c limit closed open_part w =
    rw c.latch.ensures.same (reported_at g.K.Collector.holds limit c.latch.new.self _ _ c.close_part-outcome.result
    (rw c.latch.ensures.stands (with_fault_reported c.close_part-outcome.result c.close_part-outcome.new.self))
    (goes_on g c limit closed open_part w))
