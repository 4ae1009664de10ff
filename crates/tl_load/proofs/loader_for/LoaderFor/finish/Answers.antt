use Rattle.tl_load.proofs.Common.{FaultAt, IsOfLines, List, LoadedInto, None, Record, WasFedInto, all_parts, err_from_is_err_and, rules, subst, sym, tiger, ℕ, ◌≡◌}
use Rattle.tl_load.proofs.Histories.{finished, finished_fault, finished_unchanged}
use Rattle.tl_load.proofs.Reading.{accepted_no_fault, accepted_once}
use Rattle.tl_load.proofs.RecordLines.{tiger_is_sound}
use Rattle.tl_load.proofs.loader_for.LoaderFor.finish.Given as given
use Rattle.tl_load.proofs.loader_for.LoaderFor.finish.Goals as goal

stood : (g : given.Over) (c : goal.After-drop-self-inside g) (limit : ℕ) (closed : List (List ℕ)) (open_part : List ℕ)
    → WasFedInto g.K.Collector.holds limit c.args.self closed open_part → IsOfLines c.in-Some.fault
    → FaultAt tiger limit (all_parts closed open_part) c.in-Some.fault
stood g c limit closed open_part w = search (rules, finished_unchanged)

pub returns-in-Some-clause-fault : goal.returns-in-Some-clause-fault
returns-in-Some-clause-fault g c = stood g c

pub returns-in-Some-clause-only : goal.returns-in-Some-clause-only
returns-in-Some-clause-only g c limit closed open_part records w a is =
    accepted_no_fault tiger tiger_is_sound limit (all_parts closed open_part) records _ a (stood g c limit closed open_part w is)

pub returns-in_err-end_last_line-clause-fault : goal.returns-in_err-end_last_line-clause-fault
returns-in_err-end_last_line-clause-fault g c limit closed open_part w =
    let none : c.args.self.fault ≡ None = rw (← c.self.view_is) c.in_default.is in
    let p = err_from_is_err_and c.from_residual.result c.from_residual.ensures.1 in
    rw (p.1, p.2) (finished_fault
    (Unit {0}) g.K.Collector.holds limit c.args.self c.end_last_line.new.self _ closed open_part none c.in_err-end_last_line.ensures.ends w)

pub returns-in_err-end_last_line-clause-only : goal.returns-in_err-end_last_line-clause-only
returns-in_err-end_last_line-clause-only g c limit closed open_part records w a =
    let none : c.args.self.fault ≡ None = rw (← c.self.view_is) c.in_default.is in
    let p = err_from_is_err_and c.from_residual.result c.from_residual.ensures.1 in
    rw (p.1, p.2) (λ is. accepted_no_fault tiger tiger_is_sound limit (all_parts closed open_part) records _ a
    (finished_fault
    (Unit {0}) g.K.Collector.holds limit c.args.self c.end_last_line.new.self _ closed open_part none c.in_err-end_last_line.ensures.ends w
    is))

pub returns-clause-loaded : goal.returns-clause-loaded
returns-clause-loaded g c limit closed open_part w =
    let none : c.args.self.fault ≡ None = rw (← c.self.view_is) c.in_default.is in
    let f = finished {T =
    Unit {0}} g.K.Collector.holds tt limit c.args.self c.end_last_line.new.self closed open_part none c.in_ok-end_last_line.ensures.ends w in
    (f.0, subst (λ (l : LoadedInto g.row.K.Denot). g.K.Collector.holds l.kept f.0) (sym c.self-2.view_is) f.1, f.2)

pub returns-clause-only : goal.returns-clause-only
returns-clause-only g c limit closed open_part records w a =
    let none : c.args.self.fault ≡ None = rw (← c.self.view_is) c.in_default.is in
    let f = finished {T =
    Unit {0}} g.K.Collector.holds tt limit c.args.self c.end_last_line.new.self closed open_part none c.in_ok-end_last_line.ensures.ends w in
    let held = subst (λ (l : LoadedInto g.row.K.Denot). g.K.Collector.holds l.kept f.0) (sym c.self-2.view_is) f.1 in
    subst (λ (rs : List Record). g.K.Collector.holds c.self-2.inside.kept rs)
    (accepted_once tiger tiger_is_sound limit (all_parts closed open_part) f.0 records f.2 a) held
