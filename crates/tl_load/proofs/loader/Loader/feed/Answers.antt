use Rattle.tl_load.proofs.Common.{Err, IsWellAfter, List, LoadFault, Ok, OnOk, Result, WasFed, WasFedInto, rules, ℕ}
use Rattle.tl_load.proofs.Listed.{holds_list, into_of, of_into}
use Rattle.tl_load.proofs.loader.Loader.feed.Goals as goal

fed : (c : goal.After-feed) (limit : ℕ) (closed : List (List ℕ)) (open_part : List ℕ) → WasFed limit c.args.self.now closed open_part
    → WasFedInto holds_list limit c.self.inside.inner closed open_part
fed c limit closed open_part w = into_of limit c.self.inside.inner closed open_part c.self.invariant (rw (← c.self.view_is) at w)

pub returns-clause-fed : goal.returns-clause-fed
returns-clause-fed c limit closed open_part w = search (rules, of_into)

pub returns-clause-fault : goal.returns-clause-fault
returns-clause-fault c limit closed open_part w = c.feed.ensures.fault limit closed open_part (fed c limit closed open_part w)

well : (c : goal.After-feed) (r : Result (Unit {0}) LoadFault)
    → OnOk r (IsWellAfter (WasFedInto holds_list) c.self.inside.inner c.args.piece.now)
    → OnOk r (IsWellAfter WasFed c.args.self.now c.args.piece.now)
well c (Ok x) h = λ limit closed open_part w. h limit closed open_part (fed c limit closed open_part w)
well c (Err f) h = tt
