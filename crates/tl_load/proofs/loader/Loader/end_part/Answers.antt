use Rattle.tl_load.proofs.Common.{List, WasFed, WasFedInto, rules, ℕ}
use Rattle.tl_load.proofs.Listed.{holds_list, into_of, of_into}
use Rattle.tl_load.proofs.loader.Loader.end_part.Goals as goal

fed : (c : goal.After-end_part) (limit : ℕ) (closed : List (List ℕ)) (open_part : List ℕ) → WasFed limit c.args.self.now closed open_part
    → WasFedInto holds_list limit c.self.inside.inner closed open_part
fed c limit closed open_part w = into_of limit c.self.inside.inner closed open_part c.self.invariant (rw (← c.self.view_is) at w)

pub returns-clause-fed : goal.returns-clause-fed
returns-clause-fed c limit closed open_part w = search (rules, of_into)
