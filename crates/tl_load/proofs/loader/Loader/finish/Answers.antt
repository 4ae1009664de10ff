use Rattle.tl_load.proofs.Common.{All, FitsRecord, List, SpellsWithin, WasFed, WasFedInto, all_parts, tiger, ℕ}
use Rattle.tl_load.proofs.Listed.{also, found_list, holds_list, into_of}
use Rattle.tl_load.proofs.RecordLines.{spelled_fit}
use Rattle.tl_load.proofs.loader.Loader.finish.Goals as goal

fed : (c : goal.After-finish) (limit : ℕ) (closed : List (List ℕ)) (open_part : List ℕ) → WasFed limit c.args.self closed open_part
    → WasFedInto holds_list limit c.self.inside.inner closed open_part
fed c limit closed open_part w = into_of limit c.self.inside.inner closed open_part c.self.invariant (rw (← c.self.view_is) at w)

pub returns-clause-loaded : goal.returns-clause-loaded
returns-clause-loaded c limit closed open_part w =
    found_list (SpellsWithin tiger limit (all_parts closed open_part)) c.finish.result
    (c.finish.ensures.loaded limit closed open_part (fed c limit closed open_part w))

pub returns-clause-fits : goal.returns-clause-fits
returns-clause-fits c limit closed open_part w =
    also (SpellsWithin tiger limit (all_parts closed open_part)) (All FitsRecord) c.finish.result
    (λ records a. spelled_fit (all_parts closed open_part) records a.spells)
    (found_list (SpellsWithin tiger limit (all_parts closed open_part)) c.finish.result
    (c.finish.ensures.loaded limit closed open_part (fed c limit closed open_part w)))

pub returns-clause-only : goal.returns-clause-only
returns-clause-only c limit closed open_part records w a =
    c.finish.ensures.only limit closed open_part records (fed c limit closed open_part w) a
