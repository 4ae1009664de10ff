-- the keys of the chains so far and of the remaining ones are all
use Rattle.tl_number.proofs.Common.{drop, map, ◌++◌, ◌≡◌}
use Rattle.tl_number.proofs.part_tables.keys_by_chain.Given as goal

abbrev pub invariant-loop-place : goal.invariant-loop-place
invariant-loop-place g l = map (λ own. own.items) l.keys.items ++ drop l.place (g.G.KeyGroups.groups l.chains) ≡ g.G.KeyGroups.groups l.chains
