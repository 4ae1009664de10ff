use Rattle.record_groups.proofs.Common.{drop, take, ◌≡◌}
use Rattle.record_groups.proofs.chain_records.items_from.Given as goal

-- the items from the first one up to this one
abbrev pub invariant-loop-ahead : goal.invariant-loop-ahead
invariant-loop-ahead g l = l.items.items ≡ take l.ahead (drop l.first (g.L.Listed.items l.list))
