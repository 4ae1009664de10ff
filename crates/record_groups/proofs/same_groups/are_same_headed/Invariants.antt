use Rattle.record_groups.proofs.Common.{drop, length, take, ◌≡◌}
use Rattle.record_groups.proofs.same_groups.are_same_headed.Given as goal

-- the groups up to the one ahead are the same
abbrev pub invariant-loop-ahead : goal.invariant-loop-ahead
invariant-loop-ahead g l =
    take l.ahead (take (length l.heads) (drop l.first (g.G.RecordGroups.groups l.a)))
    ≡ take l.ahead (take (length l.heads) (drop l.first (g.H.RecordGroups.groups l.b)))
