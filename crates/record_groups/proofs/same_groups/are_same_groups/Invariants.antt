use Rattle.record_groups.proofs.Common.{length, take, ◌-◌, ◌≡◌, ◌≤◌}
use Rattle.record_groups.proofs.same_groups.are_same_groups.Given as goal

-- the groups up to the first remaining one are the same
abbrev pub invariant-loop-first : goal.invariant-loop-first
invariant-loop-first g l = record {
  buffer : length l.buffer ≡ length l.initial.buffer;
  other : length l.other ≡ length l.initial.other;
  within : l.first ≤ length (g.G.RecordGroups.groups l.a);
  same : take l.first (g.G.RecordGroups.groups l.a) ≡ take l.first (g.H.RecordGroups.groups l.b);
}

abbrev pub decreases-loop-first : goal.decreases-loop-first
decreases-loop-first g l = length (g.G.RecordGroups.groups l.a) - l.first
