use Rattle.record_groups.proofs.Common.{Ok, grouped, length, map, take, ◌-◌, ◌≡◌, ◌≤◌}
use Rattle.record_groups.proofs.groups.visit_groups.Given as goal

-- the records of the groups before `first` were taken
abbrev pub invariant-loop-first : goal.invariant-loop-first
invariant-loop-first g l = record {
  buffer : length l.buffer ≡ length l.initial.buffer;
  within : l.first ≤ length (g.G.RecordGroups.groups l.groups);
  taken : g.T.RecordVisitor.Takes (map g.G.Item.Tabled.as_record (grouped (take l.first (g.G.RecordGroups.groups l.groups))))
      l.initial.visitor l.initial.device (Ok tt) l.visitor l.device;
  ready : g.T.RecordVisitor.IsReady l.visitor l.device;
}

abbrev pub decreases-loop-first : goal.decreases-loop-first
decreases-loop-first g l = length (g.G.RecordGroups.groups l.groups) - l.first
