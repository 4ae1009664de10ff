use Rattle.record_groups.proofs.Common.{Ok, group_at, map, take}
use Rattle.record_groups.proofs.groups.visit_whole_group.Given as goal

-- the records up to the place were taken
abbrev pub invariant-loop-place : goal.invariant-loop-place
invariant-loop-place g l = record {
  taken : g.T.RecordVisitor.Takes (map g.G.Item.Tabled.as_record (take l.place (group_at (g.G.RecordGroups.groups l.groups) l.group)))
      l.initial.visitor l.initial.device (Ok tt) l.visitor l.device;
  ready : g.T.RecordVisitor.IsReady l.visitor l.device;
}
