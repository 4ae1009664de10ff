use Rattle.record_groups.proofs.Common.{Ok, drop, grouped, length, map, take}
use Rattle.record_groups.proofs.groups.visit_headed.Given as goal

-- the records of the first `ahead` groups were taken
abbrev pub invariant-loop-ahead : goal.invariant-loop-ahead
invariant-loop-ahead g l = record {
  taken : g.T.RecordVisitor.Takes
      (map g.G.Item.Tabled.as_record (grouped (take l.ahead (take (length l.heads) (drop l.first (g.G.RecordGroups.groups l.groups))))))
      l.initial.visitor l.initial.device (Ok tt) l.visitor l.device;
  ready : g.T.RecordVisitor.IsReady l.visitor l.device;
}
