use Rattle.record_groups.proofs.Common.{groups_cmp, map, records_cmp, rest_of, ◌≡◌}
use Rattle.record_groups.proofs.group_order.compare_groups.Given as goal

-- the groups from here on decide
abbrev pub invariant-loop-group : goal.invariant-loop-group
invariant-loop-group g l = groups_cmp g.L.Tabled.as_record (g.G.RecordGroups.groups l.a) (g.H.RecordGroups.groups l.b)
    ≡ records_cmp (map g.L.Tabled.as_record (rest_of (g.G.RecordGroups.groups l.a) l.group 0))
    (map g.L.Tabled.as_record (rest_of (g.H.RecordGroups.groups l.b) l.group 0))
