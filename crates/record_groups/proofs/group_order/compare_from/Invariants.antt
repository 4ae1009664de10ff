use Rattle.record_groups.proofs.Common.{length, map, records_cmp, rest_of, ◌≡◌}
use Rattle.record_groups.proofs.group_order.compare_from.Given as goal

-- the rest decides
abbrev pub invariant-loop-record : goal.invariant-loop-record
invariant-loop-record g l = records_cmp (map g.L.Tabled.as_record (rest_of (g.G.RecordGroups.groups l.a) l.group 0))
    (map g.L.Tabled.as_record (rest_of (g.H.RecordGroups.groups l.b) l.group 0))
    ≡ records_cmp (map g.L.Tabled.as_record (rest_of (g.G.RecordGroups.groups l.a) l.at.group l.at.place))
    (map g.L.Tabled.as_record (rest_of (g.H.RecordGroups.groups l.b) l.other_at.group l.other_at.place))

abbrev pub decreases-loop-record : goal.decreases-loop-record
decreases-loop-record g l = length (rest_of (g.G.RecordGroups.groups l.a) l.at.group l.at.place)
