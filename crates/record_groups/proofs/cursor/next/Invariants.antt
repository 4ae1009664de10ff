use Rattle.record_groups.proofs.Common.{rest_of, ◌-◌, ◌≡◌}
use Rattle.record_groups.proofs.cursor.next.Given as goal

-- the rest is the same as at the beginning of the call
abbrev pub invariant-loop-cursor : goal.invariant-loop-cursor
invariant-loop-cursor g l = rest_of (g.G.RecordGroups.groups l.groups) l.initial.cursor.group l.initial.cursor.place
    ≡ rest_of (g.G.RecordGroups.groups l.groups) l.cursor.group l.cursor.place

abbrev pub decreases-loop-cursor : goal.decreases-loop-cursor
decreases-loop-cursor g l = l.count - l.cursor.group
