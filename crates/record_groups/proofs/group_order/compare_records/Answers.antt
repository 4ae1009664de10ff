use Rattle.record_groups.proofs.Common.{ap}
use Rattle.record_groups.proofs.Texts.GroupOrders.{same_spelling}
use Rattle.record_groups.proofs.group_order.compare_records.Goals as goal

pub returns-then-is_same : goal.returns-then-is_same
returns-then-is_same g c = same_spelling (g.L.Tabled.as_record c.args.a.now) (g.L.Tabled.as_record c.args.b.now)
    (ap g.L.Tabled.as_record (c.is_same.ensures.0 c.if-is_same.true))
