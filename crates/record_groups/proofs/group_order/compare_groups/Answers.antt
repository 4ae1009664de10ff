use Rattle.record_groups.proofs.Common.{ap, arith, map, records_cmp, rest_of, rules, sym, true, ◌∙◌, ◌≡◌}
use Rattle.record_groups.proofs.Texts.GroupOrders.{after_same}
use Rattle.record_groups.proofs.group_order.compare_groups.Goals as goal

pub loop-group-preserved : goal.loop-group-preserved
loop-group-preserved g c =
    let same : c.is_same_group-same.result ≡ true = search rules in
    c.loop-group.invariant
    ∙ after_same g.L.Tabled.as_record (g.G.RecordGroups.groups c.args.a.now) (g.H.RecordGroups.groups c.args.b.now) c.loop-group.group
    (c.is_same_group-same.ensures.0 same)

pub returns : goal.returns
returns g c =
    let last : c.loop-group.group ≡ c.min-count.result = omega arith in
    c.compare_from-2.ensures
    ∙ sym (c.loop-group.invariant
    ∙ ap (λ n. records_cmp (map g.L.Tabled.as_record (rest_of (g.G.RecordGroups.groups c.args.a.now) n 0))
    (map g.L.Tabled.as_record (rest_of (g.H.RecordGroups.groups c.args.b.now) n 0))) last)
