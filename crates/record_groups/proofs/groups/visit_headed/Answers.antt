use Rattle.record_groups.proofs.Common.{Ok, drop, err_from_is_err_and, group_at, grouped, length, map, subst, suc, sym, take, ◌+◌}
use Rattle.record_groups.proofs.Records.GivenGroups.{around_group, with_group}
use Rattle.record_groups.proofs.Records.OneAfterAnother.{second_stops}
use Rattle.record_groups.proofs.groups.visit_headed.Goals as goal

pub returns-in_err-visit_whole_group-clause-given : goal.returns-in_err-visit_whole_group-clause-given
returns-in_err-visit_whole_group-clause-given g c =
    let f = g.G.Item.Tabled.as_record in
    let groups = g.G.RecordGroups.groups c.args.groups.now in
    let i = c.loop-ahead.ahead in
    let gs = take (length c.args.heads.now) (drop c.args.first groups) in
    let p = err_from_is_err_and c.from_residual.result c.from_residual.ensures.1 in
    subst (λ rs. g.T.RecordVisitor.Takes rs c.args.visitor.now c.args.device.now c.from_residual.result c.visit_whole_group.new.visitor
    c.visit_whole_group.new.device) (sym (around_group f groups c.args.first (length c.args.heads.now) i c.requires.within c.loop-ahead-test.true))
    (rw (p.1, p.2) (second_stops g.T.RecordVisitor.Takes g.met.T.RecordVisitor.then g.met.T.RecordVisitor.stops
    (map f (grouped (take i gs))) (map f (group_at groups (c.args.first + i))) (map f (grouped (drop (suc i) gs)))
    c.loop-ahead.invariant.taken c.in_err-visit_whole_group.ensures.given))

pub loop-ahead-preserved : goal.loop-ahead-preserved
loop-ahead-preserved g c =
    let f = g.G.Item.Tabled.as_record in
    let groups = g.G.RecordGroups.groups c.args.groups.now in
    let i = c.loop-ahead.ahead in
    record {
      taken = subst (λ rs. g.T.RecordVisitor.Takes rs
          c.args.visitor.now c.args.device.now (Ok tt) c.visit_whole_group.new.visitor c.visit_whole_group.new.device)
          (sym (with_group f groups c.args.first (length c.args.heads.now) i c.requires.within c.loop-ahead-test.true))
          (g.met.T.RecordVisitor.then (map f (grouped (take i (take (length c.args.heads.now) (drop c.args.first groups)))))
          (map f (group_at groups (c.args.first + i))) c.args.visitor.now c.loop-ahead.visitor c.visit_whole_group.new.visitor
          c.args.device.now c.loop-ahead.device c.visit_whole_group.new.device (Ok tt) c.loop-ahead.invariant.taken c.in_ok-visit_whole_group.ensures.given);
      ready = c.in_ok-visit_whole_group.ensures.ready;
    }
