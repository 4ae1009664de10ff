use Rattle.record_groups.proofs.Common.{Err, Ok, arith, drop, err_from_is_err_and, grouped, length-take, map, subst, sym, take, ◌∙◌}
use Rattle.record_groups.proofs.Records.GivenGroups.{around_groups, with_groups}
use Rattle.record_groups.proofs.Records.OneAfterAnother.{second_stops}
use Rattle.record_groups.proofs.groups.visit_groups.Goals as goal

pub returns-in_err-visit_headed-clause-given : goal.returns-in_err-visit_headed-clause-given
returns-in_err-visit_headed-clause-given g c =
    let f = g.G.Item.Tabled.as_record in
    let groups = g.G.RecordGroups.groups c.args.groups.now in
    let i = c.loop-first.first in
    let n = c.read_heads-heads.result in
    let p = err_from_is_err_and c.from_residual.result c.from_residual.ensures.1 in
    subst (λ rs. g.T.RecordVisitor.Takes rs c.args.visitor.now c.args.device.now c.from_residual.result c.visit_headed.new.visitor
    c.visit_headed.new.device) (sym (around_groups f groups i n))
    (rw (p.1, p.2) (second_stops g.T.RecordVisitor.Takes g.met.T.RecordVisitor.then g.met.T.RecordVisitor.stops
    (map f (grouped (take i groups))) (map f (grouped (take n (drop i groups)))) (map f (grouped (drop n (drop i groups))))
    c.loop-first.invariant.taken
    (subst (λ k. g.T.RecordVisitor.Takes (map f (grouped (take k (drop i groups)))) c.loop-first.visitor c.loop-first.device
    (Err c.in_err-visit_headed.field-0.0) c.visit_headed.new.visitor c.visit_headed.new.device)
    (length-take n c.read_heads-heads.new.buffer ∙ omega (arith, c.read_heads-heads.ensures.count, c.read_heads-heads.ensures.buffer))
    c.in_err-visit_headed.ensures.given)))

pub loop-first-preserved : goal.loop-first-preserved
loop-first-preserved g c =
    let f = g.G.Item.Tabled.as_record in
    let groups = g.G.RecordGroups.groups c.args.groups.now in
    let n = c.read_heads-heads.result in
    record {
      buffer = c.read_heads-heads.ensures.buffer ∙ c.loop-first.invariant.buffer;
      within = omega (arith, c.read_heads-heads.ensures.count, c.loop-first.invariant.within);
      taken = subst (λ rs. g.T.RecordVisitor.Takes rs
          c.args.visitor.now c.args.device.now (Ok tt) c.visit_headed.new.visitor c.visit_headed.new.device)
          (sym (with_groups f groups c.loop-first.first n))
          (g.met.T.RecordVisitor.then (map f (grouped (take c.loop-first.first groups))) (map f (grouped (take n (drop c.loop-first.first groups))))
          c.args.visitor.now c.loop-first.visitor c.visit_headed.new.visitor
          c.args.device.now c.loop-first.device c.visit_headed.new.device (Ok tt) c.loop-first.invariant.taken
          (subst (λ k. g.T.RecordVisitor.Takes (map f (grouped (take k (drop c.loop-first.first groups)))) c.loop-first.visitor c.loop-first.device
          (Ok tt) c.visit_headed.new.visitor c.visit_headed.new.device)
          (length-take n c.read_heads-heads.new.buffer ∙ omega (arith, c.read_heads-heads.ensures.count, c.read_heads-heads.ensures.buffer))
          c.in_ok-visit_headed.ensures.given));
      ready = c.in_ok-visit_headed.ensures.ready;
    }
