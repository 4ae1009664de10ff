use Rattle.canonical_form.specs.WholeArrangements.{arranged_by}
use Rattle.std.proofs.Common.{subst, ◌++◌}
use Rattle.std.proofs.lemmas.Result.{err_from_is_err_and}
use Rattle.record_groups.specs.CountyGroups.{types_1_to_4, types_5_to_7, types_8_to_p}
use Rattle.record_groups.proofs.Records.OneAfterAnother.{second_stops, third_ends}
use Rattle.record_groups.proofs.Records.PackedGroups.{all_groups}
use Rattle.canonical_records.proofs.visiting.visit_records.Goals as goal

pub returns-in_err-visit_three-clause-given : goal.returns-in_err-visit_three-clause-given
returns-in_err-visit_three-clause-given g c =
    let county = arranged_by (g.C.Chart.county c.args.county.now.chart) c.args.county.now.arrangement.items in
    let p = err_from_is_err_and c.from_residual.result c.from_residual.ensures.1 in
    subst (λ rs. g.T.RecordVisitor.Takes rs c.args.visitor.now c.args.device.now c.from_residual.result c.visit_three.new.visitor
    c.visit_three.new.device) (all_groups county)
    (rw (p.1, p.2) (g.met.T.RecordVisitor.stops (types_1_to_4 county) (types_5_to_7 county ++ types_8_to_p county)
    c.args.visitor.now c.visit_three.new.visitor c.args.device.now c.visit_three.new.device
    c.in_err-visit_three.field-0.0 c.in_err-visit_three.ensures.given))

pub returns-in_err-visit_three-2-clause-given : goal.returns-in_err-visit_three-2-clause-given
returns-in_err-visit_three-2-clause-given g c =
    let county = arranged_by (g.C.Chart.county c.args.county.now.chart) c.args.county.now.arrangement.items in
    let p = err_from_is_err_and c.from_residual-in_err-visit_three-2.result c.from_residual-in_err-visit_three-2.ensures.1 in
    subst (λ rs. g.T.RecordVisitor.Takes rs c.args.visitor.now c.args.device.now c.from_residual-in_err-visit_three-2.result
    c.visit_three-2.new.visitor c.visit_three-2.new.device) (all_groups county)
    (rw (p.1, p.2) (second_stops g.T.RecordVisitor.Takes g.met.T.RecordVisitor.then g.met.T.RecordVisitor.stops (types_1_to_4 county)
    (types_5_to_7 county) (types_8_to_p county) c.in_ok-visit_three.ensures.given c.in_err-visit_three-2.ensures.given))

pub returns-clause-given : goal.returns-clause-given
returns-clause-given g c =
    let county = arranged_by (g.C.Chart.county c.args.county.now.chart) c.args.county.now.arrangement.items in
    subst (λ rs. g.T.RecordVisitor.Takes rs c.args.visitor.now c.args.device.now c.visit_three-3.result c.visit_three-3.new.visitor
    c.visit_three-3.new.device) (all_groups county)
    (third_ends g.T.RecordVisitor.Takes g.met.T.RecordVisitor.then g.met.T.RecordVisitor.stops (types_1_to_4 county) (types_5_to_7 county)
    (types_8_to_p county) c.in_ok-visit_three.ensures.given c.in_ok-visit_three-2.ensures.given c.visit_three-3.ensures.given)
