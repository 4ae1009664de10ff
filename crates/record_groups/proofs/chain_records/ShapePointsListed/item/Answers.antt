use Rattle.record_groups.proofs.Common.{arith, chain_at, few_inner, inner_at, length-inner, points_of, sym, ◌∙◌}
use Rattle.record_groups.proofs.chain_records.ShapePointsListed.item.Goals as goal

pub overflow_add-place : goal.overflow_add-place
overflow_add-place g c =
    let few = few_inner (g.C.Chart.county c.args.self.now.chart.now) (g.met.C.Chart.within_limits c.args.self.now.chart.now) c.args.self.now.chain
    c.args.place c.requires in
    omega (arith, few)

pub point_there-requires : goal.point_there-requires
point_there-requires g c =
    omega (arith, c.requires, length-inner (points_of (chain_at (g.C.Chart.county c.args.self.now.chart.now) c.args.self.now.chain)))

pub returns : goal.returns
returns g c = c.point_there.ensures
    ∙ sym (inner_at (points_of (chain_at (g.C.Chart.county c.args.self.now.chart.now) c.args.self.now.chain)) c.args.place c.requires)
