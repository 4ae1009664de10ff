use Rattle.record_groups.proofs.Common.{arith, chain_at, length-inner, points_of}
use Rattle.record_groups.proofs.chain_records.ShapePointsListed.count.Goals as goal

pub returns : goal.returns
returns g c = omega (
  arith,
  c.point_count_at.ensures,
  c.saturating_sub.ensures,
  length-inner (points_of (chain_at (g.C.Chart.county c.args.self.now.chart.now) c.args.self.now.chain)),
)
