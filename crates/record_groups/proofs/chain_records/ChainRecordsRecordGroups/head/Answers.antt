use Rattle.record_groups.proofs.Common.{[], arith, ends_at, packed_one, ◌∷◌}
use Rattle.record_groups.proofs.Records.RecordPlaces.{two_points}
use Rattle.record_groups.proofs.chain_records.ChainRecordsRecordGroups.head.Goals as goal

pub overflow_sub-last : goal.overflow_sub-last
overflow_sub-last g c =
    omega (
      arith,
      c.point_count_at-last.ensures,
      two_points (λ entry. packed_one entry ∷ []) (g.C.Chart.county c.args.self.now.chart.now) (g.met.C.Chart.is_county c.args.self.now.chart.now)
          (g.met.C.Chart.within_limits c.args.self.now.chart.now)
          c.args.group c.requires,
    )

pub point_there-requires : goal.point_there-requires
point_there-requires g c =
    omega (
      arith,
      two_points (λ entry. packed_one entry ∷ []) (g.C.Chart.county c.args.self.now.chart.now) (g.met.C.Chart.is_county c.args.self.now.chart.now)
          (g.met.C.Chart.within_limits c.args.self.now.chart.now)
          c.args.group c.requires,
    )

pub returns : goal.returns
returns g c =
    ends_at _ c.point_count_at-last.result (c.point_there.result, c.point_there-2.result)
    (two_points (λ entry. packed_one entry ∷ []) (g.C.Chart.county c.args.self.now.chart.now) (g.met.C.Chart.is_county c.args.self.now.chart.now)
    (g.met.C.Chart.within_limits c.args.self.now.chart.now)
    c.args.group c.requires)
    c.point_count_at-last.ensures c.point_there.ensures c.point_there-2.ensures
