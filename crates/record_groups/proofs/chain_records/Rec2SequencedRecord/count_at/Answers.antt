use Rattle.record_groups.proofs.Common.{inner_points, points_of, ◌∙◌}
use Rattle.record_groups.proofs.Records.RecordPlaces.{pieces_in_group, two_of}
use Rattle.record_groups.proofs.chain_records.Rec2SequencedRecord.count_at.Goals as goal

pub returns : goal.returns
returns g c = c.div_ceil.ensures
    ∙ pieces_in_group 9 (λ o. inner_points (points_of o)) two_of (g.C.Chart.county c.args.chart.now) (g.met.C.Chart.is_county c.args.chart.now)
    (g.met.C.Chart.within_limits c.args.chart.now) c.args.chain c.requires
    c.count.result c.count.ensures
