use Rattle.record_groups.proofs.Common.{feats_of, ◌∙◌}
use Rattle.record_groups.proofs.Records.RecordPlaces.{four_of, pieces_in_group}
use Rattle.record_groups.proofs.chain_records.Rec4SequencedRecord.count_at.Goals as goal

pub returns : goal.returns
returns g c = c.div_ceil.ensures
    ∙ pieces_in_group 4 feats_of four_of (g.C.Chart.county c.args.chart.now) (g.met.C.Chart.is_county c.args.chart.now)
    (g.met.C.Chart.within_limits c.args.chart.now) c.args.chain c.requires
    c.feat_count_at.result c.feat_count_at.ensures
