use Rattle.record_groups.proofs.Common.{ranges_of, ◌∙◌}
use Rattle.record_groups.proofs.Records.RecordPlaces.{items_counted, six_of}
use Rattle.record_groups.proofs.chain_records.Rec6SequencedRecord.count_at.Goals as goal

pub returns : goal.returns
returns g c = c.range_count_at.ensures
    ∙ items_counted ranges_of six_of (g.C.Chart.county c.args.chart.now) (g.met.C.Chart.is_county c.args.chart.now)
    (g.met.C.Chart.within_limits c.args.chart.now) c.args.chain c.requires
