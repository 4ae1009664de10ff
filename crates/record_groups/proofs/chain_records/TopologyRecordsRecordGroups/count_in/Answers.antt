use Rattle.record_groups.proofs.Common.{packed_i}
use Rattle.record_groups.proofs.Records.RecordPlaces.{lone_counted}
use Rattle.record_groups.proofs.chain_records.TopologyRecordsRecordGroups.count_in.Goals as goal

pub returns : goal.returns
returns g c =
    lone_counted packed_i (g.C.Chart.county c.args.self.now.chart.now) (g.met.C.Chart.is_county c.args.self.now.chart.now)
    (g.met.C.Chart.within_limits c.args.self.now.chart.now) c.args._group c.requires.group
