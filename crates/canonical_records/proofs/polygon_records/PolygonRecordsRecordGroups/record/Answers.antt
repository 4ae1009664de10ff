use Rattle.std.proofs.Common.{Some, ap, option_to_list, sym, ◌∙◌}
use Rattle.canonical_form.specs.WholeArrangements.{arranged_by}
use Rattle.record_groups.specs.Groups.{group_at}
use Rattle.canonical_form.proofs.Lists.ListPlaces.{lone}
use Rattle.county_chart.specs.Packing.{packed_body}
use Rattle.record_groups.specs.CountyGroups.{type_p_by_number}
use Rattle.record_groups.proofs.Records.EntryPlaces.{polygon_fits, polygon_group}
use Rattle.canonical_records.proofs.polygon_records.PolygonRecordsRecordGroups.record.Goals as goal

pub new-requires-clause-cenid : goal.new-requires-clause-cenid
new-requires-clause-cenid g c =
    let county = arranged_by (g.C.Chart.county c.args.self.now.county.now.chart) c.args.self.now.county.now.arrangement.items in
    (polygon_fits county c.args.self.now.county.now.whole.within_limits c.args._group c.args.head (sym c.requires.head)).0.allowed

pub new-requires-clause-polyid : goal.new-requires-clause-polyid
new-requires-clause-polyid g c =
    let county = arranged_by (g.C.Chart.county c.args.self.now.county.now.chart) c.args.self.now.county.now.arrangement.items in
    (polygon_fits county c.args.self.now.county.now.whole.within_limits c.args._group c.args.head (sym c.requires.head)).1

pub returns : goal.returns
returns g c =
    let county = arranged_by (g.C.Chart.county c.args.self.now.county.now.chart) c.args.self.now.county.now.arrangement.items in
    let entry = c.args.head in
    ap Some c.new.ensures
    ∙ sym (lone (group_at (type_p_by_number county) c.args._group)
    (record { cenid = entry.0.0; polyid = entry.0.1; body = c.unwrap.result }) c.args._place
    (polygon_group county c.args._group entry c.requires.head
    ∙ ap (λ o. option_to_list (packed_body entry.0 o)) c.unwrap.ensures) c.requires.place)
