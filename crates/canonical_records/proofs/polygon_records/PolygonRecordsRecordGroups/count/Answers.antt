use Rattle.canonical_form.specs.WholeArrangements.{arranged_by}
use Rattle.std.proofs.Common.{option_to_list, sym, ◌∙◌}
use Rattle.county_chart.specs.Packing.{packed_p}
use Rattle.record_groups.proofs.Records.EntryPlaces.{polygons_counted}
use Rattle.canonical_records.proofs.polygon_records.PolygonRecordsRecordGroups.count.Goals as goal

pub returns : goal.returns
returns g c =
    let county = arranged_by (g.C.Chart.county c.args.self.now.county.now.chart) c.args.self.now.county.now.arrangement.items in
    c.polygon_count.ensures ∙ sym (polygons_counted (λ entry. option_to_list (packed_p entry)) county)
