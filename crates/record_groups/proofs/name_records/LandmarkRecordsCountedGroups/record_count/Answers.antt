use Rattle.record_groups.proofs.Common.{Body7, List, Option, [], ap, length, length-map, packed_sevens, sym, unwrap_or, ◌∙◌}
use Rattle.record_groups.proofs.Records.EntryPlaces.{landmark_of_group}
use Rattle.record_groups.proofs.Records.Grouped.{group_of}
use Rattle.record_groups.proofs.name_records.LandmarkRecordsCountedGroups.record_count.Goals as goal

pub returns : goal.returns
returns g c =
    let chart = c.args.self.now.chart.now in
    let county = g.C.Chart.county chart in
    let there = landmark_of_group county (g.met.C.Chart.within_limits chart) c.args.group packed_sevens c.requires in
    c.body_count_at.ensures ∙ ap (λ (o : Option (List Body7)). length (unwrap_or o [])) there.value
    ∙ sym (ap length (group_of packed_sevens county.landmarks c.args.group there.entry there.get)
    ∙ length-map there.entry.1 (λ body. record { land = there.entry.0; body = body }))
