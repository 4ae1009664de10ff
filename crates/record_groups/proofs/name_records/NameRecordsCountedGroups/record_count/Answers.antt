use Rattle.record_groups.proofs.Common.{[], ap, length, packed_five, sym, ◌∷◌}
use Rattle.record_groups.proofs.Records.EntryPlaces.{name_of_group}
use Rattle.record_groups.proofs.Records.Grouped.{group_of}
use Rattle.record_groups.proofs.name_records.NameRecordsCountedGroups.record_count.Goals as goal

pub returns : goal.returns
returns g c =
    let chart = c.args.self.now.chart.now in
    let county = g.C.Chart.county chart in
    let there = name_of_group county (g.met.C.Chart.within_limits chart) c.args._group (λ entry. packed_five entry ∷ []) c.requires in
    sym (ap length (group_of (λ entry. packed_five entry ∷ []) county.names c.args._group there.entry there.get))
