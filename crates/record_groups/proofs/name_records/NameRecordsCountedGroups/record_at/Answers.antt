use Rattle.record_groups.proofs.Common.{IsNumber, Some, [], ap, lone, packed_five, some-same, subst, sym, ◌∙◌, ◌∷◌}
use Rattle.record_groups.proofs.Records.EntryPlaces.{EntryThere, name_of_group}
use Rattle.record_groups.proofs.Records.Grouped.{group_of}
use Rattle.record_groups.proofs.name_records.NameRecordsCountedGroups.record_at.Given.{Over}
use Rattle.record_groups.proofs.name_records.NameRecordsCountedGroups.record_at.Goals.{Start}
use Rattle.record_groups.proofs.name_records.NameRecordsCountedGroups.record_at.Goals as goal

there : (g : Over) (c : Start g) → EntryThere (g.C.Chart.county c.args.self.now.chart.now).names 8 c.args.group
there g c = name_of_group (g.C.Chart.county c.args.self.now.chart.now) (g.met.C.Chart.within_limits c.args.self.now.chart.now) c.args.group
    (λ entry. packed_five entry ∷ []) c.requires.group

pub new-requires : goal.new-requires
new-requires g c =
    let name = there g (goal.at.new-requires g c).Start in
    subst (IsNumber 8) (sym (some-same _ c.feat_there.result name.entry.0 c.feat_there.ensures name.number)) name.is_number

pub returns : goal.returns
returns g c =
    let county = g.C.Chart.county c.args.self.now.chart.now in
    let name = there g (goal.at.returns g c).Start in
    let feat_is = some-same _ c.feat_there.result name.entry.0 c.feat_there.ensures name.number in
    let body_is = some-same _ c.name_body_there.result name.entry.1 c.name_body_there.ensures name.value in
    ap Some (c.new.ensures ∙ (λ i. record { feat = feat_is i; body = body_is i }))
    ∙ sym (lone _ (packed_five name.entry) c.args._place
    (group_of (λ entry. packed_five entry ∷ []) county.names c.args.group name.entry name.get) c.requires.place)
