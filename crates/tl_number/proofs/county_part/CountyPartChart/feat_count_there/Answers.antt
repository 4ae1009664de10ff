use Rattle.tl_number.proofs.Common.{ap, arith, length, length-map, part_with, ◌<◌, ◌∙◌}
use Rattle.tl_number.proofs.Ties.PartTables.{names_read}
use Rattle.tl_number.proofs.county_part.CountyPartChart.feat_count_there.Goals as goal

pub returns : goal.returns
returns g c =
    let tables = c.args.self.now.tables.now in
    let chains = (part_with (g.C.Chart.county c.args.self.now.chart.now) tables).chains in
    let within : c.args.place < length tables.feats.items =
    omega (arith, c.requires, ap length c.args.self.now.named, length-map tables.feats.items (λ own. own.items), length-map chains (λ entry. entry.1.feats)) in
    c.len.ensures ∙ c.index.result.now.ok.0
    ∙ ap length (names_read (λ own. own.items) tables.feats.items chains c.args.self.now.named c.args.place c.index.result.now within c.index.ensures)
