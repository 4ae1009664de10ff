use Rattle.tl_number.proofs.Common.{Some, ap, arith, length, length-map, part_with, slice_get, slice_get-get_or, sym, ◌<◌, ◌∙◌}
use Rattle.tl_number.proofs.Ties.PartTables.{named_there, names_read}
use Rattle.tl_number.proofs.county_part.CountyPartChart.chain_feat_there.Goals as goal

pub index-requires-2 : goal.index-requires-2
index-requires-2 g c =
    let tables = c.args.self.now.tables.now in
    let chains = (part_with (g.C.Chart.county c.args.self.now.chart.now) tables).chains in
    let there = named_there chains c.args.place c.args.name c.requires in
    let within : c.args.place < length tables.feats.items =
    omega (arith, there, ap length c.args.self.now.named, length-map tables.feats.items (λ own. own.items), length-map chains (λ entry. entry.1.feats)) in
    let names = names_read (λ own. own.items) tables.feats.items chains c.args.self.now.named c.args.place c.index.result.now within c.index.ensures in
    omega (arith, c.requires, ap length names, c.index.result.now.ok.0)

pub returns : goal.returns
returns g c =
    let tables = c.args.self.now.tables.now in
    let chains = (part_with (g.C.Chart.county c.args.self.now.chart.now) tables).chains in
    let there = named_there chains c.args.place c.args.name c.requires in
    let within : c.args.place < length tables.feats.items =
    omega (arith, there, ap length c.args.self.now.named, length-map tables.feats.items (λ own. own.items), length-map chains (λ entry. entry.1.feats)) in
    let names = names_read (λ own. own.items) tables.feats.items chains c.args.self.now.named c.args.place c.index.result.now within c.index.ensures in
    let below : c.args.name < length c.index.result.now.items = omega (arith, c.requires, ap length names) in
    ap Some c.index-2.ensures ∙ sym (slice_get-get_or c.index.result.now.items c.args.name c.index-2.result.now below)
    ∙ ap (λ feats. slice_get feats c.args.name) names
