use Rattle.tl_number.proofs.Common.{ap, arith, length, part_with, slice_get, ◌∙◌}
use Rattle.arranged_county.proofs.Views.ViewTables.{read_within, value_at}
use Rattle.canonical_form.proofs.Views.ViewChains.{read_length}
use Rattle.tl_number.proofs.county_part.CountyPart.name.Goals as goal

pub item-requires : goal.item-requires
item-requires g c =
    let county = g.C.Chart.county c.args.self.now.chart.now in
    let tables = c.args.self.now.tables.now in
    let count = read_length (slice_get county.names) tables.names.places.items (part_with county tables).names c.args.self.now.names in
    omega (arith, c.requires, ap length c.as_slice.ensures.value, count)

pub returns-clause-name : goal.returns-clause-name
returns-clause-name g c = value_at _ _ _ c.args.self.now.names c.args.place c.item.result
    (c.item.ensures ∙ ap (λ places. slice_get places c.args.place) c.as_slice.ensures.value)

pub returns-clause-there : goal.returns-clause-there
returns-clause-there g c = read_within _ _ _ c.args.self.now.names c.args.place c.item.result
    (c.item.ensures ∙ ap (λ places. slice_get places c.args.place) c.as_slice.ensures.value)
