use Rattle.tl_number.proofs.Common.{ap, arith, length, part_with, slice_get, ◌∙◌}
use Rattle.arranged_county.proofs.Views.ViewTables.{read_within}
use Rattle.canonical_form.proofs.Views.ViewChains.{read_length}
use Rattle.tl_number.proofs.Ties.PartTables.{bodies_read, land_read, links_read}
use Rattle.tl_number.proofs.county_part.CountyPart.landmark.Goals as goal

pub item-requires : goal.item-requires
item-requires g c =
    let county = g.C.Chart.county c.args.self.now.chart.now in
    let tables = c.args.self.now.tables.now in
    let count = read_length (slice_get county.landmarks) tables.landmarks.places.items (part_with county tables).landmarks c.args.self.now.landmarks in
    omega (arith, c.requires, ap length c.as_slice.ensures.value, count)

pub returns-clause-land : goal.returns-clause-land
returns-clause-land g c = land_read (g.C.Chart.county c.args.self.now.chart.now) c.args.self.now.tables.now c.args.self.now.landmarks c.args.place c.item.result
    (c.item.ensures ∙ ap (λ places. slice_get places c.args.place) c.as_slice.ensures.value)

pub returns-clause-bodies : goal.returns-clause-bodies
returns-clause-bodies g c = bodies_read (g.C.Chart.county c.args.self.now.chart.now) c.args.self.now.tables.now c.args.self.now.landmarks c.args.place c.item.result
    (c.item.ensures ∙ ap (λ places. slice_get places c.args.place) c.as_slice.ensures.value)

pub returns-clause-links : goal.returns-clause-links
returns-clause-links g c = links_read (g.C.Chart.county c.args.self.now.chart.now) c.args.self.now.tables.now c.args.self.now.landmarks c.args.place c.item.result
    (c.item.ensures ∙ ap (λ places. slice_get places c.args.place) c.as_slice.ensures.value)

pub returns-clause-there : goal.returns-clause-there
returns-clause-there g c = read_within _ _ _ c.args.self.now.landmarks c.args.place c.item.result
    (c.item.ensures ∙ ap (λ places. slice_get places c.args.place) c.as_slice.ensures.value)
