use Rattle.tl_number.proofs.Common.{Bool, ap, arith, contains, length, nat_cmp, option_map, part_with, refl, slice_get, sym, ℕ, ◌∙◌}
use Rattle.arranged_county.proofs.Views.ViewTables.{read_within, value_at}
use Rattle.canonical_form.proofs.Views.ViewChains.{read_length}
use Rattle.county_chart.specs.ChartWords.{ends_of, points_of, ranges_of, sides_of}
use Rattle.tl_number.proofs.Ties.Narrowed.{count_narrow, field_narrow, points_narrow, ranges_narrow}
use Rattle.tl_number.proofs.county_part.CountyPart.chain.Goals as goal
use Rattle.tl_number.specs.CountyParts.{narrowed}

pub item-requires : goal.item-requires
item-requires g c =
    let county = g.C.Chart.county c.args.self.now.chart.now in
    let tables = c.args.self.now.tables.now in
    let count = read_length (slice_get (narrowed (λ feat. contains nat_cmp feat tables.kept.names) county).chains) tables.chains.places.items
    (part_with county tables).chains c.args.self.now.chains in
    omega (arith, c.requires, ap length c.as_slice.ensures.value, count)

pub returns-clause-there : goal.returns-clause-there
returns-clause-there g c =
    let county = g.C.Chart.county c.args.self.now.chart.now in
    let keeps : ℕ → Bool = λ feat. contains nat_cmp feat c.args.self.now.tables.now.kept.names in
    let within = read_within _ _ _ c.args.self.now.chains c.args.place c.item.result
    (c.item.ensures ∙ ap (λ places. slice_get places c.args.place) c.as_slice.ensures.value) in
    omega (arith, within, count_narrow keeps county)

pub returns-clause-body : goal.returns-clause-body
returns-clause-body g c =
    let county = g.C.Chart.county c.args.self.now.chart.now in
    let keeps : ℕ → Bool = λ feat. contains nat_cmp feat c.args.self.now.tables.now.kept.names in
    sym (field_narrow keeps county (λ ch. ch.body) (λ ch. refl) c.item.result) ∙ ap (option_map (λ ch. ch.body)) (value_at _ _ _ c.args.self.now.chains c.args.place c.item.result
    (c.item.ensures ∙ ap (λ places. slice_get places c.args.place) c.as_slice.ensures.value))

pub returns-clause-points : goal.returns-clause-points
returns-clause-points g c =
    let county = g.C.Chart.county c.args.self.now.chart.now in
    let keeps : ℕ → Bool = λ feat. contains nat_cmp feat c.args.self.now.tables.now.kept.names in
    sym (points_narrow keeps county c.item.result) ∙ ap (points_of) (value_at _ _ _ c.args.self.now.chains c.args.place c.item.result
    (c.item.ensures ∙ ap (λ places. slice_get places c.args.place) c.as_slice.ensures.value))

pub returns-clause-ranges : goal.returns-clause-ranges
returns-clause-ranges g c =
    let county = g.C.Chart.county c.args.self.now.chart.now in
    let keeps : ℕ → Bool = λ feat. contains nat_cmp feat c.args.self.now.tables.now.kept.names in
    sym (ranges_narrow keeps county c.item.result) ∙ ap (ranges_of) (value_at _ _ _ c.args.self.now.chains c.args.place c.item.result
    (c.item.ensures ∙ ap (λ places. slice_get places c.args.place) c.as_slice.ensures.value))

pub returns-clause-topology : goal.returns-clause-topology
returns-clause-topology g c =
    let county = g.C.Chart.county c.args.self.now.chart.now in
    let keeps : ℕ → Bool = λ feat. contains nat_cmp feat c.args.self.now.tables.now.kept.names in
    sym (field_narrow keeps county (λ ch. ch.topology) (λ ch. refl) c.item.result) ∙ ap (option_map (λ ch. ch.topology)) (value_at _ _ _ c.args.self.now.chains c.args.place c.item.result
    (c.item.ensures ∙ ap (λ places. slice_get places c.args.place) c.as_slice.ensures.value))

pub returns-clause-ends : goal.returns-clause-ends
returns-clause-ends g c =
    let county = g.C.Chart.county c.args.self.now.chart.now in
    let keeps : ℕ → Bool = λ feat. contains nat_cmp feat c.args.self.now.tables.now.kept.names in
    sym (field_narrow keeps county ends_of (λ ch. refl) c.item.result) ∙ ap (option_map ends_of) (value_at _ _ _ c.args.self.now.chains c.args.place c.item.result
    (c.item.ensures ∙ ap (λ places. slice_get places c.args.place) c.as_slice.ensures.value))

pub returns-clause-sides : goal.returns-clause-sides
returns-clause-sides g c =
    let county = g.C.Chart.county c.args.self.now.chart.now in
    let keeps : ℕ → Bool = λ feat. contains nat_cmp feat c.args.self.now.tables.now.kept.names in
    sym (field_narrow keeps county sides_of (λ ch. refl) c.item.result) ∙ ap (option_map sides_of) (value_at _ _ _ c.args.self.now.chains c.args.place c.item.result
    (c.item.ensures ∙ ap (λ places. slice_get places c.args.place) c.as_slice.ensures.value))
