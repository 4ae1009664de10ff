use Rattle.arranged_county.proofs.Common.{ap, arith, length, slice_get, ◌∙◌}
use Rattle.arranged_county.proofs.Views.ViewTables.{name_there, name_within, names_read}
use Rattle.arranged_county.proofs.arranged_chart.ArrangedChart.name_body_there.Goals as goal

pub item-old-requires : goal.item-old-requires
item-old-requires g c =
    let counted = names_read (g.C.Chart.county c.args.self.now.chart) c.args.self.now.arrangement.items (g.met.C.Chart.is_county c.args.self.now.chart) c.args.self.now.whole
    c.args.self.now.names c.args.self.now.names_stated in
    omega (arith, c.requires, ap length c.as_slice.ensures.value, counted)

pub name_body_there-requires : goal.name_body_there-requires
name_body_there-requires g c =
    name_within (g.C.Chart.county c.args.self.now.chart) c.args.self.now.arrangement.items (g.met.C.Chart.is_county c.args.self.now.chart) c.args.self.now.whole
    c.args.self.now.names c.args.self.now.names_stated c.args.place c.item-old.result
    (c.item-old.ensures ∙ ap (λ places. slice_get places c.args.place) c.as_slice.ensures.value)

pub returns : goal.returns
returns g c =
    c.name_body_there.ensures ∙ name_there (g.C.Chart.county c.args.self.now.chart) c.args.self.now.arrangement.items (g.met.C.Chart.is_county c.args.self.now.chart) c.args.self.now.whole
    c.args.self.now.names c.args.self.now.names_stated c.args.place c.item-old.result
    (c.item-old.ensures ∙ ap (λ places. slice_get places c.args.place) c.as_slice.ensures.value)
