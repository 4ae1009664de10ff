use Rattle.arranged_county.proofs.Common.{IfSome, List, Some, ap, contains, nat_cmp, slice_get, subst, sym, up_to, ℕ, ◌∙◌, ◌≡◌}
use Rattle.arranged_county.proofs.Views.ViewTables.{feats_arranged_by}
use Rattle.arranged_county.proofs.arranged_chart.ArrangedChart.name_place.Goals as goal

pub returns-clause-found : goal.returns-clause-found
returns-clause-found g c =
    subst (λ (numbers : List ℕ). IfSome c.place_of_number.result (λ place. slice_get numbers place ≡ Some c.args.feat))
    (ap up_to (c.len.ensures.len) ∙ sym (feats_arranged_by (g.C.Chart.county c.args.self.now.chart) c.args.self.now.arrangement.items
    (g.met.C.Chart.is_county c.args.self.now.chart) c.args.self.now.whole c.args.self.now.names c.args.self.now.names_stated))
    c.place_of_number.ensures.found

pub returns-clause-known : goal.returns-clause-known
returns-clause-known g c =
    c.place_of_number.ensures.known ∙ ap (contains nat_cmp c.args.feat)
    (ap up_to (c.len.ensures.len) ∙ sym (feats_arranged_by (g.C.Chart.county c.args.self.now.chart) c.args.self.now.arrangement.items
    (g.met.C.Chart.is_county c.args.self.now.chart) c.args.self.now.whole c.args.self.now.names c.args.self.now.names_stated))
