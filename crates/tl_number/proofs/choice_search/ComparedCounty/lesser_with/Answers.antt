use Rattle.tl_number.proofs.Common.{IsArrangedChoice, ap, choices_cmp, cond, is_gt, ones_cmp, refl, subst, sym, ℕ, ◌∙◌, ◌≡◌}
use Rattle.tl_number.proofs.Choices.ChoiceSteps.{of_each}
use Rattle.tl_number.proofs.choice_search.ComparedCounty.lesser_with.Goals as goal

pub compare-ordering-requires-clause-ones : goal.compare-ordering-requires-clause-ones
compare-ordering-requires-clause-ones g c =
    ap (ones_cmp (g.C.Chart.county c.args.self.now.classes.now.chart.now) c.args.one.number) c.in-Ok.ensures.number ∙ c.requires.ones

pub returns-in-Ok-clause-number : goal.returns-in-Ok-clause-number
returns-in-Ok-clause-number g c =
    let county = g.C.Chart.county c.args.self.now.classes.now.chart.now in
    let one = c.args.one.number in
    let gives_way = is_gt c.compare-ordering.result in
    ap (λ choice. choice.number) c.lesser.ensures
    ∙ of_each (λ choice n. choice.number ≡ n) gives_way c.in-Ok.other c.args.one c.args.number one c.in-Ok.ensures.number refl
    ∙ ap (λ o. cond (is_gt o) c.args.number one) (c.compare-ordering.ensures ∙ ap (choices_cmp county one) c.in-Ok.ensures.number)

pub returns-in-Ok-clause-arranged : goal.returns-in-Ok-clause-arranged
returns-in-Ok-clause-arranged g c =
    let county = g.C.Chart.county c.args.self.now.classes.now.chart.now in
    let shapes = c.args.self.now.shape_order.now in
    subst (λ choice. IsArrangedChoice county shapes choice) (sym c.lesser.ensures)
    (of_each (λ choice (n : ℕ). IsArrangedChoice county shapes choice) (is_gt c.compare-ordering.result) c.in-Ok.other c.args.one 0 0
    c.in-Ok.ensures.arranged c.requires.arranged)
