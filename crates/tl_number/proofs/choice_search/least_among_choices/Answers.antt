use Rattle.tl_number.proofs.Common.{IfOk-weaker, LeavesChoices, subst, sym}
use Rattle.tl_number.specs.AlikeRanges.{AreAlike}
use Rattle.tl_number.specs.LeastOnes.{HaveSameOnes, IsLeastOf}
use Rattle.arranged_county.specs.Views.{classed_county}
use Rattle.tl_number.proofs.choice_search.least_among_choices.Goals as goal

pub search_least-least-requires-clause-known : goal.search_least-least-requires-clause-known
search_least-least-requires-clause-known g c =
    subst (λ county. LeavesChoices county c.args.shape_order.now) (sym c.in_ok-classes.ensures) c.requires.known

pub search_least-least-requires-clause-alike : goal.search_least-least-requires-clause-alike
search_least-least-requires-clause-alike g c =
    subst (AreAlike (classed_county c.in_ok-classes.classes)) (sym c.deref.ensures.value)
    (subst (λ county. AreAlike county c.in_ok-alike.alike.items) (sym c.in_ok-classes.ensures) c.in_ok-alike.ensures)

pub search_least-least-requires-clause-ones : goal.search_least-least-requires-clause-ones
search_least-least-requires-clause-ones g c =
    subst (λ county. HaveSameOnes county c.args.numbers.now) (sym c.in_ok-classes.ensures) c.requires.ones

pub returns : goal.returns
returns g c =
    let county = g.C.Chart.county c.args.chart.now in
    IfOk-weaker c.search_least-least.result (IsLeastOf (classed_county c.in_ok-classes.classes) c.args.numbers.now) (IsLeastOf county c.args.numbers.now)
    (λ n least. subst (λ known. IsLeastOf known c.args.numbers.now n) c.in_ok-classes.ensures least) c.search_least-least.ensures
