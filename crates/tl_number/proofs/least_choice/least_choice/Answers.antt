use Rattle.tl_number.proofs.Common.{IsLeastBelow, IsNotAfter, arith, choice_list, choices, not_after_itself, subst, sym}
use Rattle.tl_number.specs.LeastOnes.{HaveLeastOnes}
use Rattle.tl_number.specs.StillOpen.{LeavesOpen}
use Rattle.tl_number.proofs.Choices.LeastBelow.{lone_all}
use Rattle.tl_number.proofs.Choices.LeastOnes.{least_of_these}
use Rattle.tl_number.proofs.least_choice.least_choice.Goals as goal

pub returns-then-len-eq1-clause-number : goal.returns-then-len-eq1-clause-number
returns-then-len-eq1-clause-number g c =
    let chart = c.args.chart.now in
    let county = g.C.Chart.county chart in
    let least = c.in_ok-least.ensures.least in
    let numbers = c.in_ok-least.least.numbers.items in
    let number = c.in_ok-least.least.first.number in
    least_of_these record {
      county = county;
      shapes = c.args.shape_order.now;
      known = c.requires;
      is = g.met.C.Chart.is_county chart;
      within = g.met.C.Chart.within_limits chart;
    } numbers least.ones number
    (lone_all (λ m. IsNotAfter (choice_list county number) (choice_list county m)) numbers (omega (arith, c.len.ensures, c.if-len-eq1.true))
    (subst (λ m. IsNotAfter (choice_list county number) (choice_list county m)) least.first (not_after_itself (choice_list county number))))

pub least_number-requires-clause-ones : goal.least_number-requires-clause-ones
least_number-requires-clause-ones g c =
    let county = g.C.Chart.county c.args.chart.now in
    subst (HaveLeastOnes county (choices county)) (sym c.deref.ensures.value) c.in_ok-least.ensures.least.ones

pub least_number-requires-clause-left : goal.least_number-requires-clause-left
least_number-requires-clause-left g c =
    let order = c.args.shape_order.now in
    subst (λ numbers. LeavesOpen order.by_shape order.places numbers c.in_ok-least.least.still_open) (sym c.deref.ensures.value) c.in_ok-least.ensures.left

pub returns-clause-number : goal.returns-clause-number
returns-clause-number g c =
    let county = g.C.Chart.county c.args.chart.now in
    subst (IsLeastBelow county (choices county)) (sym c.choose_again.ensures.number) c.in_ok-number.ensures
