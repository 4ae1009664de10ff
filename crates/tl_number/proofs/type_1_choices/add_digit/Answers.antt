use Rattle.std.specs.List.{AllByRecursion}
use Rattle.std.proofs.Common.{List, ap, get_or, length, subst, sym, true, ℕ, ◌*◌, ◌+◌, ◌<◌, ◌∙◌, ◌≡◌}
use Rattle.std.specs.Ordering.{nat_cmp}
use Rattle.county_chart.specs.Choices.{most_choices}
use Rattle.ordered_lists.specs.Orders.{contains}
use Rattle.record_groups.proofs.Texts.GroupOrders.{records_total}
use Rattle.tl_number.specs.LeastOnes.{HaveLeastOnes, ones_in}
use Rattle.tl_number.specs.ShapeDigits.{combined}
use Rattle.tl_number.proofs.Choices.LeastBelow.{contained_all, few_combined, first_combined, first_contained, least_combined}
use Rattle.tl_number.proofs.type_1_choices.add_digit.Given.{Over}
use Rattle.tl_number.proofs.type_1_choices.add_digit.Goals.{Start}
use Rattle.tl_number.proofs.type_1_choices.add_digit.Goals as goal

-- the number of the first choice is one of the numbers
first_there : (g : Over) (c : Start g) → contains nat_cmp c.args.least.now.first.number c.args.least.now.numbers.items ≡ true
first_there g c = subst (λ n. contains nat_cmp n c.args.least.now.numbers.items ≡ true) (sym c.requires.least.first)
    (first_contained c.args.least.now.numbers.items c.requires.least.ones.some)

pub least_digits-requires-clause-behind : goal.least_digits-requires-clause-behind
least_digits-requires-clause-behind g c =
    contained_all (λ n. n < c.args.ways) c.args.least.now.numbers.items c.requires.least.ones.within c.args.least.now.first.number (first_there g (goal.at.least_digits-requires-clause-behind g c).Start)

pub combine-requires-clause-some : goal.combine-requires-clause-some
combine-requires-clause-some g c = subst (λ (numbers : List ℕ). 0 < length numbers) (sym c.deref-2.ensures.value) c.requires.least.ones.some

pub combine-requires-clause-few : goal.combine-requires-clause-few
combine-requires-clause-few g c =
    subst (λ (p : List ℕ × List ℕ). AllByRecursion (λ digit. AllByRecursion (λ number. digit * c.args.ways + number < most_choices) p.1) p.0)
    (λ i. (sym c.deref.ensures.value i, sym c.deref-2.ensures.value i))
    (few_combined c.args.ways c.args.count most_choices c.requires.few c.in_ok-digits.digits.items c.args.least.now.numbers.items
    c.in_ok-digits.ensures.digits.within c.requires.least.ones.within)

pub returns-clause-numbers : goal.returns-clause-numbers
returns-clause-numbers g c = c.in_ok-least.ensures ∙ (λ i. combined c.args.ways (c.deref.ensures.value i) (c.deref-2.ensures.value i))

pub returns-clause-digits : goal.returns-clause-digits
returns-clause-digits g c = c.in_ok-digits.ensures.digits.within

pub returns-clause-least : goal.returns-clause-least
returns-clause-least g c =
    let county = g.C.Chart.county c.args.chart.now in
    let ways = c.args.ways in
    let numbers = c.args.least.now.numbers.items in
    let digits = c.in_ok-digits.digits.items in
    let number = c.args.least.now.first.number in
    let some = c.requires.least.ones.some in
    let all = c.in_ok-least.ensures ∙ (λ i. combined ways (c.deref.ensures.value i) (c.deref-2.ensures.value i)) in
    record {
      ones = subst (HaveLeastOnes county (c.args.count * ways)) (sym all)
          (least_combined records_total (ones_in county) ways c.args.count c.requires.apart numbers c.requires.least.ones number
          (first_there g (goal.at.returns-clause-least g c).Start) digits c.in_ok-digits.ensures.digits);
      first = c.in_ok-digits.ensures.first ∙ ap (λ n. get_or digits 0 0 * ways + n) c.requires.least.first
          ∙ sym (ap (λ ns. get_or ns 0 0) all ∙ first_combined ways digits numbers c.in_ok-digits.ensures.digits.some some);
      chosen = c.in_ok-digits.ensures.chosen;
    }
