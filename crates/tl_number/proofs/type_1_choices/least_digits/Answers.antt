use Rattle.std.specs.Ordering.{is_gt}
use Rattle.std.proofs.Common.{List, [], ap, ap₂, arith, false, get_or, subst, sym, true, ℕ, ◌*◌, ◌++◌, ◌+◌, ◌∙◌, ◌∷◌, ◌≡◌}
use Rattle.record_groups.specs.RecordOrder.{records_cmp}
use Rattle.record_groups.specs.TypeOneOrder.{ones_cmp}
use Rattle.record_groups.proofs.Texts.GroupOrders.{records_total}
use Rattle.tl_number.specs.ChoiceSearch.{IsChosen}
use Rattle.tl_number.specs.LeastOnes.{HaveLeastOnesByDigit, ones_in}
use Rattle.tl_number.proofs.Choices.ChoiceSteps.{greater_from, not_greater_from}
use Rattle.tl_number.proofs.Choices.LeastBelow.{first_comes, first_contained, first_stays, least_first, least_next}
use Rattle.tl_number.proofs.type_1_choices.least_digits.Goals as goal

pub loop-digit-init : goal.loop-digit-init
loop-digit-init g c =
    let county = g.C.Chart.county c.args.chart.now in
    let behind = c.args.first.now.number in
    let pushed : c.push.new.self.items ≡ 0 ∷ [] = c.in_ok-push.ensures.items ∙ ap (λ (l : List ℕ). l ++ 0 ∷ []) c.new-digits.ensures.items in
    record {
      chosen = c.requires.chosen;
      other = c.in_ok-other.ensures.chosen;
      first = (let zero : behind ≡ 0 * c.args.ways + behind = omega arith in zero)
          ∙ sym (ap (λ digits. get_or digits 0 0 * c.args.ways + behind) pushed);
      are = subst (HaveLeastOnesByDigit county c.args.ways behind 1) (sym pushed)
          (least_first records_total (λ digit. ones_in county (digit * c.args.ways + behind)));
    }

pub loop-digit-preserved-then-is_le : goal.loop-digit-preserved-then-is_le
loop-digit-preserved-then-is_le g c =
    let county = g.C.Chart.county c.args.chart.now in
    let ways = c.args.ways in
    let behind = c.args.first.now.number in
    let ordering = c.compare_by_type_1-ordering.result in
    let digit = c.loop-digit.digit in
    let digits = c.loop-digit.digits.items in
    let some = c.loop-digit.invariant.are.some in
    let top : ℕ = get_or digits 0 0 in
    let stays : is_gt ordering ≡ false = not_greater_from ordering (sym c.is_le.ensures ∙ c.if-is_le.true) in
    let compared : ordering ≡ records_cmp (ones_in county (top * ways + behind)) (ones_in county (digit * ways + behind)) =
    c.compare_by_type_1-ordering.ensures ∙ ap₂ (ones_cmp county) c.loop-digit.invariant.first c.choose_again.ensures.number in
    record {
      chosen = c.loop-digit.invariant.chosen;
      other = c.choose_again.ensures.chosen;
      first = c.loop-digit.invariant.first ∙ ap (λ d. d * ways + behind) (sym (first_stays ordering digit digits some stays))
          ∙ sym (ap (λ all. get_or all 0 0 * ways + behind) c.in_ok-keep_least.ensures);
      are = subst (HaveLeastOnesByDigit county ways behind (digit + 1)) (sym c.in_ok-keep_least.ensures)
          (least_next records_total (λ d. ones_in county (d * ways + behind)) digit digits c.loop-digit.invariant.are top
          (first_contained digits some) ordering compared);
    }

pub loop-digit-preserved : goal.loop-digit-preserved
loop-digit-preserved g c =
    let county = g.C.Chart.county c.args.chart.now in
    let ways = c.args.ways in
    let behind = c.args.first.now.number in
    let ordering = c.compare_by_type_1-ordering.result in
    let digit = c.loop-digit.digit in
    let digits = c.loop-digit.digits.items in
    let some = c.loop-digit.invariant.are.some in
    let top : ℕ = get_or digits 0 0 in
    let gives_way : is_gt ordering ≡ true = greater_from ordering (sym c.is_le.ensures ∙ c.if-is_le.false) in
    let compared : ordering ≡ records_cmp (ones_in county (top * ways + behind)) (ones_in county (digit * ways + behind)) =
    c.compare_by_type_1-ordering.ensures ∙ ap₂ (ones_cmp county) c.loop-digit.invariant.first c.choose_again.ensures.number in
    record {
      chosen = subst (IsChosen c.args.shape_order.now) (sym c.swap.ensures.x_after) c.choose_again.ensures.chosen;
      other = subst (IsChosen c.args.shape_order.now) (sym c.swap.ensures.y_after) c.loop-digit.invariant.chosen;
      first = ap (λ choice. choice.number) c.swap.ensures.x_after ∙ c.choose_again.ensures.number
          ∙ ap (λ d. d * ways + behind) (sym (first_comes ordering digit digits gives_way))
          ∙ sym (ap (λ all. get_or all 0 0 * ways + behind) c.in_ok-keep_least.ensures);
      are = subst (HaveLeastOnesByDigit county ways behind (digit + 1)) (sym c.in_ok-keep_least.ensures)
          (least_next records_total (λ d. ones_in county (d * ways + behind)) digit digits c.loop-digit.invariant.are top
          (first_contained digits some) ordering compared);
    }
