use Rattle.renamings.proofs.Common.{IsAllAdjacentAnswer, decides_same, ltb}
use Rattle.renamings.proofs.Repeats.{ascend_decides, repeat_permuted}
use Rattle.std.proofs.Common.{IsPermutation, rules, subst, ◌≡◌}
use Rattle.std.proofs.lemmas.List.Sorted.{IsPermutation-sym}
use Rattle.std.proofs.lemmas.Fn.{always_returns_same}
use Rattle.renamings.proofs.sorted_numbers.SortedNumbers.has_no_repeat.Goals as goal

pub returns : goal.returns
returns c =
    let sorted = c.self.inside.sorted.items in
    let permuted : IsPermutation c.args.self.now sorted =
    subst (λ numbers. IsPermutation numbers sorted) c.self.view_is c.self.invariant.1 in
    let ascend : IsAllAdjacentAnswer (λ x y b. b ≡ ltb x y) sorted c.is_sorted_by.result =
    subst (λ numbers. IsAllAdjacentAnswer (λ x y b. b ≡ ltb x y) numbers c.is_sorted_by.result) c.deref.ensures.value
    (c.is_sorted_by.ensures.cases ltb (always_returns_same _ _ _ (λ a r f' k. search rules))) in
    decides_same c.is_sorted_by.result
    (ascend_decides sorted c.is_sorted_by.result c.self.invariant.0 ascend)
    (repeat_permuted c.args.self.now sorted permuted)
    (repeat_permuted sorted c.args.self.now (IsPermutation-sym c.args.self.now sorted permuted))
