use Rattle.std.proofs.Common.{IsPermutation, subst}
use Rattle.ordered_lists.proofs.ByKey.KeyedLists.{in_order-from_sorted}
use Rattle.std.proofs.lemmas.Cmp.{nat_cmp_total}
use Rattle.renamings.proofs.sorted_numbers.SortedNumbers.new.Goals as goal

pub invariant_of-result : goal.invariant_of-result
invariant_of-result c = (
  in_order-from_sorted nat_cmp_total c.sort.new.self.items c.in_ok-sort.ensures.sorted,
  subst (λ numbers. IsPermutation numbers c.sort.new.self.items) c.in_ok-sorted.ensures.items c.in_ok-sort.ensures.permutation,
)
