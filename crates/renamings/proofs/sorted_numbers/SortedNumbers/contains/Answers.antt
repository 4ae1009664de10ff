use Rattle.std.proofs.Common.{IsPermutation, ap, nat_cmp, nat_lt, subst, ◌∙◌}
use Rattle.ordered_lists.proofs.ByKey.Keys.{nat_keys, times-permutation}
use Rattle.ordered_lists.specs.Orders.{contains}
use Rattle.renamings.proofs.sorted_numbers.SortedNumbers.contains.Goals as goal

pub returns : goal.returns
returns c =
    let sorted = c.self.inside.sorted.items in
    c.is_some.ensures ∙ c.place_of.ensures.known ∙ ap (contains nat_cmp c.args.number) c.deref.ensures.value
    ∙ ap (nat_lt 0) (times-permutation nat_keys c.args.number c.args.self.now sorted
    (subst (λ numbers. IsPermutation numbers sorted) c.self.view_is c.self.invariant.1))
