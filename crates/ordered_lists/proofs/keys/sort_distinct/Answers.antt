use Rattle.ordered_lists.proofs.Common.{dedup_is, ◌∙◌}
use Rattle.ordered_lists.proofs.ByKey.KeyedLists.{in_order-from_sorted}
use Rattle.ordered_lists.proofs.ByKey.Keys.{IsKeyOrder}
use Rattle.ordered_lists.proofs.ByKey.SortedKeys.{dedup-distinct}
use Rattle.ordered_lists.proofs.keys.sort_distinct.Goals as goal

pub returns : goal.returns
returns g c =
    let o : IsKeyOrder g.K.Ord.cmp = record { total = g.met.K.Ord.total; exact = g.met.K.Key.exact } in
    let sorted = c.sort_unstable.new.self.items in
    dedup_is g.K.PartialEq.eq sorted c.dedup.new.self.items c.dedup.ensures.filtered
    ∙ dedup-distinct g.K.PartialEq.eq g.met.K.Ord.matches_eq o c.args.keys.now.items sorted c.sort_unstable.ensures.permutation
    (in_order-from_sorted g.met.K.Ord.total sorted c.sort_unstable.ensures.sorted)
