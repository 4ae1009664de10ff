use Rattle.arranged_county.proofs.Common.{IsInOrder, IsPermutation-trans, link_cmp, subst}
use Rattle.arranged_county.proofs.landmark_links.order_links.Goals as goal

pub returns-then-are_in_order-clause-in_order : goal.returns-then-are_in_order-clause-in_order
returns-then-are_in_order-clause-in_order c =
    subst (IsInOrder link_cmp) c.deref.ensures.value (c.are_in_order.ensures.in_order c.if-are_in_order.true)

pub returns-clause-permutation : goal.returns-clause-permutation
returns-clause-permutation c =
    IsPermutation-trans c.args.links.now.items c.bring_close_by_land.new.links.items c.sort_by_keys.new.items.items
    c.bring_close_by_land.ensures c.sort_by_keys.ensures.permutation
