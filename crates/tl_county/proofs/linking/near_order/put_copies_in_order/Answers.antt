use Rattle.tl_county.proofs.Common.{IsPermutation-trans}
use Rattle.tl_county.proofs.linking.near_order.put_copies_in_order.Goals as goal

pub returns-clause-permutation : goal.returns-clause-permutation
returns-clause-permutation g c =
    IsPermutation-trans c.args.items.now.items c.bring_close_by_key.new.items.items c.put_in_order_with_repeated.new.items.items
    c.bring_close_by_key.ensures c.put_in_order_with_repeated.ensures.permutation
