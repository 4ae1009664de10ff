use Rattle.tl_county.proofs.Common.{on_ok_weaker, option_cmp, point_cmp, refl}
use Rattle.tl_county.proofs.Rules.GatheredLists.{landmarks-in_order}
use Rattle.tl_county.proofs.linking.table_order.order_named.Goals as goal

pub returns-clause-landmarks : goal.returns-clause-landmarks
returns-clause-landmarks c = on_ok_weaker c.sort_by_keys-3.result (λ _. record {
  same = c.sort_by_keys-2.ensures.permutation;
  in_order = landmarks-in_order (option_cmp point_cmp) refl (λ p. refl) (λ p. refl)
      (λ p q. refl) c.sort_by_keys-2.new.items.items c.in_ok-sort_by_keys-2.ensures.in_order;
}) c.sort_by_keys-3.ensures.in_order
