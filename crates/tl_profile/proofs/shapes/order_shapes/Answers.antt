use Rattle.tl_profile.proofs.Common.{placed_key_cmp, rules}
use Rattle.tl_profile.proofs.PlacedOrder.{placed_key_total}
use Rattle.std.proofs.lemmas.Fn.{always_returns_same}
use Rattle.ordered_lists.proofs.ByKey.KeyedLists.{in_order-from_sorted}
use Rattle.std.proofs.Common.{is_lt}
use Rattle.std.proofs.lemmas.List.Sorted.{ranks_by}
use Rattle.tl_profile.proofs.shapes.order_shapes.Goals as goal

pub returns-clause-in_order : goal.returns-clause-in_order
returns-clause-in_order g c =
    let county = g.C.Chart.county c.args.chart.now in
    in_order-from_sorted (placed_key_total county) c.sort_unstable_by.new.self.items
    (c.sort_unstable_by.ensures.sorted (λ a b. is_lt (placed_key_cmp county a b)) (ranks_by (placed_key_total county) (λ x. x))
    (always_returns_same _ _ _ (λ a r f' k. search rules)))
