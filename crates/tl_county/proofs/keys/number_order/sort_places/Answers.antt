use Rattle.tl_county.proofs.Common.{always_returns_same, get_or, in_order-from_sorted, nat_cmp_total, on_ok_weaker, on_total, rules, unwrap_or-slice_get, ℕ}
use Rattle.tl_county.proofs.keys.number_order.sort_places.Goals as goal

pub returns-clause-in_order : goal.returns-clause-in_order
returns-clause-in_order c =
    let number : ℕ → ℕ = λ place. get_or c.args.numbers.now place 0 in
    on_ok_weaker c.sort_by_cached_key.result
    (λ sorted. in_order-from_sorted (on_total number nat_cmp_total) c.sort_by_cached_key.new.self.items
    (sorted number (always_returns_same _ _ _ (λ a r f' k. search (rules, unwrap_or-slice_get)))))
    c.sort_by_cached_key.ensures.sorted
