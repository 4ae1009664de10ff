use Rattle.county_chart.proofs.Common.{always_returns_same, in_order-from_sorted, on_ok_weaker, on_total, rules}
use Rattle.county_chart.proofs.keys.keyed.sort_by_keys.Goals as goal

pub returns-clause-in_order : goal.returns-clause-in_order
returns-clause-in_order g c =
    on_ok_weaker c.sort_by_cached_key.result
    (λ sorted. in_order-from_sorted (on_total g.T.Keyed.key_of g.met.K.Ord.total) c.sort_by_cached_key.new.self.items
    (sorted g.T.Keyed.key_of (always_returns_same _ _ _ (λ a r f' k. search rules))))
    c.sort_by_cached_key.ensures.sorted
