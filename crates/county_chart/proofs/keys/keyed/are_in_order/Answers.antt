use Rattle.county_chart.proofs.Common.{always_returns_same, answered-in_order, in_order-from_adjacent, is_le, on, on_total, rules}
use Rattle.county_chart.proofs.keys.keyed.are_in_order.Goals as goal

pub returns-clause-in_order : goal.returns-clause-in_order
returns-clause-in_order g c =
    in_order-from_adjacent (on_total g.T.Keyed.key_of g.met.K.Ord.total) c.args.items.now c.is_sorted_by.result
    (c.is_sorted_by.ensures.cases (λ item next. is_le (on g.T.Keyed.key_of g.K.Ord.cmp item next))
    (always_returns_same _ _ _ (λ a r f' k. search rules)))

pub returns-clause-stated : goal.returns-clause-stated
returns-clause-stated g c =
    answered-in_order (on_total g.T.Keyed.key_of g.met.K.Ord.total) c.args.items.now c.is_sorted_by.result
    (c.is_sorted_by.ensures.cases (λ item next. is_le (on g.T.Keyed.key_of g.K.Ord.cmp item next))
    (always_returns_same _ _ _ (λ a r f' k. search rules)))
