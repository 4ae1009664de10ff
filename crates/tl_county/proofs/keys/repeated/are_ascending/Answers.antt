use Rattle.tl_county.proofs.Common.{IsKeyOrder, always_returns_same, ascend-apart, ascend-in_order, is_lt, on, rules}
use Rattle.tl_county.proofs.keys.repeated.are_ascending.Goals as goal

pub returns-clause-in_order : goal.returns-clause-in_order
returns-clause-in_order g c =
    let o : IsKeyOrder g.K.Ord.cmp = record { total = g.met.K.Ord.total; exact = g.met.K.Key.exact } in
    ascend-in_order o g.T.Keyed.key_of c.args.items.now c.is_sorted_by.result
    (c.is_sorted_by.ensures.cases (λ item next. is_lt (on g.T.Keyed.key_of g.K.Ord.cmp item next))
    (always_returns_same _ _ _ (λ a r f' k. search rules)))

pub returns-clause-apart : goal.returns-clause-apart
returns-clause-apart g c =
    let o : IsKeyOrder g.K.Ord.cmp = record { total = g.met.K.Ord.total; exact = g.met.K.Key.exact } in
    ascend-apart o g.T.Keyed.key_of c.args.items.now c.is_sorted_by.result
    (c.is_sorted_by.ensures.cases (λ item next. is_lt (on g.T.Keyed.key_of g.K.Ord.cmp item next))
    (always_returns_same _ _ _ (λ a r f' k. search rules)))
