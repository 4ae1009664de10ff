use Rattle.county_chart.proofs.Common.{always_returns_same, in_order-from_sorted, is_lt, landmark_body_cmp, landmark_body_keys, ranks_by, rules, sorted_in_order}
use Rattle.county_chart.proofs.masked_bodies.sort_bodies.Goals as goal

pub returns : goal.returns
returns c =
    let sorted = c.sort_unstable_by.new.self in
    sorted_in_order landmark_body_keys c.args.bodies.now sorted c.sort_unstable_by.ensures.permutation
    (in_order-from_sorted landmark_body_keys.total sorted
    (c.sort_unstable_by.ensures.sorted (λ a b. is_lt (landmark_body_cmp a b)) (ranks_by landmark_body_keys.total (λ s. s))
    (always_returns_same _ _ _ (λ a r f' k. search rules))))
