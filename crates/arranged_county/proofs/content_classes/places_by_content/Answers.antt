use Rattle.arranged_county.proofs.Common.{always_returns_same, in_order-from_sorted, is_lt, ranks_by, rules}
use Rattle.arranged_county.proofs.content_classes.places_by_content.Goals as goal

pub returns-clause-in_order : goal.returns-clause-in_order
returns-clause-in_order g c =
    let order = g.T.Contents.order c.args.contents.now in
    let total = g.met.T.Contents.total c.args.contents.now in
    in_order-from_sorted total c.sort_unstable_by.new.self.items
    (c.sort_unstable_by.ensures.sorted (λ a b. is_lt (order a b)) (ranks_by total (λ s. s))
    (always_returns_same _ _ _ (λ a r f' k. search rules)))
