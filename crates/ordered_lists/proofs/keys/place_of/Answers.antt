use Rattle.ordered_lists.proofs.Common.{ap, is_some, ◌∙◌}
use Rattle.ordered_lists.proofs.ByKey.KeyedLists.{place-known}
use Rattle.ordered_lists.proofs.ByKey.Keys.{IsKeyOrder}
use Rattle.ordered_lists.proofs.keys.place_of.Goals as goal

pub returns-clause-known : goal.returns-clause-known
returns-clause-known g c =
    let o : IsKeyOrder g.K.Ord.cmp = record { total = g.met.K.Ord.total; exact = g.met.K.Key.exact } in
    ap is_some c.ok.ensures.value
    ∙ place-known o c.args.key c.args.keys.now c.requires c.binary_search.result c.binary_search.ensures.bound
    c.binary_search.ensures.position
