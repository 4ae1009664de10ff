use Rattle.ordered_lists.proofs.ByKey.KeyedLists.{in_order-from_sorted}
use Rattle.ordered_lists.proofs.keys.sort_keys.Goals as goal

pub returns-clause-in_order : goal.returns-clause-in_order
returns-clause-in_order g c = in_order-from_sorted g.met.K.Ord.total c.sort_unstable.new.self.items c.sort_unstable.ensures.sorted
