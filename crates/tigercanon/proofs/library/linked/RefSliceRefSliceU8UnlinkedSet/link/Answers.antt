use Rattle.tigercanon.proofs.Refusing.{within_limits}
use Rattle.tigercanon.proofs.library.linked.RefSliceRefSliceU8UnlinkedSet.link.Goals as goal

pub link_in_order-requires : goal.link_in_order-requires
link_in_order-requires c = let l = c.in_ok-tables.ensures.spelled in within_limits _ _ l.0 l.1 l.2
