use Rattle.tigercanon.proofs.Refusing.{within_limits}
use Rattle.tigercanon.proofs.library.normalising.link_sources.Goals as goal

pub link_in_order-requires : goal.link_in_order-requires
link_in_order-requires g c = let l = c.in_ok-tables.ensures.loaded in within_limits _ _ l.2 l.3 l.4
