use Rattle.tigercanon.proofs.Common.{[], most_records}
use Rattle.tigercanon.proofs.Refusing.{within_limits}
use Rattle.tigercanon.proofs.library.linked.LoaderForTablesUnlinkedSet.link.Goals as goal

pub link_in_order-requires : goal.link_in_order-requires
link_in_order-requires c =
    let fed = c.requires.0 in
    let k = c.in_ok-tables.ensures.loaded most_records fed.0 [] fed.1 in
    within_limits fed.0 _ k.0 k.1 k.2
