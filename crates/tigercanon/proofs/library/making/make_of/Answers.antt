use Rattle.tigercanon.proofs.Common.{Device, IfErr-weaker, IfOk-weaker}
use Rattle.tigercanon.proofs.library.making.make_of.Goals as goal

pub returns-clause-made : goal.returns-clause-made
returns-clause-made g c parts says =
    let l = c.in_ok-linked.ensures.linked parts says in
    IfOk-weaker c.make_of_linked.result _ _ (λ made of. of parts l) c.make_of_linked.ensures.made

pub returns-clause-refused : goal.returns-clause-refused
returns-clause-refused g c parts says =
    let l = c.in_ok-linked.ensures.linked parts says in
    IfErr-weaker c.make_of_linked.result _ _ (λ fault refused. ((refused parts l).0, (refused parts l).1 Device))
    c.make_of_linked.ensures.refused
