use Rattle.tl_number.proofs.Common.{AgreeApart, agree_same, nothing_left, subst}
use Rattle.tl_number.proofs.numbered_arrangement.put_back.Goals as goal

pub returns : goal.returns
returns c =
    let none = nothing_left c.loop-at.rest.now c.in_default.ensures.cases in
    agree_same c.loop-at.arrangement c.args.by_shape.now
    (subst (λ places. AgreeApart places c.loop-at.arrangement c.args.by_shape.now) none c.loop-at.invariant.apart)
