use Rattle.arranged_county.proofs.Common.{AreClasses, IfOk-weaker, ap, arith, classes_along, length, length-range_with_len, length_permutation, range_with_len, subst, sym, ◌∙◌, ◌≡◌}
use Rattle.arranged_county.proofs.Lists.Classes.{are_classes}
use Rattle.arranged_county.proofs.content_classes.classes_in.Goals as goal

pub with_classes-requires : goal.with_classes-requires
with_classes-requires g c =
    let all = range_with_len 0 (g.T.Contents.places c.args.contents.now) in
    let count = ap length c.deref.ensures.value ∙ length_permutation all c.in_ok-places.places.items c.in_ok-places.ensures.permutation
    ∙ length-range_with_len 0 (g.T.Contents.places c.args.contents.now) in
    let few = c.requires in
    omega (arith, count, few)

pub returns : goal.returns
returns g c =
    let order = g.T.Contents.order c.args.contents.now in
    let count = g.T.Contents.places c.args.contents.now in
    let places = c.in_ok-places.places.items in
    IfOk-weaker c.with_classes.result (λ classed. classed.items ≡ classes_along order 0 c.deref.result.now)
    (λ classed. AreClasses count order classed.items)
    (λ classed e. subst (AreClasses count order) (sym (e ∙ ap (classes_along order 0) c.deref.ensures.value))
    (are_classes (g.met.T.Contents.total c.args.contents.now) count places c.in_ok-places.ensures.permutation c.in_ok-places.ensures.in_order))
    c.with_classes.ensures
