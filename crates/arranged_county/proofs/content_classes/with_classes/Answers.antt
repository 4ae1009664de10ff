use Rattle.arranged_county.proofs.Common.{[], ap, append_assoc, arith, classes_along, length, sym, ◌++◌, ◌∙◌, ◌∷◌, ◌≡◌}
use Rattle.arranged_county.proofs.content_classes.with_classes.Goals as goal

pub loop-place-preserved : goal.loop-place-preserved
loop-place-preserved g c =
    let order = g.T.Contents.order c.args.contents.now in
    let pushed = c.loop-place.classed.items in
    let class = c.loop-place.class in
    let place = c.in-Some.place.now in
    let later = c.in-Some.later.now in
    let cut : c.loop-place.rest.now ≡ place ∷ later = c.in-Some.ensures.cases.0 in
    let few = c.loop-place.invariant.few in
    let next = c.next_class-class.ensures.few in
    let count = ap length cut in
    record {
      classed = ap (λ items. items ++ classes_along order c.next_class-class.result later) c.in_ok-push.ensures.items
          ∙ append_assoc pushed ((class, place) ∷ []) (classes_along order c.next_class-class.result later)
          ∙ ap (λ n. pushed ++ (class, place) ∷ classes_along order n later) c.next_class-class.ensures.class
          ∙ ap (λ rest. pushed ++ classes_along order class rest) (sym cut)
          ∙ c.loop-place.invariant.classed;
      few = omega (arith, few, next, count);
    }

pub next_class-class-requires : goal.next_class-class-requires
next_class-class-requires g c =
    let cut = c.in-Some.ensures.cases.0 in
    let few = c.loop-place.invariant.few in
    let count = ap length cut in
    omega (arith, few, count)
