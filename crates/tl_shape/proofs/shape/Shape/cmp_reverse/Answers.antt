use Rattle.std.proofs.Common.{ap, reverse, sym, ◌∙◌}
use Rattle.tl_shape.specs.PointOrder.{point_cmp, points_cmp}
use Rattle.tl_shape.proofs.Reversed.{after_equal, at_unequal}
use Rattle.tl_shape.proofs.shape.Shape.cmp_reverse.Goals as goal

pub returns-in_default : goal.returns-in_default
returns-in_default c =
    let points = c.as_slice-points.result.now in
    let first = at_unequal point_cmp points c.loop-i.i c.index-points-len.result c.index-points-i.result _ c.loop-i-test.true
    c.index-points-len.is c.index-points-i.is c.loop-i.invariant (λ e. c.in_default.not-Equal (c.cmp.ensures ∙ e)) in
    c.cmp.ensures ∙ (first ∙ ap (λ l. points_cmp (reverse l) l) (c.as_slice-points.ensures.value ∙ c.self.view_is))

pub loop-i-preserved : goal.loop-i-preserved
loop-i-preserved c =
    after_equal point_cmp c.as_slice-points.result.now c.loop-i.i c.index-points-len.result c.index-points-i.result _ c.loop-i-test.true
    c.index-points-len.is c.index-points-i.is c.loop-i.invariant (sym c.cmp.ensures ∙ c.in-Equal.is)
