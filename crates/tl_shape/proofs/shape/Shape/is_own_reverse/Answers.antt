use Rattle.std.proofs.Common.{ap, reverse, sym, ◌∙◌}
use Rattle.std.specs.Ordering.{is_eq}
use Rattle.tl_shape.proofs.Orders.{equal_from_test, points_exact, points_same}
use Rattle.tl_shape.proofs.shape.Shape.is_own_reverse.Goals as goal

pub returns : goal.returns
returns c = (
  (λ e. points_exact (reverse c.args.self.now) c.args.self.now
      (equal_from_test _ (sym (c.is_eq.ensures ∙ ap is_eq c.cmp_reverse.ensures) ∙ e))),
  (λ e. c.is_eq.ensures ∙ ap is_eq (c.cmp_reverse.ensures ∙ points_same (reverse c.args.self.now) c.args.self.now e)),
)
