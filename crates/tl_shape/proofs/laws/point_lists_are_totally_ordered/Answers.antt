use Rattle.tl_shape.proofs.Orders.{points_exact, points_same, points_total}
use Rattle.tl_shape.proofs.laws.point_lists_are_totally_ordered.Goals as goal

pub returns-clause-total : goal.returns-clause-total
returns-clause-total c = points_total

pub returns-clause-exact : goal.returns-clause-exact
returns-clause-exact c points others = (points_exact points others, points_same points others)
