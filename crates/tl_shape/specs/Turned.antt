-- A chain seen from its other end.
use Rattle.std.specs.Prelude.{Bool, cond, map, reverse, ◌≡◌}
use Rattle.tl_layout.specs.Turned.{turned_body, turned_ranges}
use Rattle.tl_shape.specs.Chain.{Chain}

-- d is c turned: its points are reversed, its nodes and its sides are exchanged, and its content and each of its
-- address ranges are turned; its names, the order of its ranges and the content of its type I record stay.
pub record IsTurned (c d : Chain) : Type 0 where
  pub body : d.body ≡ turned_body c.body
  pub points : d.points ≡ reverse c.points
  pub feats : d.feats ≡ c.feats
  pub ranges : d.ranges ≡ map turned_ranges c.ranges
  pub topology : d.topology ≡ c.topology
  pub start_node : d.start_node ≡ c.end_node
  pub end_node : d.end_node ≡ c.start_node
  pub left : d.left ≡ c.right
  pub right : d.right ≡ c.left

-- the chain seen from its other end; its names, the order of its ranges and the content of its type I record stay
abbrev pub turned : Chain → Chain
turned c = record c {
  body = turned_body c.body;
  points = reverse c.points;
  ranges = map turned_ranges c.ranges;
  start_node = c.end_node;
  end_node = c.start_node;
  left = c.right;
  right = c.left;
}

-- the chain, turned if turns
abbrev pub turned_if : Bool → Chain → Chain
turned_if turns c = cond turns (turned c) c
