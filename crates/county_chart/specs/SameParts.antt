-- Two chains compared part by part. There may be no chain: chains that both aren't there have the same parts.
use Rattle.std.specs.Prelude.{Option, option_map, ◌≡◌}
use Rattle.tl_shape.specs.Chain.{Chain}
use Rattle.county_chart.specs.ChartWords.{feats_of, points_of, ranges_of}

-- two chains, or none, have the same content in their records of types 1 and I
pub record HaveSameContent (o p : Option Chain) : Type 0 where
  pub body : option_map (λ c. c.body) o ≡ option_map (λ c. c.body) p
  pub topology : option_map (λ c. c.topology) o ≡ option_map (λ c. c.topology) p

-- they have the same nodes and the same sides
pub record HaveSameEnds (o p : Option Chain) : Type 0 where
  pub start_node : option_map (λ c. c.start_node) o ≡ option_map (λ c. c.start_node) p
  pub end_node : option_map (λ c. c.end_node) o ≡ option_map (λ c. c.end_node) p
  pub left : option_map (λ c. c.left) o ≡ option_map (λ c. c.left) p
  pub right : option_map (λ c. c.right) o ≡ option_map (λ c. c.right) p

-- they have the same points, names and address ranges
pub record HaveSameLists (o p : Option Chain) : Type 0 where
  pub points : points_of o ≡ points_of p
  pub feats : feats_of o ≡ feats_of p
  pub ranges : ranges_of o ≡ ranges_of p
