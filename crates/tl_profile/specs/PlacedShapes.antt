-- The values that represent chains while shapes are sorted.
use Rattle.std.specs.Prelude.{List, ◌∷◌, ◌≡◌}
use Rattle.std.specs.Ordering.{int_cmp, nat_cmp, ordering_then}
use Rattle.std.specs.declared.cmp.Ordering.{Ordering}
use Rattle.tl_layout.specs.Coordinates.{Coordinates}
use Rattle.tl_shape.specs.PointOrder.{points_cmp}
use Rattle.county_chart.specs.Choices.{is_either_way}
use Rattle.county_chart.specs.County.{County}
use Rattle.county_chart.specs.ShapeOrder.{points_along}
use Rattle.county_chart.specs.declared.directed_chain.DirectedChain.{DirectedChain}
use Rattle.tl_profile.specs.PointRanks.{IsRankOf}
use Rattle.tl_profile.specs.declared.shapes.PlacedShape.{PlacedShape}

-- the chain in this direction
abbrev pub placed_directed : PlacedShape → DirectedChain
placed_directed shape = record { place = shape.place; turned = shape.turned }

-- the whole shape of the chain
abbrev pub whole_shape : County → PlacedShape → List Coordinates
whole_shape county shape = points_along county (placed_directed shape)

-- the shape's first two points have these ranks, and either_way states whether the shape is the same from both
-- ends
pub record HasFirstPoints (county : County) (shape : PlacedShape) : Type 0 where
  pub first : Coordinates
  pub second : Coordinates
  pub rest : List Coordinates
  pub is : whole_shape county shape ≡ first ∷ second ∷ rest
  pub first_rank : IsRankOf first shape.first
  pub second_rank : IsRankOf second shape.second
  pub either_way : shape.either_way ≡ is_either_way (whole_shape county shape)

-- in the order of the ranks of the second points, and then of the whole shape
abbrev pub beyond_first_cmp : County → PlacedShape → PlacedShape → Ordering
beyond_first_cmp county a b =
    ordering_then (int_cmp a.second b.second) (points_cmp (whole_shape county a) (whole_shape county b))

-- in the order of the ranks of the first points, and then as above
abbrev pub placed_cmp : County → PlacedShape → PlacedShape → Ordering
placed_cmp county a b = ordering_then (int_cmp a.first b.first) (beyond_first_cmp county a b)

-- in the same order, and then in the order of the places
abbrev pub placed_key_cmp : County → PlacedShape → PlacedShape → Ordering
placed_key_cmp county a b = ordering_then (placed_cmp county a b) (nat_cmp a.place b.place)
