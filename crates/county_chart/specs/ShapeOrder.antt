-- The order of a county's chains by their shapes.
use Rattle.std.specs.Prelude.{IsPermutation, List, length, map, reverse, ℕ, ◌≡◌, ◌≤◌}
use Rattle.std.specs.List.{range_with_len}
use Rattle.std.specs.Ordering.{is_lt, nat_cmp, ordering_then}
use Rattle.std.specs.declared.cmp.Ordering.{Ordering}
use Rattle.tl_layout.specs.Coordinates.{Coordinates}
use Rattle.tl_shape.specs.PointOrder.{points_cmp}
use Rattle.county_chart.specs.Choices.{choices, counted_choices, is_either_way, most_choices, open_places}
use Rattle.county_chart.specs.ChartWords.{points_of}
use Rattle.county_chart.specs.County.{County}
use Rattle.county_chart.specs.DirectedChains.{directed_chain}
use Rattle.county_chart.specs.Shapes.{points_at}
use Rattle.county_chart.specs.declared.directed_chain.DirectedChain.{DirectedChain}
use Rattle.county_chart.specs.declared.open_place.OpenPlace.{OpenPlace}
use Rattle.ordered_lists.specs.Orders.{IsInOrder}

-- the points of a directed chain
abbrev pub points_along : County → DirectedChain → List Coordinates
points_along county directed = points_of (directed_chain county directed)

-- the chain at a place in the direction in which its points are its shape; it is turned if the reverse of the points comes
-- before them
abbrev pub along_shape : County → ℕ → DirectedChain
along_shape county place = record {
  place = place;
  turned = is_lt (points_cmp (reverse (points_at county place)) (points_at county place));
}

-- all chains, each in the direction of its shape, by their places
abbrev pub along_shapes : County → List DirectedChain
along_shapes county = map (along_shape county) (range_with_len 0 (length county.chains))

-- in the order of the points of the directed chains, and then of the places
abbrev pub directed_cmp : County → DirectedChain → DirectedChain → Ordering
directed_cmp county a b = ordering_then (points_cmp (points_along county a) (points_along county b)) (nat_cmp a.place b.place)

-- all chains, each in the direction of its shape, in the order of the shapes and, if these are the same, of the places
pub record AreInShapeOrder (county : County) (by_shape : List DirectedChain) : Type 0 where
  pub all : IsPermutation (along_shapes county) by_shape
  pub in_order : IsInOrder (directed_cmp county) by_shape

-- chains in the directions of their shapes, their open places, and a count of choices
pub record OrderOfShapes : Type 0 where
  pub by_shape : List DirectedChain
  pub places : List OpenPlace
  pub choices : ℕ

-- the chains in the order of their shapes, how many choices these leave, and the places that leave them, provided that the
-- choices are at most as many as are tried
pub record IsShapeOrder (county : County) (order : OrderOfShapes) : Type 0 where
  pub by_shape : AreInShapeOrder county order.by_shape
  pub count : order.choices ≡ counted_choices county
  pub places : choices county ≤ most_choices
      → order.places ≡ open_places points_cmp is_either_way 0 (map (points_along county) order.by_shape)
