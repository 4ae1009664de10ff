-- The links of landmarks with new numbers, and the order of landmarks.
use Rattle.std.specs.Prelude.{IsPermutation, List, [], filter_map, map, slice_get, ℕ, ◌++◌, ◌+◌, ◌∷◌, ◌≡◌}
use Rattle.std.specs.Cmp.Lexicographic.{slice_cmp}
use Rattle.std.specs.Ordering.{nat_cmp, ordering_then}
use Rattle.std.specs.declared.cmp.Ordering.{Ordering}
use Rattle.tl_layout.specs.Fields.{Fields8}
use Rattle.county_chart.specs.BodyOrder.{link_cmp, link_part, link_part_cmp}
use Rattle.county_chart.specs.ChartWords.{links_with}
use Rattle.county_chart.specs.County.{County, link_key}
use Rattle.county_chart.specs.CountyRules.{lands}
use Rattle.county_chart.specs.PolygonKeys.{PolygonKey, key_cmp}
use Rattle.ordered_lists.specs.Orders.{IsInOrder, in_order}
use Rattle.ordered_lists.specs.Pairs.{image}
use Rattle.canonical_form.specs.Arrangement.{under_cenid}
use Rattle.canonical_form.specs.Growth.{numbered, up_to}
use Rattle.arranged_county.specs.ContentItems.{classed_place, landmark_bodies_cmp}

-- a link with its polygon numbered by its position in this list, from 1, and with this LAND
abbrev pub link_in : List PolygonKey → ℕ → Fields8 → Fields8
link_in polygons land link = record {
  file = link.file;
  cenid = (image key_cmp (map under_cenid (numbered polygons)) (link_key link)).0;
  polyid = (image key_cmp (map under_cenid (numbered polygons)) (link_key link)).1;
  land = land;
}

-- and with its landmark numbered by its position in another list
abbrev pub link_under : List PolygonKey → List ℕ → Fields8 → Fields8
link_under polygons lands link = link_in polygons (image nat_cmp (numbered lands) link.land) link

-- a link with another LAND
abbrev pub with_land : ℕ → Fields8 → Fields8
with_land land link = record { file = link.file; cenid = link.cenid; polyid = link.polyid; land = land }

-- the LANDs of the landmarks at these places
abbrev pub lands_at : County → List ℕ → List ℕ
lands_at county places = filter_map (slice_get (lands county)) places

-- the links with their polygons and landmarks numbered by their positions in these lists, in order
abbrev pub numbered_links : County → List PolygonKey → List ℕ → List Fields8
numbered_links county polygons numbers = in_order link_cmp (map (link_under polygons numbers) county.links)

-- the links of the landmark at a place, for LANDs counted from 1
abbrev pub own_links : List Fields8 → ℕ → ℕ → List Fields8
own_links links count place = links_with links (slice_get (up_to count) place)

-- the links of the landmarks at these places, with LANDs counted from a number
abbrev pub links_from : List Fields8 → ℕ → ℕ → List ℕ → List Fields8
links_from links count land [] = []
links_from links count land (place ∷ places) = map (with_land land) (own_links links count place) ++ links_from links count (land + 1) places

-- in the order of the bodies, the links, the places
abbrev pub landmark_place_cmp : County → List Fields8 → ℕ → ℕ → ℕ → Ordering
landmark_place_cmp county links count a b =
    ordering_then (landmark_bodies_cmp county a b)
    (ordering_then (slice_cmp link_part_cmp (map link_part (own_links links count a)) (map link_part (own_links links count b)))
    (nat_cmp a b))

-- in the order of the classes, the links, the places
abbrev pub classed_landmark_cmp : List Fields8 → ℕ → ℕ × ℕ → ℕ × ℕ → Ordering
classed_landmark_cmp links count a b =
    ordering_then (nat_cmp a.0 b.0)
    (ordering_then (slice_cmp link_part_cmp (map link_part (own_links links count a.1)) (map link_part (own_links links count b.1)))
    (nat_cmp a.1 b.1))

-- these are the places of landmarks in that order
pub record AreSortedLandmarks (links : List Fields8) (count : ℕ) (classed : List (ℕ × ℕ)) (places : List ℕ) : Type 0 where
  pub items : List (ℕ × ℕ)
  pub all : IsPermutation classed items
  pub in_order : IsInOrder (classed_landmark_cmp links count) items
  pub places_of : places ≡ map classed_place items
