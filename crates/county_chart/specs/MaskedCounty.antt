-- A county under a mask: the map without the fields that the mask leaves out.
use Rattle.std.specs.Prelude.{List, cond, map}
use Rattle.tl_layout.specs.Masked.{masked_body_1, masked_body_7, masked_body_i}
use Rattle.tl_layout.specs.declared.mask.Mask.{Mask}
use Rattle.tl_layout.specs.declared.type7.Body7.{Body7}
use Rattle.tl_shape.specs.Chain.{Chain}
use Rattle.county_chart.specs.BodyOrder.{landmark_body_cmp}
use Rattle.county_chart.specs.County.{County}
use Rattle.ordered_lists.specs.Entries.{map_values}
use Rattle.ordered_lists.specs.Orders.{in_order}

-- the chain with the contents of its records of types 1 and I under the mask
abbrev pub masked_chain : Mask → Chain → Chain
masked_chain mask c = record {
  body = masked_body_1 mask c.body;
  points = c.points;
  feats = c.feats;
  ranges = c.ranges;
  topology = masked_body_i mask c.topology;
  start_node = c.start_node;
  end_node = c.end_node;
  left = c.left;
  right = c.right;
}

-- a landmark's contents under the mask; SOURCE is one of the fields that they are sorted by, so if it is left out they are sorted again
abbrev pub masked_bodies : Mask → List Body7 → List Body7
masked_bodies mask bodies = cond mask.sources (in_order landmark_body_cmp (map (masked_body_7 mask) bodies)) bodies

-- the county with its chains and its landmarks' contents under the mask; names, polygons and links have no field that a mask leaves out
abbrev pub masked : Mask → County → County
masked mask county = record {
  chains = map_values (masked_chain mask) county.chains;
  names = county.names;
  polygons = county.polygons;
  landmarks = map_values (masked_bodies mask) county.landmarks;
  links = county.links;
}
