-- Renamings of a county's numbers, and the county that each carries a county onto.
use Rattle.std.specs.Prelude.{Bool, IsPermutation, IsTrue, List, None, Option, Some, [], cond, false, filter, map, not, option_map, ℕ, ◌≡◌}
use Rattle.std.specs.List.{AllByRecursion}
use Rattle.std.specs.Ordering.{nat_cmp}
use Rattle.tl_layout.specs.Fields.{Fields8}
use Rattle.tl_layout.specs.PolygonSide.{PolygonSide}
use Rattle.tl_layout.specs.declared.type5.Body5.{Body5}
use Rattle.tl_layout.specs.declared.type7.Body7.{Body7}
use Rattle.tl_layout.specs.declared.type_p.BodyP.{BodyP}
use Rattle.tl_shape.specs.Chain.{Chain}
use Rattle.tl_shape.specs.Turned.{turned_if}
use Rattle.county_chart.specs.CountyRules.{feats, lands, nodes, polygon_keys, tlids}
use Rattle.county_chart.specs.County.{County, link_key}
use Rattle.county_chart.specs.PolygonKeys.{PolygonKey, key_cmp}
use Rattle.ordered_lists.specs.Orders.{contains, has_repeat}
use Rattle.ordered_lists.specs.Pairs.{ArePaired, composed, image, is_named, swapped, to_itself}

-- Each old number with its new one, kind by kind, and the old TLIDs of the chains that are turned.
pub record Renumbering : Type 0 where
  pub chains : List (ℕ × ℕ)
  pub names : List (ℕ × ℕ)
  pub polygons : List (PolygonKey × PolygonKey)
  pub lands : List (ℕ × ℕ)
  pub nodes : List (ℕ × ℕ)
  pub turned : List ℕ

-- whether the renaming turns the chain of this old TLID
abbrev pub turns : Renumbering → ℕ → Bool
turns r tlid = contains nat_cmp tlid r.turned

-- a side with a polygon
abbrev pub side_of : PolygonKey → PolygonSide
side_of key = record { cenid = key.0; polyid = Some key.1 }

-- the side with its polygon renamed; a side without a polygon stays as it is
abbrev pub renumbered_polygon : Renumbering → List ℕ → Option ℕ → PolygonSide
renumbered_polygon r cenid None = record { cenid = cenid; polyid = None }
renumbered_polygon r cenid (Some polyid) = side_of (image key_cmp r.polygons (cenid, polyid))

abbrev pub renumbered_side : Renumbering → PolygonSide → PolygonSide
renumbered_side r side = renumbered_polygon r side.cenid side.polyid

-- the chain with its names, nodes and polygons renamed
abbrev pub renumbered : Renumbering → Chain → Chain
renumbered r c = record c {
  feats = map (image nat_cmp r.names) c.feats;
  start_node = option_map (image nat_cmp r.nodes) c.start_node;
  end_node = option_map (image nat_cmp r.nodes) c.end_node;
  left = renumbered_side r c.left;
  right = renumbered_side r c.right;
}

-- each part of a county, renamed
abbrev pub carried_chain : Renumbering → ℕ × Chain → ℕ × Chain
carried_chain r entry = (image nat_cmp r.chains entry.0, renumbered r (turned_if (turns r entry.0) entry.1))

abbrev pub carried_name : Renumbering → ℕ × Body5 → ℕ × Body5
carried_name r entry = (image nat_cmp r.names entry.0, entry.1)

abbrev pub carried_polygon : Renumbering → PolygonKey × Option BodyP → PolygonKey × Option BodyP
carried_polygon r entry = (image key_cmp r.polygons entry.0, entry.1)

abbrev pub carried_landmark : Renumbering → ℕ × List Body7 → ℕ × List Body7
carried_landmark r entry = (image nat_cmp r.lands entry.0, entry.1)

abbrev pub carried_link : Renumbering → Fields8 → Fields8
carried_link r link = record link {
  cenid = (image key_cmp r.polygons (link_key link)).0;
  polyid = (image key_cmp r.polygons (link_key link)).1;
  land = image nat_cmp r.lands link.land;
}

-- each number of one county is paired with its number in the other; a polygon keeps its CENID; each turned TLID is listed once
pub record NumbersArePaired (r : Renumbering) (a b : County) : Type 0 where
  pub chains : ArePaired r.chains (tlids a) (tlids b)
  pub names : ArePaired r.names (feats a) (feats b)
  pub polygons : ArePaired r.polygons (polygon_keys a) (polygon_keys b)
  pub lands : ArePaired r.lands (lands a) (lands b)
  pub nodes : ArePaired r.nodes (nodes a) (nodes b)
  pub cenids : AllByRecursion (λ pair. pair.0.0 ≡ pair.1.0) r.polygons
  pub turned_known : AllByRecursion (λ tlid. IsTrue (contains nat_cmp tlid (tlids a))) r.turned
  pub turned_once : has_repeat nat_cmp r.turned ≡ false

-- each part of a, renamed, is a part of b, and b has no others
pub record Carries (r : Renumbering) (a b : County) : Type 0 where
  pub numbers : NumbersArePaired r a b
  pub chains : IsPermutation (map (carried_chain r) a.chains) b.chains
  pub names : IsPermutation (map (carried_name r) a.names) b.names
  pub polygons : IsPermutation (map (carried_polygon r) a.polygons) b.polygons
  pub landmarks : IsPermutation (map (carried_landmark r) a.landmarks) b.landmarks
  pub links : IsPermutation (map (carried_link r) a.links) b.links

-- the same map: some renaming takes a to b
pub record AreSame (a b : County) : Type 0 where
  pub by : Renumbering
  pub carries : Carries by a b

abbrev pub identity : County → Renumbering
identity a = record {
  chains = to_itself (tlids a);
  names = to_itself (feats a);
  polygons = to_itself (polygon_keys a);
  lands = to_itself (lands a);
  nodes = to_itself (nodes a);
  turned = [];
}

-- back from the new numbers to the old ones; it turns the images of the chains that were turned, and leaves out a turned TLID
-- without an image
abbrev pub inverse : Renumbering → Renumbering
inverse r = record {
  chains = swapped r.chains;
  names = swapped r.names;
  polygons = swapped r.polygons;
  lands = swapped r.lands;
  nodes = swapped r.nodes;
  turned = map (image nat_cmp r.chains) (filter (is_named nat_cmp r.chains) r.turned);
}

-- one of the two, and not both
abbrev pub exactly_one : Bool → Bool → Bool
exactly_one a b = cond a (not b) b

-- first one renaming and then the next; a chain is turned if exactly one of them turns it
abbrev pub then : Renumbering → Renumbering → Renumbering
then r next = record {
  chains = composed nat_cmp r.chains next.chains;
  names = composed nat_cmp r.names next.names;
  polygons = composed key_cmp r.polygons next.polygons;
  lands = composed nat_cmp r.lands next.lands;
  nodes = composed nat_cmp r.nodes next.nodes;
  turned = filter (λ tlid. exactly_one (turns r tlid) (turns next (image nat_cmp r.chains tlid)))
      (map (λ pair. pair.0) (composed nat_cmp r.chains next.chains));
}
