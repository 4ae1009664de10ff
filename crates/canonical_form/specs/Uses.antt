-- What distinguishes names and landmarks besides their content: where chains use a name, and the polygons of a
-- landmark.
use Rattle.std.specs.Prelude.{List, [], filter, flat_map, map, suc, ℕ, ◌==◌, ◌∷◌}
use Rattle.std.specs.Cmp.Lexicographic.{slice_cmp}
use Rattle.std.specs.Ordering.{nat_cmp, ordering_then}
use Rattle.std.specs.declared.cmp.Ordering.{Ordering}
use Rattle.tl_layout.specs.Fields.{Fields8}
use Rattle.tl_layout.specs.declared.type5.Body5.{Body5}
use Rattle.tl_layout.specs.declared.type7.Body7.{Body7}
use Rattle.county_chart.specs.BodyOrder.{LinkPart, landmark_body_cmp, link_part, link_part_cmp, name_body_cmp}
use Rattle.tl_shape.specs.Chain.{Chain}

-- a use of a name: a TLID, and the place in the chain's list of names, counted from 1
abbrev pub Use : Type 0
Use = ℕ × ℕ

-- in the order of TLIDs, then of places
abbrev pub use_cmp : Use → Use → Ordering
use_cmp u v = ordering_then (nat_cmp u.0 v.0) (nat_cmp u.1 v.1)

-- a chain's names with their uses, from this place
abbrev pub uses_from : ℕ → ℕ → List ℕ → List (Use × ℕ)
uses_from tlid place [] = []
uses_from tlid place (feat ∷ feats) = ((tlid, place), feat) ∷ uses_from tlid (suc place) feats

-- the uses of all names in all chains, in order
abbrev pub all_uses : List (ℕ × Chain) → List (Use × ℕ)
all_uses chains = flat_map (λ entry. uses_from entry.0 1 entry.1.feats) chains

-- the uses of one name, in order
abbrev pub uses_of_name : List (Use × ℕ) → ℕ → List Use
uses_of_name uses feat = map (λ u. u.0) (filter (λ u. u.1 == feat) uses)

-- the sort key of a name: its 43 bytes, then its uses
abbrev pub name_key : List (Use × ℕ) → ℕ × Body5 → Body5 × List Use
name_key uses entry = (entry.1, uses_of_name uses entry.0)

abbrev pub name_key_cmp : Body5 × List Use → Body5 × List Use → Ordering
name_key_cmp k j = ordering_then (name_body_cmp k.0 j.0) (slice_cmp use_cmp k.1 j.1)

-- the links of one landmark without its LAND, in order
abbrev pub links_of : List Fields8 → ℕ → List LinkPart
links_of links land = map link_part (filter (λ link. link.land == land) links)

-- the sort key of a landmark: its bodies, then its polygons
abbrev pub landmark_key : List Fields8 → ℕ × List Body7 → List Body7 × List LinkPart
landmark_key links entry = (entry.1, links_of links entry.0)

abbrev pub landmark_key_cmp : List Body7 × List LinkPart → List Body7 × List LinkPart → Ordering
landmark_key_cmp k j = ordering_then (slice_cmp landmark_body_cmp k.0 j.0) (slice_cmp link_part_cmp k.1 j.1)
