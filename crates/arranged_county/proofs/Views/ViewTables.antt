-- Nodes, names, polygons and landmarks of a county in an arrangement, read from its tables.
use Rattle.arranged_county.proofs.Common.{AreReadAt, AreWhole, Arrangement, Body5, Body7, County, DirectedChain, Fields8, IsCounty, IsInOrder, IsPermutation, LandmarkTables, List, MatchesLandmarks, MatchesNames, NameTables, Option, PolygonKey, Some, [], ap, ap₂, arith, arranged_by, arrangement_of, arranges, distinct-in_order, eight_land, entry_values, feats, in_order-permutation, in_order-weaker, landmarks_in_order, lands, length, length-map, length-map-range_with_len, link_bounds, link_cmp, link_part, link_part_cmp, links_at, links_up_to, links_with, map, map-map, names_in_order, nat_cmp, nat_keys, nodes_in_order, numbered, on, option_map, polygons_in_order, read_length, read_there, renaming_of, slice_get, slice_get-map, slice_get_within, subst, suc, sym, then-first, under_cenid, unwrap_or, up_to, up_to-strict, zero, ℕ, ◌+◌, ◌-◌, ◌<◌, ◌∙◌, ◌∷◌, ◌≡◌}
use Rattle.county_chart.specs.Renumbering.{carried_landmark, carried_name}
use Rattle.county_chart.specs.CountyRules.{nodes, nodes_along}
use Rattle.canonical_form.proofs.Arrangements.Carrying.{feats_arranged, landmarks_arranged, lands_arranged, names_arranged, names_renamed, node_rights, nodes_renamed, paired_nodes, polygons_renamed}
use Rattle.ordered_lists.proofs.Lists.EntryLists.{in_order-strict}

-- links in order are in the order of their LANDs
pub by_land : (links : List Fields8) → IsInOrder link_cmp links → IsInOrder (on eight_land nat_cmp) links
by_land = in_order-weaker link_cmp (on eight_land nat_cmp) (λ l m. then-first (nat_cmp l.land m.land) (link_part_cmp (link_part l) (link_part m)))

-- an element read at its old place
pub read_at : {X : Type 0} (xs ys : List X) (places : List ℕ) → AreReadAt xs places ys → (i p : ℕ) → Some p ≡ slice_get places i
    → slice_get xs p ≡ slice_get ys i
read_at xs ys places e i p h = let y = read_there (slice_get xs) places ys e i p (sym h) in y.2 ∙ sym y.1

pub read_within : {X : Type 0} (xs ys : List X) (places : List ℕ) → AreReadAt xs places ys → (i p : ℕ) → Some p ≡ slice_get places i → p < length xs
read_within xs ys places e i p h = let y = read_there (slice_get xs) places ys e i p (sym h) in slice_get_within xs p y.0 y.2

-- a place of an element of a list in a list of lists
listed_within : {X : Type 0} (xs : List (List X)) (i k : ℕ) → k < length (unwrap_or (slice_get xs i) []) → i < length xs
listed_within [] i k h = absurd (omega (arith, h))
listed_within (x ∷ xs) zero k h = omega arith
listed_within (x ∷ xs) (suc i) k h = omega (arith, listed_within xs i k h)

-- the value of an entry read at its old place
pub value_at : {K V : Type 0} (xs ys : List (K × V)) (places : List ℕ) → AreReadAt xs places ys → (i p : ℕ) → Some p ≡ slice_get places i
    → slice_get (entry_values xs) p ≡ slice_get (entry_values ys) i
value_at {K} {V} xs ys places e i p h =
    slice_get-map (λ (d : K × V). d.1) xs p ∙ ap (option_map (λ (d : K × V). d.1)) (read_at xs ys places e i p h)
    ∙ sym (slice_get-map (λ (d : K × V). d.1) ys i)

module _ (county : County) (arrangement : List DirectedChain) (is : IsCounty county) (whole : AreWhole county arrangement) where
  abbrev order : Arrangement
  order = arrangement_of county arrangement

  pub nodes_arranged_by : (ns : List ℕ) → ns ≡ nodes_in_order county order → nodes (arranged_by county arrangement) ≡ up_to (length ns)
  nodes_arranged_by ns e =
      let n : ℕ = length (nodes_in_order county order) in
      let permuted : IsPermutation (up_to n) (nodes (arranged_by county arrangement)) =
      subst (λ ks. IsPermutation ks (nodes (arranged_by county arrangement)))
      (node_rights county order is (arranges county arrangement is whole)) (paired_nodes county order is
      (arranges county arrangement is whole)).right in
      sym (in_order-permutation nat_keys (up_to n) (nodes (arranged_by county arrangement)) (in_order-strict nat_cmp (up_to n) (up_to-strict n))
      (distinct-in_order nat_keys (nodes_along (arranged_by county arrangement).chains)) permuted) ∙ ap (λ ks. up_to (length ks)) (sym e)

  -- the tables have the renaming's pairs of numbers
  pub nodes_paired : (ns : List ℕ) → ns ≡ nodes_in_order county order → numbered ns ≡ (renaming_of county order).nodes
  nodes_paired ns e = ap numbered e ∙ sym (nodes_renamed county order is (arranges county arrangement is whole))

  pub keys_paired : (ks : List PolygonKey) → ks ≡ polygons_in_order county order
      → map under_cenid (numbered ks) ≡ (renaming_of county order).polygons
  keys_paired ks e = ap (λ js. map under_cenid (numbered js)) e ∙ sym (polygons_renamed county order is (arranges county arrangement is whole))

  module _ (tables : NameTables) (stated : MatchesNames county arrangement tables) where
    pub feats_paired : numbered tables.feats ≡ (renaming_of county order).names
    feats_paired = ap numbered stated.feats ∙ sym (names_renamed county order is (arranges county arrangement is whole))

    name_values : entry_values (arranged_by county arrangement).names ≡ entry_values (names_in_order county order)
    name_values = ap entry_values (names_arranged county order is (arranges county arrangement is whole))
        ∙ map-map (λ (d : ℕ × Body5). d.1) (carried_name (renaming_of county order)) (names_in_order county order)

    count : length tables.feats ≡ length (names_in_order county order)
    count = ap length stated.feats ∙ length-map (names_in_order county order) (λ (d : ℕ × Body5). d.0)

    pub feats_arranged_by : feats (arranged_by county arrangement) ≡ up_to (length tables.feats)
    feats_arranged_by = feats_arranged county order is (arranges county arrangement is whole) ∙ ap up_to (sym count)

    pub names_arranged_by : length (arranged_by county arrangement).names ≡ length tables.feats
    names_arranged_by = ap length (names_arranged county order is (arranges county arrangement is whole))
        ∙ length-map (names_in_order county order) (carried_name (renaming_of county order)) ∙ sym count

    pub name_there : (i p : ℕ) → Some p ≡ slice_get tables.places.items i
        → slice_get (entry_values county.names) p ≡ slice_get (entry_values (arranged_by county arrangement).names) i
    name_there i p h = value_at county.names (names_in_order county order) tables.places.items stated.names i p h
        ∙ ap (λ vs. slice_get vs i) (sym name_values)

    pub name_within : (i p : ℕ) → Some p ≡ slice_get tables.places.items i → p < length county.names
    name_within = read_within county.names (names_in_order county order) tables.places.items stated.names

    pub names_read : length (arranged_by county arrangement).names ≡ length tables.places.items
    names_read = names_arranged_by ∙ count ∙ read_length (slice_get county.names) tables.places.items (names_in_order county order) stated.names

  module _ (tables : LandmarkTables) (stated : MatchesLandmarks county arrangement tables) where
    landmark_values : entry_values (arranged_by county arrangement).landmarks ≡ entry_values (landmarks_in_order county order)
    landmark_values = ap entry_values (landmarks_arranged county order is (arranges county arrangement is whole))
        ∙ map-map (λ (d : ℕ × List Body7). d.1) (carried_landmark (renaming_of county order)) (landmarks_in_order county order)

    lands_count : length tables.places.items ≡ length (landmarks_in_order county order)
    lands_count = sym (read_length (slice_get county.landmarks) tables.places.items (landmarks_in_order county order) stated.landmarks)

    pub lands_arranged_by : lands (arranged_by county arrangement) ≡ up_to (length tables.places.items)
    lands_arranged_by = lands_arranged county order is (arranges county arrangement is whole) ∙ ap up_to (sym lands_count)

    pub landmarks_arranged_by : length (arranged_by county arrangement).landmarks ≡ length tables.places.items
    landmarks_arranged_by = ap length (landmarks_arranged county order is (arranges county arrangement is whole))
        ∙ length-map (landmarks_in_order county order) (carried_landmark (renaming_of county order)) ∙ sym lands_count

    pub landmark_there : (i p : ℕ) → Some p ≡ slice_get tables.places.items i
        → unwrap_or (slice_get (entry_values county.landmarks) p) [] ≡ unwrap_or (slice_get (entry_values
        (arranged_by county arrangement).landmarks) i) []
    landmark_there i p h = ap (λ (o : Option (List Body7)). unwrap_or o [])
        (value_at county.landmarks (landmarks_in_order county order) tables.places.items stated.landmarks i p h
        ∙ ap (λ vs. slice_get vs i) (sym landmark_values))

    pub landmark_place_within : (i p : ℕ) → Some p ≡ slice_get tables.places.items i → p < length county.landmarks
    landmark_place_within = read_within county.landmarks (landmarks_in_order county order) tables.places.items stated.landmarks

    pub landmark_within : (i k : ℕ) → k < length (unwrap_or (slice_get (entry_values (arranged_by county arrangement).landmarks) i) [])
        → i < length tables.places.items
    landmark_within i k h = omega (
      arith,
      listed_within (entry_values (arranged_by county arrangement).landmarks) i k h,
      length-map (arranged_by county arrangement).landmarks (λ (d : ℕ × List Body7). d.1),
      landmarks_arranged_by,
    )

    -- the links are between their bounds
    pub bounds_counted : length tables.bounds.items ≡ suc (length tables.places.items)
    bounds_counted = ap length stated.bounds
        ∙ length-map-range_with_len (links_up_to (arranged_by county arrangement).links) 0 (length tables.places.items + 1)
        ∙ (let t : length tables.places.items + 1 ≡ suc (length tables.places.items) = omega arith in t)

    fewer : length tables.bounds.items - 1 ≡ length tables.places.items
    fewer = omega (arith, bounds_counted)

    pub bounds_stated : (links : List Fields8) (bounds : List ℕ) → links ≡ tables.links.items → bounds ≡ tables.bounds.items
        → bounds ≡ link_bounds links (length bounds - 1)
    bounds_stated links bounds e f =
        f ∙ stated.bounds
        ∙ ap₂ (λ ls n. link_bounds ls n) (sym (e ∙ stated.links)) (sym (ap (λ bs. length bs - 1) f ∙ fewer))

    pub links_stated : (links : List Fields8) (bounds : List ℕ) → links ≡ tables.links.items → bounds ≡ tables.bounds.items → (i : ℕ)
        → links_with links (slice_get (up_to (length bounds - 1)) i) ≡ links_at (arranged_by county arrangement) i
    links_stated links bounds e f i =
        ap₂ (λ ls n. links_with ls (slice_get (up_to n) i)) (e ∙ stated.links) (ap (λ bs. length bs - 1) f ∙ fewer)
        ∙ ap (λ ls. links_with (arranged_by county arrangement).links (slice_get ls i)) (sym lands_arranged_by)

    pub links_ordered : (links : List Fields8) → links ≡ tables.links.items → IsInOrder (on eight_land nat_cmp) links
    links_ordered links e =
        subst (IsInOrder (on eight_land nat_cmp)) (sym (e ∙ stated.links)) (by_land
        (arranged_by county arrangement).links whole.is_county.ascending.links)
