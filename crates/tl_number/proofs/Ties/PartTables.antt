-- The tables of a part of a county hold its keys, and the places of its entries in the county.
use Rattle.tl_number.proofs.Common.{ArePartKeys, AreReadAt, Body7, Bool, Chain, County, DirectedChain, Fields8, HoldsPart, IfSome, IsKeyOrder, List, None, Option, Ordering, PartTables, PolygonKey, Some, [], all_among, all_everywhere, all_map, among-get, ap, append-nil, ap₂, arith, at_places, bodies_at, chain_feats, chain_nodes, chain_polygons, contains, contains_alike, distinct, distinct-in_order, distinct_same, entry_keys, eqb-true, false, feats, feats_along, filter, first_seen, flat_map, from_first_seen, get_or, grouped, grouped_map, in_order-strict, key_cmp, key_keys, keys_along, lands, length, length-map, links_at, links_with, list_any, map, map-map, nat_cmp, nat_keys, nodes_along, option_map, option_to_list, part_with, places_among, polygon_keys, polygons_along, range_with_len, refl, same_Some, slice_get, slice_get-get_or, slice_get-map, slice_get_within, subst, sym, tlids, to_first_seen, true, turned_if, unwrap_or, ℕ, ◌<◌, ◌==◌, ◌||◌, ◌∙◌, ◌∷◌, ◌≡◌}
use Rattle.arranged_county.proofs.Names.NameOrder.{filter_map_all}
use Rattle.arranged_county.proofs.Views.ViewTables.{read_at}
use Rattle.tl_number.proofs.Ties.CountyParts.{all_pass}
use Rattle.tl_number.proofs.Ties.PartChoices.{filter_narrower}
use Rattle.tl_number.proofs.Ties.Places.{marked_read}
use Rattle.county_chart.specs.ChartWords.{feats_of}
use Rattle.ordered_lists.specs.Entries.{entry_values}
use Rattle.tl_number.proofs.Ties.Narrowed.{keys_narrow, tlids_narrow}
use Rattle.tl_number.specs.CountyParts.{narrowed, part_of}

-- entries with used keys, if the same keys are wanted
module _ {K V : Type 0} (cmp : K → K → Ordering) (wanted used : List K) (same : (k : K) → contains cmp k wanted ≡ contains cmp k used)
    (es : List (K × V)) where
  -- are read at the places,
  pub part_read : AreReadAt es (places_among cmp wanted (entry_keys es)) (filter (λ e. contains cmp e.0 used) es)
  part_read = ap (λ n. map (slice_get es) (filter test (range_with_len 0 n))) (length-map es (λ (e : K × V). e.0))
      ∙ marked_read (λ (e : K × V). contains cmp e.0 used) test es (λ place e there.
      sym (ap (λ o. list_any (λ k. contains cmp k wanted) (option_to_list o))
      (slice_get-map (λ (e : K × V). e.0) es place ∙ ap (option_map (λ (e : K × V). e.0)) there)
      ∙ ap (λ b. b || false) (same e.0) ∙ alone (contains cmp e.0 used)))
    where
      test : ℕ → Bool
      test place = list_any (λ k. contains cmp k wanted) (option_to_list (slice_get (entry_keys es) place))

      alone : (b : Bool) → (b || false) ≡ b
      alone true = refl
      alone false = refl

  -- and so are their keys
  pub part_keys : at_places (entry_keys es) (places_among cmp wanted (entry_keys es)) ≡ entry_keys (filter (λ e. contains cmp e.0 used) es)
  part_keys =
      let key : K × V → K = λ e. e.0 in
      let places : List ℕ = places_among cmp wanted (entry_keys es) in
      let in_part : List (K × V) = filter (λ e. contains cmp e.0 used) es in
      filter_map_all (slice_get (entry_keys es)) places (entry_keys in_part)
      ((λ i. map (λ p. slice_get-map key es p i) places)
      ∙ sym (map-map (option_map key) (slice_get es) places)
      ∙ ap (map (option_map key)) part_read
      ∙ map-map (option_map key) Some in_part
      ∙ sym (map-map Some key in_part))

-- the keys that are seen are the keys of the list
pub seen_known : {K : Type 0} {cmp : K → K → Ordering} (o : IsKeyOrder cmp) (keys : List K) (key : K)
    → contains cmp key (first_seen cmp keys) ≡ contains cmp key keys
seen_known {cmp = cmp} o keys key = contains_alike o (first_seen cmp keys) keys key (from_first_seen o keys key) (to_first_seen o keys key)

-- the keys of chains at places
module _ {K : Type 0} (keys : Chain → List K) (county : County) where
  -- chain by chain,
  along_lists : (places : List ℕ) (in_part : List (ℕ × Chain)) → AreReadAt county.chains places in_part
      → keys_along keys county (map (λ place. record { place = place; turned = false }) places) ≡ map (λ entry. keys entry.1) in_part
  along_lists [] [] e = refl
  along_lists [] (entry ∷ in_part) e = cc
  along_lists (p ∷ ps) [] e = cc
  along_lists (p ∷ ps) (entry ∷ in_part) e =
      let here : slice_get county.chains p ≡ Some entry = cc in
      let rest : AreReadAt county.chains ps in_part = cc in
      ap₂ (λ xs ys. xs ∷ ys)
      (ap (λ o. flat_map keys (option_to_list (option_map (turned_if false) o))) (slice_get-map (λ (e : ℕ × Chain). e.1) county.chains p
      ∙ ap (option_map (λ (e : ℕ × Chain). e.1)) here) ∙ append-nil (keys entry.1))
      (along_lists ps in_part rest)

  -- and together
  along_read : (places : List ℕ) (in_part : List (ℕ × Chain)) → AreReadAt county.chains places in_part
      → grouped (keys_along keys county (map (λ place. record { place = place; turned = false }) places)) ≡ flat_map (λ entry. keys entry.1) in_part
  along_read places in_part e = ap grouped (along_lists places in_part e) ∙ grouped_map (λ (entry : ℕ × Chain). keys entry.1) in_part

-- The tables of some chains, their nodes, names and polygons hold a part of the county.
module _ (county : County) (tables : PartTables) (chains : List DirectedChain) where
  abbrev keeps_name : ℕ → Bool
  keeps_name feat = contains nat_cmp feat tables.kept.names

  abbrev narrow : County
  narrow = narrowed keeps_name county

  pub tables_hold : ArePartKeys nat_cmp (first_seen nat_cmp tables.kept.tlids.items) (tlids county) tables.chains
      → chains ≡ map (λ place. record { place = place; turned = false }) tables.chains.places.items
      → tables.nodes.items ≡ distinct nat_cmp (first_seen nat_cmp (grouped (keys_along chain_nodes county chains)))
      → ArePartKeys nat_cmp (first_seen nat_cmp (grouped (keys_along chain_feats narrow chains))) (feats county) tables.names
      → map (λ own. own.items) tables.feats.items ≡ keys_along chain_feats narrow chains
      → ArePartKeys key_cmp (first_seen key_cmp (grouped (keys_along chain_polygons county chains))) (polygon_keys county) tables.polygons
      → ArePartKeys nat_cmp (first_seen nat_cmp tables.kept.lands.items) (lands county) tables.landmarks
      → HoldsPart county tables
  unfolding part_of
  tables_hold in_part there nodes names named polygons landmarks =
      let used : List ℕ = tables.kept.tlids.items in
      let used_lands : List ℕ = tables.kept.lands.items in
      let same_lands = λ (k : ℕ). seen_known nat_keys used_lands k in
      let kept : List (ℕ × Chain) = filter (λ entry. contains nat_cmp entry.0 used) narrow.chains in
      let own : ArePartKeys nat_cmp (first_seen nat_cmp used) (tlids narrow) tables.chains =
      subst (λ ts. ArePartKeys nat_cmp (first_seen nat_cmp used) ts tables.chains) (sym (tlids_narrow keeps_name county)) in_part in
      let read : AreReadAt narrow.chains tables.chains.places.items kept =
      subst (λ places. AreReadAt narrow.chains places kept) (sym own.places)
      (part_read nat_cmp (first_seen nat_cmp used) used (seen_known nat_keys used) narrow.chains) in
      let along_nodes = ap grouped (sym (keys_narrow keeps_name county chain_nodes (λ chain. refl) chains) ∙ ap (keys_along chain_nodes narrow) there)
      ∙ along_read chain_nodes narrow tables.chains.places.items kept read in
      let along_feats = ap (λ ds. grouped (keys_along chain_feats narrow ds)) there ∙ along_read chain_feats narrow tables.chains.places.items kept read in
      let along_sides = ap grouped (sym (keys_narrow keeps_name county chain_polygons (λ chain. refl) chains) ∙ ap (keys_along chain_polygons narrow) there)
      ∙ along_read chain_polygons narrow tables.chains.places.items kept read in
      let same_feats = λ (k : ℕ). seen_known nat_keys (grouped (keys_along chain_feats narrow chains)) k ∙ ap (contains nat_cmp k) along_feats in
      let same_sides = λ (k : PolygonKey). seen_known key_keys (grouped (keys_along chain_polygons county chains)) k ∙ ap (contains key_cmp k) along_sides in
      record {
        tlids = own.keys ∙ part_keys nat_cmp (first_seen nat_cmp used) used (seen_known nat_keys used) narrow.chains;
        chains = read;
        named = named ∙ ap (keys_along chain_feats narrow) there ∙ along_lists chain_feats narrow tables.chains.places.items kept read;
        feats = names.keys ∙ part_keys nat_cmp _ (feats_along kept) same_feats county.names;
        names = subst (λ places. AreReadAt county.names places (filter (λ name. contains nat_cmp name.0 (feats_along kept)) county.names))
            (sym names.places) (part_read nat_cmp _ (feats_along kept) same_feats county.names);
        keys = polygons.keys ∙ part_keys key_cmp _ (polygons_along kept) same_sides county.polygons;
        polygons = subst (λ places. AreReadAt county.polygons places (filter (λ polygon. contains key_cmp polygon.0 (polygons_along kept)) county.polygons))
            (sym polygons.places) (part_read key_cmp _ (polygons_along kept) same_sides county.polygons);
        lands = landmarks.keys ∙ part_keys nat_cmp (first_seen nat_cmp used_lands) used_lands same_lands county.landmarks;
        landmarks = subst (λ places. AreReadAt county.landmarks places (filter (λ landmark. contains nat_cmp landmark.0 used_lands) county.landmarks))
            (sym landmarks.places) (part_read nat_cmp (first_seen nat_cmp used_lands) used_lands same_lands county.landmarks);
        nodes = nodes ∙ distinct_same nat_keys (first_seen nat_cmp (grouped (keys_along chain_nodes county chains))) (nodes_along kept)
            (λ k. seen_known nat_keys (grouped (keys_along chain_nodes county chains)) k ∙ ap (contains nat_cmp k) along_nodes);
      }

-- The names of a chain of a part are those in its list.
pub names_read : {V : Type 0} (names : V → List ℕ) (lists : List V) (entries : List (ℕ × Chain)) → map names lists ≡ map (λ entry. entry.1.feats) entries
    → (place : ℕ) (own : V) → place < length lists → own ≡ get_or lists place own → names own ≡ feats_of (slice_get (entry_values entries) place)
names_read names lists entries same place own within is =
    go (slice_get entries place) (sym (slice_get-map names lists place ∙ ap (option_map names) (slice_get-get_or lists place own within ∙ ap Some (sym is)))
    ∙ ap (λ ks. slice_get ks place) same ∙ slice_get-map (λ (entry : ℕ × Chain). entry.1.feats) entries place)
    ∙ sym (ap feats_of (slice_get-map (λ (entry : ℕ × Chain). entry.1) entries place))
  where
    go : (o : Option (ℕ × Chain)) → Some (names own) ≡ option_map (λ (entry : ℕ × Chain). entry.1.feats) o
        → names own ≡ feats_of (option_map (λ (entry : ℕ × Chain). entry.1) o)
    go None e = cc
    go (Some entry) e = same_Some (names own) entry.1.feats e

-- a chain with a name is there
pub named_there : (entries : List (ℕ × Chain)) (place name : ℕ) → name < length (feats_of (slice_get (entry_values entries) place)) → place < length entries
named_there entries place name = go (slice_get (entry_values entries) place) refl
  where
    go : (o : Option Chain) → slice_get (entry_values entries) place ≡ o → name < length (feats_of o) → place < length entries
    go None e l = absurd (omega (arith, l))
    go (Some chain) e l = omega (arith, slice_get_within (entry_values entries) place chain e, length-map entries (λ (entry : ℕ × Chain). entry.1))

-- A landmark of a part is read at its place in the county, with all its links.
module _ (county : County) (tables : PartTables) (read : AreReadAt county.landmarks tables.landmarks.places.items (part_with county tables).landmarks)
    (place there : ℕ) (is : Some there ≡ slice_get tables.landmarks.places.items place) where
  landmark_read : slice_get county.landmarks there ≡ slice_get (part_with county tables).landmarks place
  landmark_read = read_at county.landmarks (part_with county tables).landmarks tables.landmarks.places.items read place there is

  field_read : {X : Type 0} (f : ℕ × List Body7 → X)
      → slice_get (map f county.landmarks) there ≡ slice_get (map f (part_with county tables).landmarks) place
  field_read f = slice_get-map f county.landmarks there ∙ ap (option_map f) landmark_read
      ∙ sym (slice_get-map f (part_with county tables).landmarks place)

  pub land_read : slice_get (lands county) there ≡ slice_get (lands (part_with county tables)) place
  land_read = field_read (λ entry. entry.0)

  pub bodies_read : bodies_at county there ≡ bodies_at (part_with county tables) place
  bodies_read = ap (λ o. unwrap_or o []) (field_read (λ entry. entry.1))

  pub links_read : links_at county there ≡ links_at (part_with county tables) place
  unfolding part_of
  links_read = ap (links_with county.links) land_read ∙ go (slice_get (lands (part_with county tables)) place) refl
    where
      keeps : ℕ → Bool
      keeps land = contains nat_cmp land tables.kept.lands.items

      part_landmarks : List (ℕ × List Body7)
      part_landmarks = filter (λ (e : ℕ × List Body7). keeps e.0) county.landmarks

      kept : (land : ℕ) → slice_get (lands (part_with county tables)) place ≡ Some land → keeps land ≡ true
      kept land e = all_among (λ k. keeps k ≡ true) land (lands (part_with county tables))
          (all_map (λ k. keeps k ≡ true) (λ (e : ℕ × List Body7). e.0) part_landmarks (all_pass (λ (e : ℕ × List Body7). keeps e.0) county.landmarks))
          (among-get (lands (part_with county tables)) place land e)

      go : (o : Option ℕ) → slice_get (lands (part_with county tables)) place ≡ o
          → links_with county.links o ≡ links_with (filter (λ (link : Fields8). keeps link.land) county.links) o
      go None e = refl
      go (Some land) e = sym (filter_narrower (λ (link : Fields8). keeps link.land) (λ (link : Fields8). link.land == land) county.links
          (all_everywhere (λ (link : Fields8). (link.land == land) ≡ true → keeps link.land ≡ true)
          (λ link f. ap keeps (eqb-true link.land land f) ∙ kept land e) county.links))

-- ---- what the calls of a part need

pub found_too : {K : Type 0} {keys others : List K} (found : Option ℕ) (key : K) → keys ≡ others
    → IfSome found (λ place. slice_get keys place ≡ Some key) → IfSome found (λ place. slice_get others place ≡ Some key)
found_too found key same is = subst (λ ks. IfSome found (λ place. slice_get ks place ≡ Some key)) same is

pub ruleset part_reads = (found_too, in_order-strict, distinct-in_order, nat_keys)
