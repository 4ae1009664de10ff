-- The small county is a county within limits, and each of its choices has the chains that the county's choice has at kept places.
use Rattle.tl_number.proofs.Common.{AllByRecursion, AllKeysContained, Among, AreWhole, Bool, Chain, County, DirectedChain, Fields8, HasChainsOf, IsApart, IsCounty, IsShapeOrder, IsTrue, IsWithinLimits, Known, LeavesChoices, List, Option, OrderOfShapes, PolygonKey, Some, [], all_among, all_weaker, among-get, among-map, among-pieces, among-turned, among-unmap, among-unpieces, among_known, ap, apart_from_sorted, append-nil, arith, arrangement_apart, arrangement_ascend, arrangement_known, arrangement_of, arrangement_of_number, arrangement_there, ascending, at_places, cases_Bool, chain_nodes, chain_polygons, chains, choices, contains, contains-among, directed_chain, directed_shape, each_from, entries_of, false, filter, flat_map, group_at, has_new_at, inl, inr, is_either_way, is_kept, is_open, kept_lands, kept_tlids, key_cmp, key_keys, keys_along, known-permutation, known_is_among, length, length-map, link_key, lt-ltb, map, map-at_places, map-map, most_choices, most_records, nat_cmp, nat_keys, numbered_arrangement, numbered_choice, numbered_is_choice, one_chain, one_entry, one_here, open_places, option_map, option_to_list, or_left, or_parts, or_right, places_within, points_cmp, points_keys, polygon_keys, polygons-unturned, polygons_along, range_with_len, refl, shapes_arrange, shapes_ascending, shapes_of_order, slice_get, slice_get-get_or, slice_get-map, some_at, subst, sym, times, tlid_at, tlids, to_filter, true, turned_directed, turned_if, unwrap_or, wanted_nodes, wanted_polygons, ℕ, ◌++◌, ◌+◌, ◌<◌, ◌∙◌, ◌∷◌, ◌≡◌, ◌≤◌, ◌⊎◌}
use Rattle.tl_number.proofs.Ties.CountyParts.{all_pass, part_is, part_sides, part_within}
use Rattle.tl_number.proofs.Ties.KeptLandmarks.{link_wanted}
use Rattle.tl_number.proofs.Ties.Keys.{fixed_before}
use Rattle.tl_number.proofs.Ties.ListsAlike.{among_filtered}
use Rattle.tl_number.proofs.Ties.ComparedChoices.{ComparedChoices, base_count, base_stated, base_there, chains_at, link_on_side, places_in, stated}
use Rattle.tl_number.proofs.Ties.PartChoices.{KeepsOpen, ascending_ordered, choice_flags, choice_part, choices_part, entries_part, keeps_open}
use Rattle.tl_number.proofs.Ties.Places.{AreMarked, marked_alike, marked_keys, pieces_places}
use Rattle.tl_number.specs.CountyParts.{part_of}
use Rattle.tl_number.specs.SmallCounty.{kept_places, small_county}

-- an arrangement with a number is the choice with it
choice_is : (county : County) (shapes : OrderOfShapes) → LeavesChoices county shapes → IsCounty county → (n : ℕ)
    → arrangement_of county (numbered_arrangement shapes n) ≡ numbered_choice county n
choice_is county shapes known is n = arrangement_of_number county is shapes.by_shape known.order.by_shape shapes.places
    (known.order.places known.few) (numbered_arrangement shapes n) n refl

module _ (c : ComparedChoices) where
  abbrev county : County
  county = c.county

  abbrev is : IsCounty county
  is = c.is

  -- the chains in the order of shapes, and in the base arrangement
  abbrev by_shape : List DirectedChain
  by_shape = c.shapes.by_shape

  abbrev standing : List DirectedChain
  standing = c.still.by_shape

  abbrev small : County
  small = small_county county c.shapes c.still

  abbrev tlid_of : DirectedChain → ℕ
  tlid_of directed = tlid_at county directed.place

  -- whether a TLID is kept, and a chain in a direction
  abbrev pub keeps : ℕ → Bool
  keeps tlid = contains nat_cmp tlid (kept_tlids county c.shapes c.still)

  abbrev kept : ℕ → Bool
  kept = is_kept county c.shapes c.still

  abbrev keeps_directed : ℕ × Bool → Bool
  keeps_directed directed = keeps directed.0

  abbrev kept_chains : List (ℕ × Chain)
  kept_chains = filter (λ entry. keeps entry.0) county.chains

  chains_are : small.chains ≡ kept_chains
  unfolding small_county part_of
  chains_are = refl

  -- The chains in the order of shapes are the ascending arrangement,
  ascend : arrangement_of county by_shape ≡ ascending county
  ascend = arrangement_ascend county by_shape c.known.order.by_shape by_shape refl

  chains_there : HasChainsOf county by_shape
  chains_there = arrangement_there county by_shape c.known.order.by_shape by_shape refl

  ascending_by_shape : {X : Type 0} (f : ℕ × Bool → X) → map f (ascending county) ≡ map (λ directed. f (tlid_of directed, directed.turned)) by_shape
  ascending_by_shape f = ap (map f) (sym ascend) ∙ map-map f (λ (directed : DirectedChain). (tlid_of directed, directed.turned)) by_shape

  -- and their TLIDs are kept where their places are.
  tlids_marked : AreMarked (λ directed. keeps (tlid_of directed)) kept by_shape
  tlids_marked place directed there =
      ap (contains nat_cmp (tlid_of directed)) (map-at_places tlid_of by_shape (kept_places county c.shapes c.still)
      ∙ ap (λ n. at_places (map tlid_of by_shape) (filter kept (range_with_len 0 n))) (sym (length-map by_shape tlid_of)))
      ∙ marked_keys nat_keys kept (map tlid_of by_shape)
      (subst (IsApart nat_cmp) (ascending_by_shape (λ d. d.0)) (arrangement_apart county (ascending county) is (shapes_arrange county is)))
      place (tlid_of directed) (slice_get-map tlid_of by_shape place ∙ ap (option_map tlid_of) there)

  -- So all that choices move or turn is kept.
  opened : KeepsOpen points_keys is_either_way (directed_shape county) turned_directed keeps_directed (λ d. refl) (ascending county)
  opened = keeps_open points_keys is_either_way (directed_shape county) turned_directed keeps_directed (λ d. refl)
      kept 0 (ascending county) (ascending_ordered county is)
      (λ p d e. marked_alike keeps_directed (λ directed. keeps (tlid_of directed)) kept (ascending county) by_shape
      (ascending_by_shape keeps_directed) tlids_marked p d e ∙ ap kept (let t : p ≡ 0 + p = omega arith in t))
      (λ p e. or_left (is_open c.shapes.places p) _ (ap (λ places. is_open places p) places_are ∙ e))
    where
      places_are : c.shapes.places ≡ open_places points_cmp is_either_way 0 (map (directed_shape county) (ascending county))
      places_are = c.known.order.places c.known.few
          ∙ ap (open_places points_cmp is_either_way 0) (shapes_of_order county by_shape c.known.order.by_shape ∙ sym (shapes_ascending county is))

  -- A choice keeps chains at the same places, and so does the base arrangement.
  standing_by_choice : {X : Type 0} (f : ℕ × Bool → X)
      → map f (numbered_choice county c.base) ≡ map (λ directed. f (tlid_of directed, directed.turned)) standing
  standing_by_choice f = ap (map f) (sym (base_stated c)) ∙ map-map f (λ (directed : DirectedChain). (tlid_of directed, directed.turned)) standing

  flags : (n : ℕ) → map keeps_directed (numbered_choice county n) ≡ map (λ directed. keeps (tlid_of directed)) by_shape
  flags n = choice_flags county small keeps chains_are opened is n ∙ ascending_by_shape keeps_directed

  standing_marked : AreMarked (λ directed. keeps (tlid_of directed)) kept standing
  standing_marked = marked_alike (λ directed. keeps (tlid_of directed)) (λ directed. keeps (tlid_of directed)) kept standing by_shape
      (sym (standing_by_choice keeps_directed) ∙ flags c.base) tlids_marked

  -- The directed chain at a place of this arrangement, and its entry.
  record IsEntryAt (place : ℕ) (directed : DirectedChain) (entry : ℕ × Chain) : Type 0 where
    there : slice_get standing place ≡ Some directed
    found : slice_get county.chains directed.place ≡ Some entry
    tlid : tlid_of directed ≡ entry.0

  entry_at : (place : ℕ) (directed : DirectedChain) → slice_get standing place ≡ Some directed → (entry : ℕ × Chain) × IsEntryAt place directed entry
  entry_at place directed there =
      let here = one_here county is directed.place
      (all_among (λ d. d.place < length county.chains) directed standing (base_there c) (among-get standing place directed there)) in
      (here.0, record { there = there; found = here.1; tlid = here.3 })

  -- each chain has a place
  place_of : (entry : ℕ × Chain) → Among entry county.chains
      → (place : ℕ) × (place < length standing) × ((directed : DirectedChain) × IsEntryAt place directed entry)
  place_of entry m =
      let tlid : Known nat_cmp (map (λ (d : ℕ × Bool). d.0) (numbered_choice county c.base)) entry.0 =
      known-permutation nat_keys entry.0 (map (λ (d : ℕ × Bool). d.0) (numbered_choice county c.base)) (tlids county)
      (numbered_is_choice county is c.base).arranges
      (among_known nat_keys entry.0 (tlids county) (among-map (λ (e : ℕ × Chain). e.0) entry county.chains m)) in
      let directed = among-unmap tlid_of entry.0 standing
      (known_is_among nat_keys entry.0 (map tlid_of standing) (subst (λ ts. Known nat_cmp ts entry.0) (standing_by_choice (λ d. d.0)) tlid)) in
      let at = contains-among directed.0 standing directed.1 in
      let own = entry_at at.0 directed.0 (slice_get-get_or standing at.0 directed.0 at.1 ∙ ap Some at.2) in
      let same : own.0 ≡ entry = one_entry nat_keys county.chains (apart_from_sorted nat_keys (tlids county) is.ascending.chains) own.0 entry
      (among-get county.chains directed.0.place own.0 own.1.found) m (sym own.1.tlid ∙ sym directed.2) in
      (at.0, at.1, (directed.0, subst (IsEntryAt at.0 directed.0) same own.1))

  abbrev along : List (List PolygonKey)
  along = keys_along chain_polygons county standing

  -- its sides have the polygons of the place
  sides_at : (place : ℕ) (directed : DirectedChain) (entry : ℕ × Chain) → IsEntryAt place directed entry
      → group_at along place ≡ chain_polygons (turned_if directed.turned entry.1)
  sides_at place directed entry at =
      let sides : DirectedChain → List PolygonKey = λ d. flat_map chain_polygons (option_to_list (directed_chain county d)) in
      ap (λ (g : Option (List PolygonKey)). unwrap_or g []) (slice_get-map sides standing place ∙ ap (option_map sides) at.there)
      ∙ ap (λ (c : Option Chain). flat_map chain_polygons (option_to_list (option_map (turned_if directed.turned) c)))
      (slice_get-map (λ (e : ℕ × Chain). e.1) county.chains directed.place ∙ ap (option_map (λ (e : ℕ × Chain). e.1)) at.found)
      ∙ append-nil (chain_polygons (turned_if directed.turned entry.1))

  -- If its place is kept, it's kept, with its polygons.
  on_kept : (place : ℕ) (directed : DirectedChain) (entry : ℕ × Chain) → IsEntryAt place directed entry → kept place ≡ true
      → (k : PolygonKey) → Among k (chain_polygons entry.1) → Known key_cmp (polygons_along kept_chains) k
  on_kept place directed entry at here k m =
      among_known key_keys k (polygons_along kept_chains) (among-pieces (λ (e : ℕ × Chain). chain_polygons e.1) entry k kept_chains
      (to_filter (λ (e : ℕ × Chain). keeps e.0) entry county.chains (among-get county.chains directed.place entry at.found)
      (ap keeps (sym at.tlid) ∙ standing_marked place directed at.there ∙ here)) m)

  -- So a wanted polygon that is on a side is on a chain that is kept: at its own place, or at its first fixed one.
  on_sides : (k : PolygonKey) → contains key_cmp k (wanted_polygons county c.still) ≡ true → Known key_cmp (polygons_along county.chains) k
      → Known key_cmp (polygons_along kept_chains) k
  on_sides k is_wanted h =
      let entry = among-unpieces (λ (e : ℕ × Chain). chain_polygons e.1) k county.chains (known_is_among key_keys k (polygons_along county.chains) h) in
      let place = place_of entry.0 entry.1 in
      here place.0 place.1 place.2.0 entry.0 place.2.1 entry.2 (cases_Bool (kept place.0))
    where
      here : (p : ℕ) → p < length standing → (directed : DirectedChain) (entry : ℕ × Chain) → IsEntryAt p directed entry → Among k (chain_polygons entry.1)
          → (kept p ≡ true) ⊎ (kept p ≡ false) → Known key_cmp (polygons_along kept_chains) k
      here p below directed entry at m (inl passes) = on_kept p directed entry at passes k m
      here p below directed entry at m (inr out) =
          let closed = (or_parts (has_new_at key_cmp c.still.places (wanted_polygons county c.still) along p) _
          (or_parts (has_new_at nat_cmp c.still.places (wanted_nodes county c.still) (keys_along chain_nodes county standing) p) _
          (or_parts (is_open c.shapes.places p) _ out).1).1).0 in
          let found = fixed_before key_keys c.still.places along (wanted_polygons county c.still) p closed k is_wanted
          (among_known key_keys k (group_at along p) (subst (Among k) (sym (sides_at p directed entry at)) (among-turned k directed.turned entry.1 m))) in
          let first = found.0 in
          let other = some_at standing first.first (let less = found.1 in omega (arith, less, below)) in
          let own = entry_at first.first other.0 other.1 in
          on_kept first.first other.0 own.0 own.1 (or_right (is_open c.shapes.places first.first) _ (or_right _ _ (or_left _ _ first.new_there)))
          k (polygons-unturned k other.0.turned own.0.1
          (subst (Among k) (sides_at first.first other.0 own.0 own.1) (known_is_among key_keys k (group_at along first.first) first.here)))

  -- So all polygons of kept landmarks are on kept chains.
  pub links_on_sides : AllByRecursion (λ link. IsTrue (contains key_cmp (link_key link) (polygons_along (filter (λ entry. keeps entry.0) county.chains))))
      (filter (λ link. contains nat_cmp link.land (kept_lands county c.still)) county.links)
  links_on_sides = each_from (λ link. IsTrue (contains key_cmp (link_key link) (polygons_along kept_chains)))
      (filter (λ link. contains nat_cmp link.land (kept_lands county c.still)) county.links)
      (λ link m. (let found = among_filtered (λ (l : Fields8). contains nat_cmp l.land (kept_lands county c.still)) link county.links m in
      lt-ltb 0 (times key_cmp (link_key link) (polygons_along kept_chains)) (on_sides (link_key link)
      (link_wanted county c.still link found.0 found.1) (link_on_side county is c.known.sides link found.0))))

  -- The small county is a county,
  pub small_is : IsCounty small
  unfolding small_county
  small_is = part_is county (λ entry. keeps entry.0) (kept_lands county c.still) is links_on_sides

  -- all its polygons are on sides,
  pub small_sides : AllKeysContained (polygons_along small.chains) (polygon_keys small)
  unfolding small_county
  small_sides = part_sides county (λ entry. keeps entry.0) (kept_lands county c.still) is

  -- it's within limits,
  pub small_within : IsWithinLimits most_records small
  unfolding small_county
  small_within = part_within county (λ entry. keeps entry.0) (kept_lands county c.still) most_records c.within

  -- it leaves as many choices,
  pub small_choices : choices small ≡ choices county
  small_choices = choices_part county small keeps chains_are opened is small_is

  -- What is read from the chain of a directed chain.
  abbrev read_of : County → ℕ × Bool → List Chain
  read_of of directed = map (λ (entry : ℕ × Chain). turned_if directed.1 entry.1) (entries_of of.chains directed.0)

  read_alone : (n : ℕ) → AllByRecursion (λ directed. (chain : Chain) × (read_of county directed ≡ chain ∷ [])) (numbered_choice county n)
  read_alone n =
      let arranges = (numbered_is_choice county is n).arranges in
      all_weaker (λ (directed : ℕ × Bool). Known nat_cmp (tlids county) directed.0) (λ directed. (chain : Chain) × (read_of county directed ≡ chain ∷ []))
      (λ directed h. (let entry = one_chain county (numbered_choice county n) is arranges directed.0 h in
      (turned_if directed.1 entry.0.1, ap (map (λ (e : ℕ × Chain). turned_if directed.1 e.1)) entry.1)))
      (numbered_choice county n) (arrangement_known county (numbered_choice county n) is arranges)

  read_kept : (ds : List (ℕ × Bool)) → AllByRecursion (λ directed. keeps_directed directed ≡ true) ds
      → flat_map (read_of small) ds ≡ flat_map (read_of county) ds
  read_kept [] a = refl
  read_kept (d ∷ ds) a =
      λ i. map (λ (entry : ℕ × Chain). turned_if d.1 entry.1) (entries_part county small keeps chains_are d.0 a.0 i) ++ read_kept ds a.1 i

  -- A choice of the small county has the chains, with their directions, that the county's choice has at kept places.
  pub small_chains : (order : OrderOfShapes) → LeavesChoices small order → (i : ℕ)
      → (small_whole : AreWhole small (numbered_arrangement order (c.number i)))
      → chains small (numbered_arrangement order (c.number i)) small_is small_whole ≡ at_places (chains_at c i) (places_in c kept)
  small_chains order known_small i small_whole =
      let n = c.number i in
      let choice = numbered_choice county n in
      let count = sym (length-map choice keeps_directed) ∙ ap length (flags n) ∙ length-map by_shape (λ directed. keeps (tlid_of directed))
      ∙ sym (base_count c) in
      ap (flat_map (read_of small)) (choice_is small order known_small small_is n ∙ choice_part county small keeps chains_are opened is small_is n)
      ∙ read_kept (filter keeps_directed choice) (all_pass keeps_directed choice)
      ∙ pieces_places (read_of county) keeps_directed kept choice (read_alone n)
      (marked_alike keeps_directed (λ directed. keeps (tlid_of directed)) kept choice by_shape (flags n) tlids_marked)
      ∙ (λ j. at_places (flat_map (read_of county) (sym (stated c i) j)) (filter kept (range_with_len 0 (count j))))

  -- An order of its shapes leaves its choices.
  pub small_leaves : (order : OrderOfShapes) → IsShapeOrder small order → LeavesChoices small order
  small_leaves order is_order =
      let few : choices small ≤ most_choices = subst (λ n. n ≤ most_choices) (sym small_choices) c.known.few in
      record {
        order = is_order;
        few = few;
        within = places_within small small_is order.by_shape is_order.by_shape order.places (is_order.places few);
        sides = small_sides;
      }
