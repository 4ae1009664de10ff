-- Two choices are in one order in a county and in its small county.
use Rattle.tl_number.proofs.Common.{Among, Bool, County, DirectedChain, Eight, Equal, Fields8, Five, IsPermutation-sym, IsShapeOrder, IsTotalOrder, Known, LeavesChoices, OrderOfShapes, PolygonKey, Two, along_shapes, ap, arranged, chain_polygons, choices_cmp, contains, counted_choices, directed_cmp, false, false_from_ne_true, false≢true, feats, filter, groups_cmp, in_order, in_order-in_order, in_order-is_permutation, inl, inr, is_either_way, is_kept, is_open, keeps_landmark, kept_lands, kept_tlids, key_cmp, key_keys, keys_at_open, known-left, link_key, lt-ltb, map, moves_polygons, name_under, nat_cmp, nat_cmp_total, nat_keys, on_total, open_places, opened_polygons, or_left, or_parts, or_right, ordering_then, packed, place_in, points_along, points_cmp, points_keys, polygon_under, polygons_along, refl, same_groups, slice_cmp, sym, text_of, texts_in_order, then_total, times, type_2_by_chain, type_5_by_name, type_8_together, types_1_to_4_cmp, types_5_to_7_cmp, types_8_to_p_cmp, wanted_feats, wanted_nodes, wanted_polygons, ℕ, ◌+◌, ◌∙◌, ◌≡◌, ◌⊎◌}
use Rattle.record_groups.specs.TypeOneOrder.{ones_cmp}
use Rattle.tl_number.proofs.Choices.LeastOnes.{by_ones}
use Rattle.tl_number.proofs.Names.ContentFirst.{same_type_5}
use Rattle.tl_number.proofs.Texts.SamePoints.{twos_of_numbers}
use Rattle.tl_number.proofs.Ties.KeptLandmarks.{landmark_kept, link_closed, link_wanted}
use Rattle.tl_number.proofs.Ties.KeyKinds.{AreSeenAlike, name_kind, node_kind, numbered_alike, opened_in, polygon_kind, polygon_number, seen_alike, seen_in, unopened_stays}
use Rattle.tl_number.proofs.Ties.ListsAlike.{value_filtered}
use Rattle.tl_number.proofs.Ties.ComparedChoices.{ComparedChoices, IsKeptPart, arranges_in, choice, choices_with, link_on_side, new_in, one_map, order_in, stated, whole_in}
use Rattle.tl_number.proofs.Ties.Ranks.{reordered_all}
use Rattle.tl_number.proofs.Ties.SmallCounty.{small_chains, small_is, small_leaves, small_within}
use Rattle.tl_number.proofs.Ties.SmallKeys.{AreWanted, fours_small, topologies_small}
use Rattle.tl_number.proofs.Ties.SmallLandmarks.{links_alike, sevens_tie}
use Rattle.tl_number.proofs.Ties.SmallPolygons.{polygon_records_small}
use Rattle.tl_number.proofs.Ties.SmallRecords.{ones_small, sixes_small}
use Rattle.tl_number.proofs.Ties.StillKeys.{seen_still}
use Rattle.tl_number.proofs.Ties.WantedNames.{names_alike, part_contents}
use Rattle.tl_number.specs.CountyParts.{part_of}
use Rattle.tl_number.specs.SmallCounty.{small_county}

-- the chains in the directions of their shapes, put in order, their open places, and how many choices these leave
abbrev pub own_order : County → OrderOfShapes
own_order county = record {
  by_shape = in_order (directed_cmp county) (along_shapes county);
  places = open_places points_cmp is_either_way 0 (map (points_along county) (in_order (directed_cmp county) (along_shapes county)));
  choices = counted_choices county;
}

module _ (county : County) where
  directed_total : IsTotalOrder (directed_cmp county)
  directed_total = then_total (on_total (points_along county) points_keys.total) (on_total (λ (directed : DirectedChain). directed.place) nat_cmp_total)

  -- It's an order of the county's shapes.
  pub own_order_is : IsShapeOrder county (own_order county)
  own_order_is = record {
    by_shape = record {
      all = IsPermutation-sym (in_order (directed_cmp county) (along_shapes county)) (along_shapes county)
          (in_order-is_permutation (directed_cmp county) (along_shapes county));
      in_order = in_order-in_order directed_total (along_shapes county);
    };
    count = refl;
    places = λ few. refl;
  }

-- ---- two choices are in one order in a county and in its small county

-- Two choices of a county.
module _ (c : ComparedChoices) (n k : ℕ) where
  -- their texts are in the order of their records, type by type
  pub types_decide : choices_cmp c.county (c.number n) (c.number k) ≡ ordering_then (types_1_to_4_cmp (choice c n) (choice c k))
      (ordering_then (types_5_to_7_cmp (choice c n) (choice c k)) (types_8_to_p_cmp (choice c n) (choice c k)))
  types_decide =
      let whole = whole_in c n in
      let whole_too = whole_in c k in
      sym (λ i. slice_cmp nat_cmp (text_of (packed (arranged c.county (stated c n i))))
      (text_of (packed (arranged c.county (stated c k i)))))
      ∙ texts_in_order (choice c n) (choice c k) whole.is_county whole_too.is_county whole.within_limits whole_too.within_limits (one_map c n k)

  -- they tie in types 2 and 5
  pub twos_tie : Equal ≡ groups_cmp Two (type_2_by_chain (choice c n)) (type_2_by_chain (choice c k))
  twos_tie = same_groups Two (type_2_by_chain (choice c n)) (type_2_by_chain (choice c k))
      (ap (λ a. type_2_by_chain (arranged c.county a)) (stated c n)
      ∙ twos_of_numbers c.county c.is c.known.sides (c.number n) (c.number k)
      ∙ sym (ap (λ a. type_2_by_chain (arranged c.county a)) (stated c k)))

  pub fives_tie : Equal ≡ groups_cmp Five (type_5_by_name (choice c n)) (type_5_by_name (choice c k))
  fives_tie = same_groups Five (type_5_by_name (choice c n)) (type_5_by_name (choice c k))
      (same_type_5 c.county c.is (order_in c n) (order_in c k) (arranges_in c n) (arranges_in c k))

-- a small county has the kept landmarks with their links
landmarks_kept : (county : County) (shapes still : OrderOfShapes)
    → ((small_county county shapes still).landmarks ≡ filter (λ e. contains nat_cmp e.0 (kept_lands county still)) county.landmarks)
    × ((small_county county shapes still).links ≡ filter (λ link. contains nat_cmp link.land (kept_lands county still)) county.links)
unfolding small_county part_of
landmarks_kept county shapes still = (refl, refl)

-- its polygons keep their content
contents_kept : (county : County) (shapes still : OrderOfShapes) (key : PolygonKey) → Known key_cmp (polygons_along (small_county county shapes still).chains) key
    → polygon_under (small_county county shapes still) key ≡ polygon_under county key
unfolding small_county part_of
contents_kept county shapes still key known =
    value_filtered key_keys (λ k. contains key_cmp k (polygons_along (small_county county shapes still).chains)) county.polygons key
    (lt-ltb 0 (times key_cmp key (polygons_along (small_county county shapes still).chains)) known)

-- its names keep their content
names_kept : (county : County) (shapes still : OrderOfShapes) (k : ℕ) → Known nat_cmp (feats (small_county county shapes still)) k
    → name_under (small_county county shapes still) k ≡ name_under county k
unfolding small_county
names_kept county shapes still = part_contents county (λ entry. contains nat_cmp entry.0 (kept_tlids county shapes still)) (kept_lands county still)

-- A county and its small county, with an order of its own.
module _ (whole : ComparedChoices) (order : OrderOfShapes) (small_known : LeavesChoices (small_county whole.county whole.shapes whole.still) order) where
  abbrev small : ComparedChoices
  small = choices_with record {
    county = small_county whole.county whole.shapes whole.still;
    shapes = order;
    known = small_known;
    is = small_is whole;
    within = small_within whole;
  } whole.number

  abbrev is_in : ℕ → Bool
  is_in = is_kept whole.county whole.shapes whole.still

  part : IsKeptPart whole small is_in
  part = record {
    fixed = λ place out. false_from_ne_true (is_open whole.still.places place)
        (λ e. false≢true (sym (or_parts (is_open whole.shapes.places place) _ out).0 ∙ whole.opened place e));
    chains = λ i. small_chains whole order small_known i (whole_in small i);
  }

  -- the nodes, polygons and names that are wanted
  nodes_seen : AreSeenAlike node_kind (wanted_nodes whole.county whole.still) whole small
  nodes_seen = seen_alike node_kind whole (wanted_nodes whole.county whole.still) (λ k h. h)
      (λ place e. or_right (is_open whole.shapes.places place) _ (or_left _ _ e)) small part

  nodes : AreWanted node_kind whole small is_in
  nodes = record {
    wanted = wanted_nodes whole.county whole.still;
    alike = numbered_alike node_kind (wanted_nodes whole.county whole.still) whole small (λ n k. reordered_all nat_keys _ _ _ (nodes_seen.reordered n k))
        (λ n k. reordered_all nat_keys _ _ _ (nodes_seen.small_reordered n k)) nodes_seen.same;
    opened = opened_in node_kind whole (wanted_nodes whole.county whole.still) (λ k h. h);
    kept = λ place e. or_right (is_open whole.shapes.places place) _ (or_left _ _ e);
  }

  polygon_opened : (k : PolygonKey) → Known key_cmp (keys_at_open chain_polygons whole.county whole.still) k
      → Known key_cmp (wanted_polygons whole.county whole.still) k
  polygon_opened k h = known-left key_keys k (keys_at_open chain_polygons whole.county whole.still) _ h

  polygons_seen_alike : AreSeenAlike polygon_kind (wanted_polygons whole.county whole.still) whole small
  polygons_seen_alike = seen_alike polygon_kind whole (wanted_polygons whole.county whole.still) polygon_opened
      (λ place e. or_right (is_open whole.shapes.places place) _ (or_right _ _ (or_left _ _ e))) small part

  abbrev polygons : AreWanted polygon_kind whole small is_in
  polygons = record {
    wanted = wanted_polygons whole.county whole.still;
    alike = numbered_alike polygon_kind (wanted_polygons whole.county whole.still) whole small
        (λ n k. reordered_all key_keys _ _ _ (polygons_seen_alike.reordered n k))
        (λ n k. reordered_all key_keys _ _ _ (polygons_seen_alike.small_reordered n k)) polygons_seen_alike.same;
    opened = opened_in polygon_kind whole (wanted_polygons whole.county whole.still) polygon_opened;
    kept = λ place e. or_right (is_open whole.shapes.places place) _ (or_right _ _ (or_left _ _ e));
  }

  names : AreWanted name_kind whole small is_in
  names = record {
    wanted = wanted_feats whole.county whole.still;
    alike = names_alike whole small (seen_alike name_kind whole (wanted_feats whole.county whole.still) (λ k h. h)
        (λ place e. or_right (is_open whole.shapes.places place) _ (or_right _ _ (or_right _ _ e))) small part)
        (names_kept whole.county whole.shapes whole.still);
    opened = opened_in name_kind whole (wanted_feats whole.county whole.still) (λ k h. h);
    kept = λ place e. or_right (is_open whole.shapes.places place) _ (or_right _ _ (or_right _ _ e));
  }

  -- No link of another landmark has a polygon whose number differs: open places move no polygons, or none that the landmark has first appears
  -- at one.
  closed_links : (n k : ℕ) (link : Fields8) → Among link whole.county.links → contains nat_cmp link.land (kept_lands whole.county whole.still) ≡ false
      → polygon_number (new_in whole n) (link_key link) ≡ polygon_number (new_in whole k) (link_key link)
  closed_links n k link there out =
      let known = link_on_side whole.county whole.is whole.known.sides link there in
      polygon_kind.number_is whole n (link_key link) (polygon_kind.listed whole n (link_key link) known)
      ∙ ap (λ p. 1 + p) (stays (link_closed whole.county whole.still whole.is link there out))
      ∙ sym (polygon_kind.number_is whole k (link_key link) (polygon_kind.listed whole k (link_key link) known))
    where
      stays : (moves_polygons whole.county whole.still ≡ false) ⊎ (contains key_cmp (link_key link) (opened_polygons whole.county whole.still) ≡ false)
          → place_in key_cmp (seen_in key_cmp chain_polygons whole n) (link_key link) ≡ place_in key_cmp (seen_in key_cmp chain_polygons whole k) (link_key link)
      stays (inl still) = ap (λ keys. place_in key_cmp keys (link_key link)) (seen_still polygon_kind whole still n k)
      stays (inr closed) = unopened_stays polygon_kind whole n k (link_key link) closed

  links_small : (n k : ℕ) → groups_cmp Eight (type_8_together (choice whole n)) (type_8_together (choice whole k))
      ≡ groups_cmp Eight (type_8_together (choice small n)) (type_8_together (choice small k))
  links_small = let kept = landmarks_kept whole.county whole.shapes whole.still in
      links_alike polygons (λ land. contains nat_cmp land (kept_lands whole.county whole.still)) (keeps_landmark whole.county whole.still)
      (landmark_kept whole.county whole.still whole.is) kept.0 kept.1 (link_wanted whole.county whole.still) closed_links

  -- So two choices are in one order.
  same_order : (n k : ℕ) → choices_cmp small.county (whole.number n) (whole.number k) ≡ choices_cmp whole.county (whole.number n) (whole.number k)
  same_order n k =
      types_decide small n k
      ∙ sym (λ i. ordering_then
      (ordering_then (ones_small part n k i) (ordering_then ((sym (twos_tie whole n k) ∙ twos_tie small n k) i) (fours_small part names n k i)))
      (ordering_then (ordering_then ((sym (fives_tie whole n k) ∙ fives_tie small n k) i)
      (ordering_then (sixes_small part n k i) ((sym (sevens_tie whole n k) ∙ sevens_tie small n k) i)))
      (ordering_then (links_small n k i) (ordering_then (topologies_small part nodes polygons n k i) (polygon_records_small polygons polygons_seen_alike (contents_kept whole.county whole.shapes whole.still) n k i)))))
      ∙ sym (types_decide whole n k)

  -- They are so by their records of type 1 too.
  same_ones : (n k : ℕ) → ones_cmp small.county (whole.number n) (whole.number k) ≡ ones_cmp whole.county (whole.number n) (whole.number k)
  same_ones n k = by_ones small n k ∙ sym (ones_small part n k) ∙ sym (by_ones whole n k)

module _ (c : ComparedChoices) where
  abbrev part_of_it : County
  part_of_it = small_county c.county c.shapes c.still

  leaves : LeavesChoices part_of_it (own_order part_of_it)
  leaves = small_leaves c (own_order part_of_it) (own_order_is part_of_it)

  pub small_same_ones : (n k : ℕ) → ones_cmp part_of_it (c.number n) (c.number k) ≡ ones_cmp c.county (c.number n) (c.number k)
  small_same_ones = same_ones c (own_order part_of_it) leaves

  -- Two choices are in one order in a county and in its small county.
  pub small_same_order : (n k : ℕ) → choices_cmp part_of_it (c.number n) (c.number k) ≡ choices_cmp c.county (c.number n) (c.number k)
  small_same_order = same_order c (own_order part_of_it) leaves
