-- Two choices are in the same order in a county and in the part of it where they are compared: the small county of the county whose chains
-- have only wanted names.
use Rattle.tl_number.proofs.Common.{Bool, County, DirectedChain, Eight, I, List, One, OpenPlace, P, Six, [], all_known, ap, ap₂, at_places, bodies_at, chain_feats, chain_nodes, chain_polygons, choices, choices_cmp, cond, contains, false, filter, filter_all, first_open, fixed_keys, flat_map, group_at, grouped, groups_cmp, has_name, has_new, has_new_at, is_kept, is_open, kept_landmarks, kept_lands, kept_tlids, key_cmp, keys_along, lands, length, link_keys_at, list_any, lt-ltb, map, map-map, names_linked, nat_cmp, nat_keys, nat_lt, not, open_among, ordering_then, range_with_len, refl, sym, times, times-filter, true, wanted_feats, wanted_nodes, wanted_polygons, ℕ, ◌&&◌, ◌++◌, ◌||◌, ◌∙◌, ◌∷◌, ◌≡◌}
use Rattle.record_groups.specs.TypeOneOrder.{ones_cmp}
use Rattle.std.specs.Prelude.{slice_index}
use Rattle.tl_number.proofs.Choices.LeastOnes.{by_ones}
use Rattle.tl_number.proofs.Ties.Narrowed.{choices_narrow, feats_narrow, group_filtered, keys_narrow, tlids_narrow}
use Rattle.tl_number.proofs.Ties.NarrowedChoices.{areas_narrow, eights_narrow, grouped_filter, is_wanted, narrow, ones_narrow, sixes_narrow, topologies_narrow}
use Rattle.tl_number.proofs.Ties.NarrowedNames.{fours_narrow}
use Rattle.tl_number.proofs.Ties.ComparedChoices.{ComparedChoices}
use Rattle.tl_number.proofs.Ties.SmallCounty.{small_choices}
use Rattle.tl_number.proofs.Ties.SmallLandmarks.{sevens_tie}
use Rattle.tl_number.proofs.Ties.SmallOrder.{fives_tie, small_same_ones, small_same_order, twos_tie, types_decide}
use Rattle.tl_number.specs.KeptLandmarks.{keeps_landmark}
use Rattle.tl_number.specs.MovedKeys.{moves_keys}
use Rattle.tl_number.specs.SmallCounty.{small_county}

-- ---- keys at places, of which the wanted ones are left

module _ (test : ℕ → Bool) (along : List (List ℕ)) where
  abbrev left : List (List ℕ)
  left = map (filter test) along

  groups_left : (places : List ℕ) → grouped (map (group_at left) places) ≡ filter test (grouped (map (group_at along) places))
  groups_left places = (λ i. grouped (map (λ place. group_filtered test along place i) places)) ∙ ap grouped (sym (map-map (filter test) (group_at along) places))
      ∙ grouped_filter test (map (group_at along) places)

-- a place has a new key if one of its wanted keys is new
module _ (wanted : List ℕ) where
  abbrev wants : ℕ → Bool
  wants key = contains nat_cmp key wanted

  new_left : (earlier keys : List ℕ) → has_new nat_cmp wanted (filter wants earlier) (filter wants keys) ≡ has_new nat_cmp wanted earlier keys
  new_left earlier [] = refl
  new_left earlier (key ∷ keys) = go (wants key) refl (new_left earlier keys)
    where
      rest : List ℕ → List ℕ → Bool
      rest before others = has_new nat_cmp wanted before others

      seen : wants key ≡ true → contains nat_cmp key (filter wants earlier) ≡ contains nat_cmp key earlier
      seen e = ap (nat_lt 0) (times-filter nat_keys wants key earlier ∙ ap (λ b. cond b (times nat_cmp key earlier) 0) e)

      go : (b : Bool) → wants key ≡ b → rest (filter wants earlier) (filter wants keys) ≡ rest earlier keys
          → rest (filter wants earlier) (cond b (key ∷ filter wants keys) (filter wants keys)) ≡ ((b && not (contains nat_cmp key earlier)) || rest earlier keys)
      go true e same = (λ i. (e i && not (seen e i)) || same i)
      go false e same = same

  new_narrow : (places : List OpenPlace) (along : List (List ℕ)) (place : ℕ)
      → has_new_at nat_cmp places wanted (left wants along) place ≡ has_new_at nat_cmp places wanted along place
  new_narrow places along place =
      ap₂ (has_new nat_cmp wanted) (groups_left wants along (filter (λ p. not (is_open places p)) (range_with_len 0 place))) (group_filtered wants along place)
      ∙ new_left (fixed_keys places along place) (group_at along place)

  -- all wanted keys are wanted
  all_wanted : filter wants wanted ≡ wanted
  all_wanted = filter_all wants wanted (all_known nat_keys (λ key. wants key ≡ true) wanted (λ key h. lt-ltb 0 (times nat_cmp key wanted) h))

module _ (c : ComparedChoices) where
  abbrev by_shape : List DirectedChain
  by_shape = c.still.by_shape

  abbrev thin : County
  thin = (narrow c).county

  -- ---- the same chains and landmarks are kept

  sides_along : keys_along chain_polygons thin by_shape ≡ keys_along chain_polygons c.county by_shape
  sides_along = keys_narrow (is_wanted c) c.county chain_polygons (λ chain. refl) by_shape

  nodes_along_shapes : keys_along chain_nodes thin by_shape ≡ keys_along chain_nodes c.county by_shape
  nodes_along_shapes = keys_narrow (is_wanted c) c.county chain_nodes (λ chain. refl) by_shape

  landmarks_same : kept_landmarks thin c.still ≡ kept_landmarks c.county c.still
  unfolding keeps_landmark
  landmarks_same = ap (λ along. filter (λ place. list_any (moves_keys key_cmp along) c.still.places
      && has_name (names_linked c.county (first_open key_cmp c.still.places along)) (bodies_at c.county place))
      (range_with_len 0 (length c.county.landmarks))) sides_along

  pub kept_lands_narrow : kept_lands thin c.still ≡ kept_lands c.county c.still
  kept_lands_narrow = ap (at_places (lands c.county)) landmarks_same

  abbrev opens : List ℕ
  opens = open_among c.still.places (length by_shape)

  feats_wanted : wanted_feats thin c.still ≡ wanted_feats c.county c.still
  feats_wanted = ap (λ along. grouped (map (group_at along) opens)) (feats_narrow (is_wanted c) c.county by_shape)
      ∙ groups_left (is_wanted c) (keys_along chain_feats c.county by_shape) opens ∙ all_wanted (wanted_feats c.county c.still)

  nodes_wanted : wanted_nodes thin c.still ≡ wanted_nodes c.county c.still
  nodes_wanted = ap (λ along. grouped (map (group_at along) opens)) nodes_along_shapes

  polygons_wanted : wanted_polygons thin c.still ≡ wanted_polygons c.county c.still
  polygons_wanted = ap₂ (λ along landmarks. grouped (map (group_at along) opens) ++ flat_map (link_keys_at c.county) landmarks) sides_along landmarks_same

  kept_same : (place : ℕ) → is_kept thin c.shapes c.still place ≡ is_kept c.county c.shapes c.still place
  kept_same place =
      let names : has_new_at nat_cmp c.still.places (wanted_feats thin c.still) (keys_along chain_feats thin by_shape) place
      ≡ has_new_at nat_cmp c.still.places (wanted_feats c.county c.still) (keys_along chain_feats c.county by_shape) place =
      ap₂ (λ wanted along. has_new_at nat_cmp c.still.places wanted along place) feats_wanted (feats_narrow (is_wanted c) c.county by_shape)
      ∙ new_narrow (wanted_feats c.county c.still) c.still.places (keys_along chain_feats c.county by_shape) place in
      λ i. is_open c.shapes.places place
      || (has_new_at nat_cmp c.still.places (nodes_wanted i) (nodes_along_shapes i) place
      || (has_new_at key_cmp c.still.places (polygons_wanted i) (sides_along i) place || names i))

  pub kept_tlids_narrow : kept_tlids thin c.shapes c.still ≡ kept_tlids c.county c.shapes c.still
  kept_tlids_narrow = λ i. map (λ directed. slice_index (tlids_narrow (is_wanted c) c.county i) directed.place)
      (at_places c.shapes.by_shape (filter (λ place. kept_same place i) (range_with_len 0 (length c.shapes.by_shape))))

  -- ---- two choices are in one order

  narrow_same_ones : (n k : ℕ) → ones_cmp thin (c.number n) (c.number k) ≡ ones_cmp c.county (c.number n) (c.number k)
  narrow_same_ones n k = by_ones (narrow c) n k ∙ ap₂ (groups_cmp One) (ones_narrow c n) (ones_narrow c k) ∙ sym (by_ones c n k)

  narrow_same_order : (n k : ℕ) → choices_cmp thin (c.number n) (c.number k) ≡ choices_cmp c.county (c.number n) (c.number k)
  narrow_same_order n k =
      types_decide (narrow c) n k
      ∙ (λ i. ordering_then
      (ordering_then (groups_cmp One (ones_narrow c n i) (ones_narrow c k i))
      (ordering_then ((sym (twos_tie (narrow c) n k) ∙ twos_tie c n k) i) (sym (fours_narrow c n k) i)))
      (ordering_then (ordering_then ((sym (fives_tie (narrow c) n k) ∙ fives_tie c n k) i)
      (ordering_then (groups_cmp Six (sixes_narrow c n i) (sixes_narrow c k i)) ((sym (sevens_tie (narrow c) n k) ∙ sevens_tie c n k) i)))
      (ordering_then (groups_cmp Eight (eights_narrow c n i) (eights_narrow c k i))
      (ordering_then (groups_cmp I (topologies_narrow c n i) (topologies_narrow c k i)) (groups_cmp P (areas_narrow c n i) (areas_narrow c k i))))))
      ∙ sym (types_decide c n k)

  -- the part of the county
  abbrev pub compared : County
  compared = small_county thin c.shapes c.still

  pub same_ones : (n k : ℕ) → ones_cmp compared (c.number n) (c.number k) ≡ ones_cmp c.county (c.number n) (c.number k)
  same_ones n k = small_same_ones (narrow c) n k ∙ narrow_same_ones n k

  pub same_order : (n k : ℕ) → choices_cmp compared (c.number n) (c.number k) ≡ choices_cmp c.county (c.number n) (c.number k)
  same_order n k = small_same_order (narrow c) n k ∙ narrow_same_order n k

  pub compared_choices : choices compared ≡ choices c.county
  compared_choices = small_choices (narrow c) ∙ choices_narrow (is_wanted c) c.county
