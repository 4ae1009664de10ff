-- Choices of a county, and of the county whose chains have only wanted names: new numbers, and all records but those of names.
use Rattle.tl_number.proofs.Common.{Bool, Chain, Fields8, IsKeyOrder, Known, List, Ordering, Some, [], all_everywhere, ap, chain_feats, chain_nodes, chain_polygons, contains, directed_chain, filter, filter-append, filter-filtered, filter_all, first_seen, grouped, image, in_order, kept_entry, key_cmp, keys_along, landmark_key, landmark_key_cmp, link_cmp, link_key, lt-ltb, map, map-map, nat_cmp, nat_keys, numbered, numbered_from, on, option_map, option_to_list, packed_i, packed_one, packed_sixes, polygons_in_order, refl, relinked, renumbered, slice_get, slice_get-map, subst, sym, times, type_1_by_chain, type_6_by_chain, type_8_together, type_i_by_chain, type_p_by_number, under_cenid, wanted_feats, ℕ, ◌&&◌, ◌++◌, ◌∙◌, ◌∷◌, ◌≡◌}
use Rattle.arranged_county.proofs.Views.ArrangedTables.{same_somes}
use Rattle.canonical_form.specs.Arrangement.{arranged, new_keys, nodes_in_order, renaming_of}
use Rattle.canonical_form.specs.ByNumber.{entry_polyid}
use Rattle.county_chart.specs.Packing.{packed_p}
use Rattle.tl_number.proofs.Ties.CountyParts.{all_pass}
use Rattle.tl_number.proofs.Ties.KeyKinds.{AreNumberedAlike, AreSeenAlike, keys_placed, name_kind, new_node, new_polygon, opened_seen_in, reordered_in, seen_in}
use Rattle.tl_number.proofs.Ties.Narrowed.{directed_narrow, feats_narrow, keys_narrow, narrow_chain, narrow_is, narrow_leaves, narrow_within}
use Rattle.tl_number.proofs.Ties.ComparedChoices.{ComparedChoices, chains_at, chains_numbered, choice, directed_in, new_in, order_in, read_in}
use Rattle.tl_number.proofs.Ties.Ranks.{AreReordered, in_filtered, masked_by, seen_filtered, to_filtered}
use Rattle.tl_number.proofs.Ties.SmallKeys.{numbered_map, same_record}
use Rattle.tl_number.proofs.Ties.WantedNames.{names_alike}
use Rattle.tl_number.specs.CountyParts.{narrowed}

-- if two lists differ only in wanted keys, so do their keys that pass a test
module _ {K : Type 0} {cmp : K → K → Ordering} (o : IsKeyOrder cmp) where
  reordered_filter : (wanted test : K → Bool) (xs ys : List K) → AreReordered o wanted xs ys → AreReordered o wanted (filter test xs) (filter test ys)
  reordered_filter wanted test xs ys h = record {
    alike = λ k. (
      (λ l. (let both = in_filtered o test xs k l in to_filtered o test ys k ((h.alike k).0 both.0) both.1)),
      (λ l. (let both = in_filtered o test ys k l in to_filtered o test xs k ((h.alike k).1 both.0) both.1)),
    );
    masked = λ also. ap (masked_by wanted) (filter-filtered test also xs) ∙ h.masked (λ k. test k && also k)
        ∙ sym (ap (masked_by wanted) (filter-filtered test also ys));
  }

-- the elements of all groups that pass a test
pub grouped_filter : {X : Type 0} (test : X → Bool) (groups : List (List X)) → grouped (map (filter test) groups) ≡ filter test (grouped groups)
grouped_filter test [] = refl
grouped_filter test (group ∷ groups) = ap (λ xs. filter test group ++ xs) (grouped_filter test groups) ∙ sym (filter-append test group (grouped groups))

-- the county with only the names that chains at places still open have; it has the same order of shapes
module _ (c : ComparedChoices) where
  abbrev pub is_wanted : ℕ → Bool
  is_wanted feat = contains nat_cmp feat (wanted_feats c.county c.still)

  abbrev pub narrow : ComparedChoices
  narrow = record {
    county = narrowed is_wanted c.county;
    shapes = c.shapes;
    known = narrow_leaves is_wanted c.county c.shapes c.known;
    is = narrow_is is_wanted c.county c.is;
    within = narrow_within is_wanted c.county c.within;
    still = c.still;
    base = c.base;
    based = c.based;
    inside = c.inside;
    opened = c.opened;
    number = c.number;
    digits = c.digits;
    stand = c.stand;
  }

  -- Its chains in a choice are those of the county, with only wanted names.
  pub chains_narrow : (i : ℕ) → chains_at narrow i ≡ map (narrow_chain is_wanted c.county) (chains_at c i)
  chains_narrow i =
      let own : Chain → Chain = narrow_chain is_wanted c.county in
      same_somes (chains_at narrow i) (map own (chains_at c i))
      (sym (read_in narrow i) ∙ (λ j. map (λ directed. directed_narrow is_wanted c.county directed j) (directed_in c i))
      ∙ sym (map-map (option_map own) (directed_chain c.county) (directed_in c i)) ∙ ap (map (option_map own)) (read_in c i)
      ∙ map-map (option_map own) Some (chains_at c i) ∙ sym (map-map Some own (chains_at c i)))

  pub there_narrow : (i place : ℕ) → slice_get (chains_at narrow i) place ≡ option_map (narrow_chain is_wanted c.county) (slice_get (chains_at c i) place)
  there_narrow i place = ap (λ chains. slice_get chains place) (chains_narrow i) ∙ slice_get-map (narrow_chain is_wanted c.county) (chains_at c i) place

  -- ---- its names compare alike

  -- names first appear in the same order, without those that aren't wanted
  seen_narrow : (i : ℕ) → seen_in nat_cmp chain_feats narrow i ≡ filter is_wanted (seen_in nat_cmp chain_feats c i)
  seen_narrow i =
      let along : List (List ℕ) = keys_along chain_feats c.county (directed_in c i) in
      ap (λ groups. first_seen nat_cmp (grouped groups)) (feats_narrow is_wanted c.county (directed_in c i))
      ∙ ap (first_seen nat_cmp) (grouped_filter is_wanted along)
      ∙ sym (seen_filtered nat_keys is_wanted [] (grouped along))

  seen_alike : AreSeenAlike name_kind (wanted_feats c.county c.still) c narrow
  seen_alike = record {
    reordered = reordered_in name_kind c (wanted_feats c.county c.still) (λ k h. h);
    small_reordered = λ n m. subst (AreReordered nat_keys is_wanted (seen_in nat_cmp chain_feats narrow n)) (sym (seen_narrow m))
        (subst (λ ks. AreReordered nat_keys is_wanted ks (filter is_wanted (seen_in nat_cmp chain_feats c m))) (sym (seen_narrow n))
        (reordered_filter nat_keys is_wanted is_wanted (seen_in nat_cmp chain_feats c n) (seen_in nat_cmp chain_feats c m)
        (reordered_in name_kind c (wanted_feats c.county c.still) (λ k h. h) n m)));
    same = λ n. sym (ap (filter is_wanted) (seen_narrow n)
        ∙ filter_all is_wanted (filter is_wanted (seen_in nat_cmp chain_feats c n)) (all_pass is_wanted (seen_in nat_cmp chain_feats c n)));
    opened_seen = opened_seen_in name_kind c (wanted_feats c.county c.still) (λ k h. h);
    opened_small = λ n k h. subst (λ ks. Known nat_cmp ks k) (sym (seen_narrow n)) (to_filtered nat_keys is_wanted (seen_in nat_cmp chain_feats c n) k
        (opened_seen_in name_kind c (wanted_feats c.county c.still) (λ j l. l) n k h) (lt-ltb 0 (times nat_cmp k (wanted_feats c.county c.still)) h));
  }

  pub numbered_narrow : (n m : ℕ) → AreNumberedAlike name_kind (wanted_feats c.county c.still) c narrow n m
  numbered_narrow = names_alike c narrow seen_alike (λ k h. refl)

  -- ---- nodes, polygons and landmarks have the same new numbers

  module _ (i : ℕ) where
    -- its nodes and polygons first appear in the same order
    nodes_seen : nodes_in_order narrow.county (order_in narrow i) ≡ nodes_in_order c.county (order_in c i)
    nodes_seen = ap (first_seen nat_cmp) (sym (keys_placed narrow i chain_nodes)
        ∙ ap grouped (keys_narrow is_wanted c.county chain_nodes (λ chain. refl) (directed_in c i)) ∙ keys_placed c i chain_nodes)

    keys_seen : polygons_in_order narrow.county (order_in narrow i) ≡ polygons_in_order c.county (order_in c i)
    keys_seen = ap (first_seen key_cmp) (sym (keys_placed narrow i chain_polygons)
        ∙ ap grouped (keys_narrow is_wanted c.county chain_polygons (λ chain. refl) (directed_in c i)) ∙ keys_placed c i chain_polygons)

    keys_same : new_keys narrow.county (order_in narrow i) ≡ new_keys c.county (order_in c i)
    keys_same = ap (λ keys. map under_cenid (numbered keys)) keys_seen

    nodes_renamed : (new_in narrow i).nodes ≡ (new_in c i).nodes
    unfolding renaming_of
    nodes_renamed = ap numbered nodes_seen

    polygons_renamed : (new_in narrow i).polygons ≡ (new_in c i).polygons
    unfolding renaming_of
    polygons_renamed = keys_same

    lands_renamed : (new_in narrow i).lands ≡ (new_in c i).lands
    unfolding renaming_of
    lands_renamed = ap (λ keys. numbered (map (λ entry. entry.0)
        (in_order (on (landmark_key (in_order link_cmp (map (relinked keys) c.county.links))) landmark_key_cmp) c.county.landmarks))) keys_same

    links_same : (choice narrow i).links ≡ (choice c i).links
    unfolding arranged
    links_same = λ j. in_order link_cmp (map (λ (link : Fields8). let w : Fields8 = record link {
      cenid = (image key_cmp (polygons_renamed j) (link_key link)).0;
      polyid = (image key_cmp (polygons_renamed j) (link_key link)).1;
      land = image nat_cmp (lands_renamed j) link.land;
    } in w) c.county.links)

    polygons_same : (choice narrow i).polygons ≡ (choice c i).polygons
    unfolding arranged
    polygons_same = λ j. in_order (on (λ entry. entry.0) key_cmp) (map (λ entry. (image key_cmp (polygons_renamed j) entry.0, entry.1)) c.county.polygons)

    -- ---- so the records that don't depend on names are the same

    made_same : {X : Type 0} (pack : ℕ × Chain → List X)
        → ((tlid : ℕ) (chain : Chain) → pack (tlid, renumbered (new_in narrow i) (narrow_chain is_wanted c.county chain)) ≡ pack (tlid, renumbered (new_in c i) chain))
        → map pack (choice narrow i).chains ≡ map pack (choice c i).chains
    made_same pack same =
        ap (map pack) (chains_numbered narrow i ∙ ap (λ chains. map (kept_entry (new_in narrow i)) (numbered_from 1 chains)) (chains_narrow i)
        ∙ ap (map (kept_entry (new_in narrow i))) (numbered_map (narrow_chain is_wanted c.county) 1 (chains_at c i)))
        ∙ map-map pack (kept_entry (new_in narrow i)) (map (λ (e : ℕ × Chain). (e.0, narrow_chain is_wanted c.county e.1)) (numbered_from 1 (chains_at c i)))
        ∙ map-map (λ e. pack (kept_entry (new_in narrow i) e)) (λ (e : ℕ × Chain). (e.0, narrow_chain is_wanted c.county e.1)) (numbered_from 1 (chains_at c i))
        ∙ (λ j. map (λ (e : ℕ × Chain). same e.0 e.1 j) (numbered_from 1 (chains_at c i)))
        ∙ sym (map-map pack (kept_entry (new_in c i)) (numbered_from 1 (chains_at c i))) ∙ ap (map pack) (sym (chains_numbered c i))

    pub ones_narrow : type_1_by_chain (choice narrow i) ≡ type_1_by_chain (choice c i)
    ones_narrow = made_same (λ entry. packed_one entry ∷ []) (λ tlid chain. refl)

    pub sixes_narrow : type_6_by_chain (choice narrow i) ≡ type_6_by_chain (choice c i)
    sixes_narrow = made_same packed_sixes (λ tlid chain. refl)

    pub topologies_narrow : type_i_by_chain (choice narrow i) ≡ type_i_by_chain (choice c i)
    topologies_narrow = made_same (λ entry. packed_i entry ∷ []) (λ tlid chain. ap (λ r. r ∷ []) (same_record (new_in narrow i) (new_in c i) chain
        (all_everywhere (λ k. new_node (new_in narrow i) k ≡ new_node (new_in c i) k) (λ k. ap (λ pairs. image nat_cmp pairs k) nodes_renamed) (chain_nodes chain))
        (all_everywhere (λ k. new_polygon (new_in narrow i) k ≡ new_polygon (new_in c i) k) (λ k. ap (λ pairs. image key_cmp pairs k) polygons_renamed)
        (chain_polygons chain)) tlid))

    pub eights_narrow : type_8_together (choice narrow i) ≡ type_8_together (choice c i)
    eights_narrow = ap (λ links. links ∷ []) links_same

    pub areas_narrow : type_p_by_number (choice narrow i) ≡ type_p_by_number (choice c i)
    areas_narrow = ap (λ polygons. map (λ entry. option_to_list (packed_p entry)) (in_order (on entry_polyid nat_cmp) polygons)) polygons_same
