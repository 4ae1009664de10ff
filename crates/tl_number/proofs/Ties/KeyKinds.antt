-- Kinds of keys of chains, as nodes, polygons and names: their numbers in choices, and the order in which they first appear.
use Rattle.tl_number.proofs.Common.{AllContained, Among, Bool, Chain, County, DirectedChain, IsKeyOrder, IsTrue, Known, List, Option, Ordering, PolygonKey, Renumbering, Some, [], all_among, among-get, among-pieces, among-unpieces, among_known, ap, append-nil, ap₂, arith, at_places, chain_feats, chain_nodes, chain_nodes-renumbered, chain_polygons, chain_polygons-renumbered, contains, directed_chain, false, false_from_ne_true, false≢true, feats, feats_in_order, filter, first_open, first_seen, flat_map, flat_map-map, from_first_seen, from_placed, group_at, group_of, grouped, grouped_map, has_new_at, image, image-numbered, image-under_cenid, is_kept, is_open, key_cmp, key_keys, key_on, keys_along, keys_at_open, known-left, known-permutation, known_is_among, length, length-map, lt-ltb, ltb-true, map, map-at_places, map-map, names_renamed, nat_cmp, nat_keys, nodes_along, nodes_from_placed, nodes_to_placed, none_past, numbered_from, option_map, option_to_list, or_left, other_way, place_in, placed, polygons_along, polygons_from_placed, polygons_in_order, polygons_to_placed, range_with_len, refl, renumbered, rights-numbered_from, slice_get, slice_get-map, subst, sym, times, to_filter, to_first_seen, true, turned, unwrap_or, ℕ, ◌++◌, ◌+◌, ◌∙◌, ◌≡◌}
use Rattle.tl_number.proofs.Ties.Keys.{AreAlike, alike_itself, fixed_before, groups_at, groups_listed, swapped_alike, turned_alike}
use Rattle.tl_number.proofs.Ties.ComparedChoices.{ComparedChoices, IsKeptPart, arranges_in, cenid_kept, chains_at, count_in, directed_in, fixed_there, length_at, new_in, order_in, places_in, read_in, whole_in}
use Rattle.tl_number.proofs.Ties.Ranks.{AreReordered, IsKeptEarlier, in_filtered, in_range, masked_by, next_cmp, places_alike, reordered_all, reordered_back, reordered_then, same_place, same_wanted, to_filtered}
use Rattle.tl_number.proofs.Ties.WantedMoves.{AreEarlier, all_kept, all_moved, first_earlier, kept_keys, kept_there, wanted_earlier}
use Rattle.tl_number.proofs.Names.NamePlaces.{feats_permuted}
use Rattle.tl_number.proofs.Ties.ListsAlike.{among_filtered}
use Rattle.tl_number.proofs.Ties.Places.{covered_among}
use Rattle.arranged_county.proofs.Views.ViewTables.{keys_paired, nodes_paired}
use Rattle.canonical_form.proofs.Sameness.CarriedCounty.{feats-turned}

-- The keys of the chains of a choice.
module _ (c : ComparedChoices) (i : ℕ) {K : Type 0} (keys : Chain → List K) where
  abbrev pub along_in : List (List K)
  along_in = keys_along keys c.county (directed_in c i)

  abbrev pub keys_of_chain : Chain → List K
  keys_of_chain x = keys x ++ []

  -- they are read chain by chain
  pub keys_read : along_in ≡ map keys_of_chain (chains_at c i)
  keys_read = sym (map-map (λ x. flat_map keys (option_to_list x)) (directed_chain c.county) (directed_in c i))
      ∙ ap (map (λ x. flat_map keys (option_to_list x))) (read_in c i) ∙ map-map (λ x. flat_map keys (option_to_list x)) Some (chains_at c i)

  pub keys_together : grouped along_in ≡ flat_map keys_of_chain (chains_at c i)
  keys_together = ap grouped keys_read ∙ grouped_map keys_of_chain (chains_at c i)

  pub keys_placed : grouped along_in ≡ flat_map (λ (entry : ℕ × Chain). keys entry.1) (placed c.county (order_in c i))
  keys_placed = keys_together ∙ (λ j. flat_map (λ x. append-nil (keys x) j) (chains_at c i))
      ∙ sym (sym (flat_map-map keys (λ (entry : ℕ × Chain). entry.1) (numbered_from 1 (chains_at c i)))
      ∙ ap (flat_map keys) (rights-numbered_from 1 (chains_at c i)))

  -- at each place stand the keys of its chain
  pub group_read : (place : ℕ) → group_at along_in place ≡ unwrap_or (option_map keys_of_chain (slice_get (chains_at c i) place)) []
  group_read place = ap (λ groups. group_at groups place) keys_read
      ∙ ap (λ (g : Option (List K)). unwrap_or g []) (slice_get-map keys_of_chain (chains_at c i) place)

  pub group_chain : (place : ℕ) (x : Chain) → slice_get (chains_at c i) place ≡ Some x → group_at along_in place ≡ keys x ++ []
  group_chain place x e = group_read place ∙ ap (λ o. unwrap_or (option_map keys_of_chain o) []) e

  -- at a fixed place they are those in the base arrangement
  pub group_fixed : (place : ℕ) → is_open c.still.places place ≡ false
      → group_at along_in place ≡ group_at (keys_along keys c.county c.still.by_shape) place
  group_fixed place fixed = ap (λ (g : Option (List K)). unwrap_or g []) (slice_get-map keys_of (directed_in c i) place
      ∙ ap (option_map keys_of) (fixed_there c i place fixed) ∙ sym (slice_get-map keys_of c.still.by_shape place))
    where
      keys_of : DirectedChain → List K
      keys_of directed = flat_map keys (option_to_list (directed_chain c.county directed))

-- the keys of the chains of a choice by first appearance
abbrev pub seen_in : {K : Type 0} → (K → K → Ordering) → (Chain → List K) → ComparedChoices → ℕ → List K
seen_in cmp keys c i = first_seen cmp (grouped (keys_along keys c.county (directed_in c i)))

module _ {K : Type 0} {cmp : K → K → Ordering} (o : IsKeyOrder cmp) (c : ComparedChoices) (i : ℕ) (keys : Chain → List K) (k : K) where
  -- a key of a chain is one of them
  pub chain_seen : (place : ℕ) (x : Chain) → slice_get (chains_at c i) place ≡ Some x → Known cmp (keys x) k → Known cmp (seen_in cmp keys c i) k
  chain_seen place x e h =
      to_first_seen o (grouped (along_in c i keys)) k (subst (λ ks. Known cmp ks k) (sym (keys_together c i keys))
      (among_known o k (flat_map (keys_of_chain c i keys) (chains_at c i)) (among-pieces (keys_of_chain c i keys) x k (chains_at c i)
      (among-get (chains_at c i) place x e) (known_is_among o k (keys x ++ []) (known-left o k (keys x) [] h)))))

  -- they are the keys of the placed chains
  abbrev placed_keys : List K
  placed_keys = flat_map (λ (entry : ℕ × Chain). keys entry.1) (placed c.county (order_in c i))

  pub seen_placed : Known cmp (seen_in cmp keys c i) k → Known cmp placed_keys k
  seen_placed h = from_first_seen o placed_keys k (subst (λ ks. Known cmp (first_seen cmp ks) k) (keys_placed c i keys) h)

  pub placed_seen : Known cmp placed_keys k → Known cmp (seen_in cmp keys c i) k
  placed_seen h = subst (λ ks. Known cmp (first_seen cmp ks) k) (sym (keys_placed c i keys)) (to_first_seen o placed_keys k h)

-- A kind of keys: the keys of a chain, whichever way it runs; the new key of each, and its number, which determines the new key; all keys
-- of the county; and the list of all keys in the order of a choice, where numbers are places, counted from 1.
pub record KeyKind {K : Type 0} (cmp : K → K → Ordering) : Type 0 where
  pub order : IsKeyOrder cmp
  pub keys : Chain → List K
  pub turned_keys : (x : Chain) → AreAlike cmp (keys (turned x)) (keys x)
  pub new : Renumbering → K → K
  pub number : Renumbering → K → ℕ
  pub all : County → List K
  pub list : ComparedChoices → ℕ → List K
  pub renumbered_keys : (r : Renumbering) (x : Chain) → keys (renumbered r x) ≡ map (new r) (keys x)
  pub in_all : (c : ComparedChoices) (i : ℕ) (k : K) → Known cmp (seen_in cmp keys c i) k → Known cmp (all c.county) k
  pub listed : (c : ComparedChoices) (i : ℕ) (k : K) → Known cmp (all c.county) k → Known cmp (list c i) k
  pub number_is : (c : ComparedChoices) (i : ℕ) (k : K) → Known cmp (list c i) k → number (new_in c i) k ≡ 1 + place_in cmp (list c i) k
  pub numbered : (c : ComparedChoices) (i j : ℕ) (k : K) → number (new_in c i) k ≡ number (new_in c j) k → new (new_in c i) k ≡ new (new_in c j) k

-- ---- nodes

abbrev pub new_node : Renumbering → ℕ → ℕ
new_node r = image nat_cmp r.nodes

abbrev pub node_kind : KeyKind nat_cmp
node_kind = record {
  order = nat_keys;
  keys = chain_nodes;
  turned_keys = λ x. swapped_alike nat_keys (option_to_list x.end_node) (option_to_list x.start_node);
  new = new_node;
  number = new_node;
  all = λ county. nodes_along county.chains;
  list = seen_in nat_cmp chain_nodes;
  renumbered_keys = chain_nodes-renumbered;
  in_all = λ c i k h. nodes_from_placed c.county (order_in c i) c.is (arranges_in c i) k (seen_placed nat_keys c i chain_nodes k h);
  listed = λ c i k h. placed_seen nat_keys c i chain_nodes k (nodes_to_placed c.county (order_in c i) c.is (arranges_in c i) k h);
  number_is = λ c i k h. ap (λ pairs. image nat_cmp pairs k) (sym (nodes_paired c.county (directed_in c i) c.is (whole_in c i)
      (seen_in nat_cmp chain_nodes c i) (ap (first_seen nat_cmp) (keys_placed c i chain_nodes))))
      ∙ image-numbered (seen_in nat_cmp chain_nodes c i) k h;
  numbered = λ c i j k e. e;
}

-- ---- polygons, which keep their CENIDs

abbrev pub new_polygon : Renumbering → PolygonKey → PolygonKey
new_polygon r = image key_cmp r.polygons

abbrev pub polygon_number : Renumbering → PolygonKey → ℕ
polygon_number r k = (new_polygon r k).1

-- they are seen in the choice's order
pub polygons_seen : (c : ComparedChoices) (i : ℕ) → seen_in key_cmp chain_polygons c i ≡ polygons_in_order c.county (order_in c i)
polygons_seen c i = ap (first_seen key_cmp) (keys_placed c i chain_polygons)

abbrev pub polygon_kind : KeyKind key_cmp
polygon_kind = record {
  order = key_keys;
  keys = chain_polygons;
  turned_keys = λ x. swapped_alike key_keys (key_on x.right) (key_on x.left);
  new = new_polygon;
  number = polygon_number;
  all = λ county. polygons_along county.chains;
  list = seen_in key_cmp chain_polygons;
  renumbered_keys = chain_polygons-renumbered;
  in_all = λ c i k h. polygons_from_placed c.county (order_in c i) c.is (arranges_in c i) k (seen_placed key_keys c i chain_polygons k h);
  listed = λ c i k h. placed_seen key_keys c i chain_polygons k (polygons_to_placed c.county (order_in c i) c.is (arranges_in c i) k h);
  number_is = λ c i k h. ap (λ (p : PolygonKey). p.1) (ap (λ pairs. image key_cmp pairs k) (sym (keys_paired c.county (directed_in c i) c.is
      (whole_in c i) (seen_in key_cmp chain_polygons c i) (polygons_seen c i)))
      ∙ image-under_cenid (seen_in key_cmp chain_polygons c i) k h);
  numbered = λ c i j k e. ap₂ (λ (cenid : List ℕ) (polyid : ℕ). (cenid, polyid)) (cenid_kept c i k ∙ sym (cenid_kept c j k)) e;
}

-- ---- names

abbrev pub new_name : Renumbering → ℕ → ℕ
new_name r = image nat_cmp r.names

-- a name of a chain is one of the county
pub name_known : (c : ComparedChoices) (i k : ℕ) → Known nat_cmp (seen_in nat_cmp chain_feats c i) k → Known nat_cmp (feats c.county) k
name_known c i k h =
    let chains : List (ℕ × Chain) = placed c.county (order_in c i) in
    let named = among-unpieces (λ (entry : ℕ × Chain). chain_feats entry.1) k chains
    (known_is_among nat_keys k (flat_map (λ (entry : ℕ × Chain). chain_feats entry.1) chains) (seen_placed nat_keys c i chain_feats k h)) in
    let own = from_placed c.county (order_in c i) c.is (arranges_in c i) named.0 named.1 in
    ltb-true 0 (times nat_cmp k (feats c.county)) (all_among (λ f. IsTrue (contains nat_cmp f (feats c.county))) k own.0.1.feats
    (all_among (λ (entry : ℕ × Chain). AllContained (feats c.county) entry.1.feats) own.0 c.county.chains c.is.closed.names own.1)
    (subst (Among k) (feats-turned own.2.0 own.0.1) (subst (λ x. Among k (chain_feats x)) own.2.1 named.2)))

abbrev pub name_kind : KeyKind nat_cmp
name_kind = record {
  order = nat_keys;
  keys = chain_feats;
  turned_keys = λ x. alike_itself nat_keys x.feats;
  new = new_name;
  number = new_name;
  all = feats;
  list = λ c i. feats_in_order c.county (directed_in c i);
  renumbered_keys = λ r x. refl;
  in_all = name_known;
  listed = λ c i k h. known-permutation nat_keys k (feats_in_order c.county (directed_in c i)) (feats c.county)
      (feats_permuted c.county (directed_in c i) c.is (whole_in c i)) h;
  number_is = λ c i k h. ap (λ pairs. image nat_cmp pairs k) (names_renamed c.county (order_in c i) c.is (arranges_in c i))
      ∙ image-numbered (feats_in_order c.county (directed_in c i)) k h;
  numbered = λ c i j k e. e;
}

-- ---- two choices of a county and of its small county

-- Numbers of keys in two choices. Two wanted keys compare alike in both counties; any other key has one number in both choices, in each county
-- that has it.
pub record AreNumberedAlike {K : Type 0} {cmp : K → K → Ordering} (kind : KeyKind cmp) (wanted : List K) (whole small : ComparedChoices) (n m : ℕ)
    : Type 0 where
  pub wanted_alike : (j k : K) → contains cmp j wanted ≡ true → contains cmp k wanted ≡ true → Known cmp (kind.all small.county) j
      → Known cmp (kind.all small.county) k
      → nat_cmp (kind.number (new_in whole n) j) (kind.number (new_in whole m) k) ≡ nat_cmp (kind.number (new_in small n) j) (kind.number (new_in small m) k)
  pub stay : (k : K) → contains cmp k wanted ≡ false → Known cmp (kind.all whole.county) k → kind.number (new_in whole n) k ≡ kind.number (new_in whole m) k
  pub small_stay : (k : K) → contains cmp k wanted ≡ false → Known cmp (kind.all small.county) k
      → kind.number (new_in small n) k ≡ kind.number (new_in small m) k

-- If the lists of keys differ in wanted ones alone, and both counties have these in one order, numbers compare alike.
module _ {K : Type 0} {cmp : K → K → Ordering} (kind : KeyKind cmp) (wanted_keys : List K) where
  abbrev is_wanted : K → Bool
  is_wanted k = contains cmp k wanted_keys

  abbrev pub AreMasked : ComparedChoices → Type 0
  AreMasked c = (n m : ℕ) → masked_by is_wanted (kind.list c n) ≡ masked_by is_wanted (kind.list c m)

  module _ (c : ComparedChoices) (masked : AreMasked c) (n m : ℕ) where
    wanted_compare : (j k : K) → is_wanted j ≡ true → is_wanted k ≡ true → Known cmp (kind.list c n) j → Known cmp (kind.list c m) k
        → nat_cmp (kind.number (new_in c n) j) (kind.number (new_in c m) k)
        ≡ nat_cmp (place_in cmp (filter is_wanted (kind.list c n)) j) (place_in cmp (filter is_wanted (kind.list c m)) k)
    wanted_compare j k e f h l =
        ap₂ nat_cmp (kind.number_is c n j h) (kind.number_is c m k l) ∙ next_cmp (place_in cmp (kind.list c n) j) (place_in cmp (kind.list c m) k)
        ∙ places_alike kind.order is_wanted (kind.list c n) (kind.list c m) (masked n m) j k e f

    others_stay : (k : K) → is_wanted k ≡ false → Known cmp (kind.all c.county) k → kind.number (new_in c n) k ≡ kind.number (new_in c m) k
    others_stay k e h =
        kind.number_is c n k (kind.listed c n k h)
        ∙ ap (λ p. 1 + p) (same_place kind.order is_wanted (kind.list c n) (kind.list c m) (masked n m) k e)
        ∙ sym (kind.number_is c m k (kind.listed c m k h))

  pub numbered_alike : (whole small : ComparedChoices) → AreMasked whole → AreMasked small
      → ((n : ℕ) → filter is_wanted (kind.list whole n) ≡ filter is_wanted (kind.list small n))
      → (n m : ℕ) → AreNumberedAlike kind wanted_keys whole small n m
  numbered_alike whole small masked small_masked same n m = record {
    wanted_alike = λ j k e f h l.
        wanted_compare whole masked n m j k e f (also n j e (kind.listed small n j h)) (also m k f (kind.listed small m k l))
        ∙ ap₂ (λ xs ys. nat_cmp (place_in cmp xs j) (place_in cmp ys k)) (same n) (same m)
        ∙ sym (wanted_compare small small_masked n m j k e f (kind.listed small n j h) (kind.listed small m k l));
    stay = others_stay whole masked n m;
    small_stay = others_stay small small_masked n m;
  } where
    also : (i : ℕ) (k : K) → is_wanted k ≡ true → Known cmp (kind.list small i) k → Known cmp (kind.list whole i) k
    also i k e h = (in_filtered kind.order is_wanted (kind.list whole i) k
        (subst (λ ks. Known cmp ks k) (sym (same i)) (to_filtered kind.order is_wanted (kind.list small i) k h e))).0

-- ---- in two choices keys first appear in the same order, except for wanted ones; in a county and in its small county

-- Keys by first appearance in the choices of a county and of its small county: in each county two choices differ in wanted keys alone, both
-- counties have these in one order, and all keys of chains at open places are there.
pub record AreSeenAlike {K : Type 0} {cmp : K → K → Ordering} (kind : KeyKind cmp) (wanted_keys : List K) (whole small : ComparedChoices) : Type 0 where
  pub reordered : (n m : ℕ) → AreReordered kind.order (λ k. contains cmp k wanted_keys) (seen_in cmp kind.keys whole n) (seen_in cmp kind.keys whole m)
  pub small_reordered : (n m : ℕ)
      → AreReordered kind.order (λ k. contains cmp k wanted_keys) (seen_in cmp kind.keys small n) (seen_in cmp kind.keys small m)
  pub same : (n : ℕ) → filter (λ k. contains cmp k wanted_keys) (seen_in cmp kind.keys whole n)
      ≡ filter (λ k. contains cmp k wanted_keys) (seen_in cmp kind.keys small n)
  pub opened_seen : (n : ℕ) (k : K) → Known cmp (keys_at_open kind.keys whole.county whole.still) k → Known cmp (seen_in cmp kind.keys whole n) k
  pub opened_small : (n : ℕ) (k : K) → Known cmp (keys_at_open kind.keys whole.county whole.still) k → Known cmp (seen_in cmp kind.keys small n) k

module _ {K : Type 0} {cmp : K → K → Ordering} (kind : KeyKind cmp) (c : ComparedChoices) where
  abbrev opens : ℕ → Bool
  opens = is_open c.still.places

  abbrev by_shape : List DirectedChain
  by_shape = c.still.by_shape

  -- the keys of a directed chain
  abbrev keys_of : DirectedChain → List K
  keys_of directed = flat_map kind.keys (option_to_list (directed_chain c.county directed))

  -- the keys at a place
  abbrev keys_there : List DirectedChain → ℕ → List K
  keys_there arrangement = group_at (keys_along kind.keys c.county arrangement)

  -- the keys at places that pass a test
  abbrev tested : (ℕ → Bool) → List DirectedChain → List K
  tested test arrangement = kept_keys test keys_of 0 arrangement

  read_at : (test : ℕ → Bool) (arrangement : List DirectedChain)
      → tested test arrangement ≡ flat_map (keys_there arrangement) (filter test (range_with_len 0 (length arrangement)))
  read_at test arrangement = kept_there test keys_of (keys_there arrangement) 0 arrangement
      (λ i x e. ap (keys_there arrangement) (let t : 0 + i ≡ i = omega arith in t) ∙ group_of keys_of arrangement i x e)

  read_all : (n : ℕ) → tested (λ p. true) (directed_in c n) ≡ grouped (along_in c n kind.keys)
  read_all n = all_kept keys_of 0 (directed_in c n) ∙ sym (grouped_map keys_of (directed_in c n))

  -- those at places still open
  read_open : tested opens by_shape ≡ keys_at_open kind.keys c.county c.still
  read_open = read_at opens by_shape ∙ sym (grouped_map (keys_there by_shape) _)

  -- Choices, read at the places that pass a test.
  module _ (wanted : K → Bool) (keep : ℕ → Bool) (open_kept : (place : ℕ) → opens place ≡ true → keep place ≡ true)
      (earlier : AreEarlier kind.order keys_of opens keep open_kept wanted [] 0 by_shape) where
    abbrev seen : List DirectedChain → List K
    seen arrangement = first_seen cmp (tested keep arrangement)

    from_shapes : (n : ℕ) → AreReordered kind.order wanted (seen by_shape) (seen (directed_in c n))
    from_shapes n = (all_moved kind.order keys_of opens keep open_kept wanted other_way
        (turned_alike c.county kind.order kind.keys kind.turned_keys) c.still.places by_shape (c.digits n) c.inside
        (covered_among c.still.places c.still.places (λ place e. e)) earlier).reordered [] (λ k h. h)

    between : (n m : ℕ) → AreReordered kind.order wanted (seen (directed_in c n)) (seen (directed_in c m))
    between n m = reordered_then kind.order wanted _ _ _ (reordered_back kind.order wanted _ _ (from_shapes n)) (from_shapes m)

    -- the keys at open places are among them
    opened_between : (n : ℕ) (k : K) → Known cmp (keys_at_open kind.keys c.county c.still) k → Known cmp (seen (directed_in c n)) k
    opened_between n k h =
        let along : ℕ → List K = keys_there by_shape in
        let places : List ℕ = range_with_len 0 (length by_shape) in
        let there = among-unpieces along k (filter opens places)
        (known_is_among kind.order k _ (subst (λ ks. Known cmp ks k) (grouped_map along (filter opens places)) h)) in
        let place = among_filtered opens there.0 places there.1 in
        ((from_shapes n).alike k).0 (to_first_seen kind.order (tested keep by_shape) k
        (subst (λ ks. Known cmp ks k) (sym (read_at keep by_shape)) (among_known kind.order k (flat_map along (filter keep places))
        (among-pieces along there.0 k (filter keep places) (to_filter keep there.0 places place.0 (open_kept there.0 place.1)) there.2))))

  -- A key that doesn't first appear at a place still open has one place in all choices.
  pub unopened_stays : (n m : ℕ) (k : K) → contains cmp k (first_open cmp c.still.places (keys_along kind.keys c.county by_shape)) ≡ false
      → place_in cmp (seen_in cmp kind.keys c n) k ≡ place_in cmp (seen_in cmp kind.keys c m) k
  unopened_stays n m k e =
      same_place kind.order opened (seen_in cmp kind.keys c n) (seen_in cmp kind.keys c m)
      (reordered_all kind.order opened (seen_in cmp kind.keys c n) (seen_in cmp kind.keys c m)
      (rw (← read_all n, ← read_all m) (between opened (λ p. true) (λ p f. refl)
      (first_earlier kind.order keys_of opens (λ p. true) (λ p f. refl) opened (λ p. refl) [] [] 0 by_shape (λ j f h. h)
      (λ j h. lt-ltb 0 (times cmp j (first_open cmp c.still.places (keys_along kind.keys c.county by_shape))) h)) n m))) k e
    where
      opened : K → Bool
      opened j = contains cmp j (first_open cmp c.still.places (keys_along kind.keys c.county by_shape))

  -- If all keys at open places are wanted:
  module _ (wanted_keys : List K) (opened_wanted : (k : K) → Known cmp (keys_at_open kind.keys c.county c.still) k → Known cmp wanted_keys k) where
    abbrev wanted : K → Bool
    wanted k = contains cmp k wanted_keys

    open_wanted : (k : K) → Known cmp (tested opens by_shape) k → wanted k ≡ true
    open_wanted k h = lt-ltb 0 (times cmp k wanted_keys) (opened_wanted k (subst (λ ks. Known cmp ks k) read_open h))

    open_earlier : (keep : ℕ → Bool) (open_kept : (place : ℕ) → opens place ≡ true → keep place ≡ true)
        → AreEarlier kind.order keys_of opens keep open_kept wanted [] 0 by_shape
    open_earlier keep open_kept = wanted_earlier kind.order keys_of opens keep open_kept wanted [] 0 by_shape open_wanted

    -- Each key of a chain at an open place of a choice is wanted.
    pub opened_in : (n place : ℕ) (x : Chain) → opens place ≡ true → slice_get (chains_at c n) place ≡ Some x → (k : K) → Known cmp (kind.keys x) k
        → wanted k ≡ true
    opened_in n place x f e k h =
        let places : List ℕ = range_with_len 0 (length (directed_in c n)) in
        let below = none_past (chains_at c n) place x e in
        let as_many = length_at c n ∙ sym (count_in c n) in
        let there : Known cmp (flat_map (keys_there (directed_in c n)) (filter opens places)) k =
        among_known kind.order k _ (among-pieces (keys_there (directed_in c n)) place k (filter opens places)
        (to_filter opens place places (in_range (length (directed_in c n)) place (omega (arith, below, as_many))) f)
        (known_is_among kind.order k _ (subst (λ ks. Known cmp ks k) (sym (group_chain c n kind.keys place x e))
        (known-left kind.order k (kind.keys x) [] h)))) in
        open_wanted k (from_first_seen kind.order (tested opens by_shape) k
        (((from_shapes wanted opens (λ p g. g) (open_earlier opens (λ p g. g)) n).alike k).1
        (to_first_seen kind.order (tested opens (directed_in c n)) k
        (subst (λ ks. Known cmp ks k) (sym (read_at opens (directed_in c n))) there))))

    -- Two choices differ in wanted keys alone, and all keys at open places are there.
    pub reordered_in : (n m : ℕ) → AreReordered kind.order wanted (seen_in cmp kind.keys c n) (seen_in cmp kind.keys c m)
    reordered_in n m = rw (← read_all n, ← read_all m) (between wanted (λ p. true) (λ p e. refl) (open_earlier (λ p. true) (λ p e. refl)) n m)

    pub opened_seen_in : (n : ℕ) (k : K) → Known cmp (keys_at_open kind.keys c.county c.still) k → Known cmp (seen_in cmp kind.keys c n) k
    opened_seen_in n k h = rw (← read_all n) (opened_between wanted (λ p. true) (λ p e. refl) (open_earlier (λ p. true) (λ p e. refl)) n k h)

    -- A small county, whose chains in a choice are those at kept places; each place with a new key is kept.
    module _ (new_kept : (place : ℕ) → has_new_at cmp c.still.places wanted_keys (keys_along kind.keys c.county by_shape) place ≡ true
        → is_kept c.county c.shapes c.still place ≡ true) (small : ComparedChoices) (part : IsKeptPart c small (is_kept c.county c.shapes c.still)) where
      abbrev kept : ℕ → Bool
      kept = is_kept c.county c.shapes c.still

      -- the keys at kept places
      read_kept : (n : ℕ) → tested kept (directed_in c n) ≡ flat_map (keys_there (directed_in c n)) (places_in c kept)
      read_kept n = read_at kept (directed_in c n)
          ∙ ap (λ count. flat_map (keys_there (directed_in c n)) (filter kept (range_with_len 0 count))) (count_in c n)

      -- are all keys along its chains
      read_small : (n : ℕ) → tested kept (directed_in c n) ≡ grouped (along_in small n kind.keys)
      read_small n =
          read_kept n ∙ sym (grouped_map (keys_there (directed_in c n)) (places_in c kept)) ∙ sym (groups_at (along_in c n kind.keys) (places_in c kept))
          ∙ ap grouped (ap (λ groups. at_places groups (places_in c kept)) (keys_read c n kind.keys)
          ∙ sym (map-at_places (keys_of_chain c n kind.keys) (chains_at c n) (places_in c kept))
          ∙ ap (map (keys_of_chain c n kind.keys)) (sym (part.chains n)) ∙ sym (keys_read small n kind.keys))

      -- wanted keys are in one order along all chains and along those at kept places
      same_keys : (n : ℕ) → filter wanted (seen_in cmp kind.keys c n) ≡ filter wanted (first_seen cmp (tested kept (directed_in c n)))
      same_keys n =
          ap (λ ks. filter wanted (first_seen cmp ks)) (ap grouped (sym (groups_listed here))
          ∙ grouped_map (group_at here) (range_with_len 0 (length here)) ∙ ap (λ count. flat_map (group_at here) (range_with_len 0 count))
          (length-map (directed_in c n) keys_of ∙ count_in c n))
          ∙ same_wanted kind.order wanted kept (group_at here) kept_earlier (length by_shape)
          ∙ ap (λ ks. filter wanted (first_seen cmp ks)) (sym (read_kept n))
        where
          here : List (List K)
          here = along_in c n kind.keys

          -- a place that is left out is fixed, and has no new key
          kept_earlier : (place : ℕ) → kept place ≡ false → (k : K) → Known cmp (group_at here place) k → wanted k ≡ true
              → IsKeptEarlier kind.order kept (group_at here) place k
          kept_earlier place out k h is_wanted =
              let along : List (List K) = keys_along kind.keys c.county by_shape in
              let nothing = false_from_ne_true (has_new_at cmp c.still.places wanted_keys along place) (λ e. false≢true (sym out ∙ new_kept place e)) in
              let first =
              fixed_before kind.order c.still.places along wanted_keys place nothing k is_wanted
              (subst (λ ks. Known cmp ks k) (group_fixed c n kind.keys place (part.fixed place out)) h) in
              record {
                before = first.0.first;
                less = first.1;
                kept = new_kept first.0.first first.0.new_there;
                here = subst (λ ks. Known cmp ks k) (sym (group_fixed c n kind.keys first.0.first first.0.fixed)) first.0.here;
              }

      pub seen_alike : AreSeenAlike kind wanted_keys c small
      seen_alike =
          let open_kept = λ (p : ℕ) (e : opens p ≡ true). or_left (is_open c.shapes.places p) _ (c.opened p e) in
          let at_kept = open_earlier kept open_kept in
          record {
            reordered = reordered_in;
            small_reordered = λ n m. rw (← read_small n, ← read_small m) (between wanted kept open_kept at_kept n m);
            same = λ n. same_keys n ∙ ap (λ ks. filter wanted (first_seen cmp ks)) (read_small n);
            opened_seen = opened_seen_in;
            opened_small = λ n k h. rw (← read_small n) (opened_between wanted kept open_kept at_kept n k h);
          }
