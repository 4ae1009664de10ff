-- A renaming that carries takes a closed county to a closed one, and a whole one to a whole one.
use Rattle.canonical_form.proofs.Common.{AllByRecursion, AllContained, AllKeysContained, Among, ArePaired, Body7, BodyP, Bool, Carries, Chain, County, Fields8, IsClosed, IsKeyOrder, IsPermutation, IsTrue, IsWhole, Known, List, Option, Ordering, PolygonKey, Renumbering, all_among, all_map, all_permuted, all_weaker, among-map, among-permutation, among-pieces, among-swapped, among-turned, among-unmap, among-unpieces, among_known, carried_chain, carried_landmark, carried_link, carried_polygon, chain_nodes, chain_polygons, chain_polygons-renumbered, contains, each_from, false, feats, image, image-known, is_some, key_cmp, key_keys, key_on, known-permutation, known-permutation_to, known_is_among, lands, length, length-reverse, link_key, lt-ltb, ltb-true, map, nat_cmp, nat_keys, option_to_list, or_cases, or_left, or_right, polygon_keys, polygons_along, refl, rules, subst, sym, true, turned_if, turns, ℕ, ◌||◌, ◌≡◌, ◌≤◌}

-- a turn keeps the nodes and polygons of a chain, in both directions
pub nodes-turned : (n : ℕ) (b : Bool) (c : Chain) → Among n (chain_nodes c) → Among n (chain_nodes (turned_if b c))
nodes-turned n false c h = h
nodes-turned n true c h = among-swapped n (option_to_list c.start_node) (option_to_list c.end_node) h

pub nodes-unturned : (n : ℕ) (b : Bool) (c : Chain) → Among n (chain_nodes (turned_if b c)) → Among n (chain_nodes c)
nodes-unturned n false c h = h
nodes-unturned n true c h = among-swapped n (option_to_list c.end_node) (option_to_list c.start_node) h

pub polygons-unturned : (k : PolygonKey) (b : Bool) (c : Chain) → Among k (chain_polygons (turned_if b c)) → Among k (chain_polygons c)
polygons-unturned k false c h = h
polygons-unturned k true c h = among-swapped k (key_on c.right) (key_on c.left) h

pub feats-turned : (b : Bool) (c : Chain) → (turned_if b c).feats ≡ c.feats
feats-turned false c = refl
feats-turned true c = refl

points-turned : (b : Bool) (c : Chain) → length (turned_if b c).points ≡ length c.points
points-turned false c = refl
points-turned true c = length-reverse c.points

-- the image of a known number is known in the other county
pub paired_known : {K : Type 0} {cmp : K → K → Ordering} (o : IsKeyOrder cmp) (pairs : List (K × K)) (olds news : List K)
    → ArePaired pairs olds news → (k : K) → Known cmp olds k → Known cmp news (image cmp pairs k)
paired_known {K} {cmp} o pairs olds news h k l = search (rules, known-permutation_to, image-known, known-permutation)

-- what holds for elements holds for a permutation of their images
pub all_carried : {X Y : Type 0} (P : X → Type 0) (Q : Y → Type 0) (f : X → Y) → ((x : X) → P x → Q (f x)) → (xs : List X) (ys : List Y)
    → IsPermutation (map f xs) ys → AllByRecursion P xs → AllByRecursion Q ys
all_carried P Q f h xs ys p a = all_permuted Q (map f xs) ys p (all_map Q f xs (all_weaker P (λ x. Q (f x)) h xs a))

module _ (r : Renumbering) (a b : County) (h : Carries r a b) where
  new_chain : (d : ℕ × Chain) → Among d a.chains → Among (carried_chain r d) b.chains
  new_chain d m = among-permutation (carried_chain r d) (map (carried_chain r) a.chains) b.chains h.chains
      (among-map (carried_chain r) d a.chains m)

  new_name : (n : ℕ) → IsTrue (contains nat_cmp n (feats a)) → IsTrue (contains nat_cmp (image nat_cmp r.names n) (feats b))
  new_name n t = search (rules, lt-ltb, paired_known, nat_keys, ltb-true)

  new_key : (k : PolygonKey) → IsTrue (contains key_cmp k (polygon_keys a))
      → IsTrue (contains key_cmp (image key_cmp r.polygons k) (polygon_keys b))
  new_key k t = search (rules, lt-ltb, paired_known, key_keys, ltb-true)

  new_land : (n : ℕ) → IsTrue (contains nat_cmp n (lands a)) → IsTrue (contains nat_cmp (image nat_cmp r.lands n) (lands b))
  new_land n t = search (rules, lt-ltb, paired_known, nat_keys, ltb-true)

  names_contained : (d : ℕ × Chain) → AllContained (feats a) d.1.feats → AllContained (feats b) (carried_chain r d).1.feats
  names_contained d stands = search (rules, each_from, among-unmap, feats-turned, all_among, new_name)

  sides_contained : (d : ℕ × Chain) → AllKeysContained (polygon_keys a) (chain_polygons d.1)
      → AllKeysContained (polygon_keys b) (chain_polygons (carried_chain r d).1)
  sides_contained d stands = subst (AllKeysContained (polygon_keys b)) (sym (chain_polygons-renumbered r (turned_if (turns r d.0) d.1)))
      (all_map (λ k. IsTrue (contains key_cmp k (polygon_keys b))) (image key_cmp r.polygons) (chain_polygons (turned_if (turns r d.0) d.1))
      (each_from (λ k. IsTrue (contains key_cmp (image key_cmp r.polygons k) (polygon_keys b))) (chain_polygons (turned_if (turns r d.0) d.1))
      (λ k m. new_key k (all_among (λ j. IsTrue (contains key_cmp j (polygon_keys a))) k (chain_polygons d.1) stands
      (polygons-unturned k (turns r d.0) d.1 m)))))

  pub carried_closed : IsClosed a → IsClosed b
  carried_closed closed = record {
    names = all_carried (λ (e : ℕ × Chain). AllContained (feats a) e.1.feats) (λ (e : ℕ × Chain). AllContained (feats b) e.1.feats)
        (carried_chain r) names_contained a.chains b.chains h.chains closed.names;
    sides = all_carried (λ (e : ℕ × Chain). AllKeysContained (polygon_keys a) (chain_polygons e.1))
        (λ (e : ℕ × Chain). AllKeysContained (polygon_keys b) (chain_polygons e.1))
        (carried_chain r) sides_contained a.chains b.chains h.chains closed.sides;
    link_lands = all_carried (λ (l : Fields8). IsTrue (contains nat_cmp l.land (lands a)))
        (λ (l : Fields8). IsTrue (contains nat_cmp l.land (lands b)))
        (carried_link r) (λ l. new_land l.land) a.links b.links h.links closed.link_lands;
    link_polygons = all_carried (λ (l : Fields8). IsTrue (contains key_cmp (link_key l) (polygon_keys a)))
        (λ (l : Fields8). IsTrue (contains key_cmp (link_key l) (polygon_keys b)))
        (carried_link r) (λ l. new_key (link_key l)) a.links b.links h.links closed.link_polygons;
  }

  -- the renamed polygon of a side is on a side
  pub carried_side : (k : PolygonKey) → Known key_cmp (polygons_along a.chains) k
      → Known key_cmp (polygons_along b.chains) (image key_cmp r.polygons k)
  carried_side k l =
      let d = among-unpieces (λ (e : ℕ × Chain). chain_polygons e.1) k a.chains (known_is_among key_keys k (polygons_along a.chains) l) in
      let turned : Among k (chain_polygons (turned_if (turns r d.0.0) d.0.1)) = among-turned k (turns r d.0.0) d.0.1 d.2 in
      let new : Among (image key_cmp r.polygons k) (chain_polygons (carried_chain r d.0).1) =
      search (rules, chain_polygons-renumbered, among-map) in
      among_known key_keys (image key_cmp r.polygons k) (polygons_along b.chains)
      (among-pieces (λ (e : ℕ × Chain). chain_polygons e.1) (carried_chain r d.0) (image key_cmp r.polygons k) b.chains
      (new_chain d.0 d.1) new)

  polygon_whole : (k : PolygonKey) (body : Option BodyP) → IsTrue (is_some body || contains key_cmp k (polygons_along a.chains))
      → IsTrue (is_some body || contains key_cmp (image key_cmp r.polygons k) (polygons_along b.chains))
  polygon_whole k body t = search (rules, or_cases, or_left, or_right, lt-ltb, carried_side, ltb-true)

  pub carried_whole : IsWhole a → IsWhole b
  carried_whole whole = record {
    points = all_carried (λ (e : ℕ × Chain). 2 ≤ length e.1.points) (λ (e : ℕ × Chain). 2 ≤ length e.1.points) (carried_chain r)
        (λ e two. subst (λ n. 2 ≤ n) (sym (points-turned (turns r e.0) e.1)) two) a.chains b.chains h.chains whole.points;
    bodies = all_carried (λ (e : ℕ × List Body7). 1 ≤ length e.1) (λ (e : ℕ × List Body7). 1 ≤ length e.1) (carried_landmark r)
        (λ e some. some) a.landmarks b.landmarks h.landmarks whole.bodies;
    polygons = all_carried (λ (e : PolygonKey × Option BodyP). IsTrue (is_some e.1 || contains key_cmp e.0 (polygons_along a.chains)))
        (λ (e : PolygonKey × Option BodyP). IsTrue (is_some e.1 || contains key_cmp e.0 (polygons_along b.chains)))
        (carried_polygon r) (λ e. polygon_whole e.0 e.1) a.polygons b.polygons h.polygons whole.polygons;
  }
