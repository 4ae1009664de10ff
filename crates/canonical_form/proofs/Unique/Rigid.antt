-- Two arranged counties are equal if a renaming carries one onto another, keeps every TLID and turns nothing.
use Rattle.canonical_form.proofs.Common.{AllByRecursion, BodyP, Carries, Chain, County, IsArranged, IsCounty, IsPermutation, IsStrictlySortedBy, IsTrue, Known, List, None, Option, PolygonKey, Renumbering, Some, all_both, all_left, all_pieces, all_right, ap, carried_chain, carried_polygon, chain_nodes, chain_polygons, contains, false, image, key_cmp, key_keys, key_on, key_under, keys_known, known_all, ltb-true, map, map-id, map-map, map_agree_all, nat_cmp, nat_cmp_total, nat_keys, option_map, option_to_list, polygon_keys, polygons_along, refl, renumbered, renumbered_polygon, strict-map, strict-permutation, subst, sym, times, tlids, turned_if, turns, ℕ, ◌∙◌, ◌≡◌}
use Rattle.canonical_form.proofs.Unique.SameNumbers.{KeepsChains, kept_entry, nodes_kept, polygons_kept}
use Rattle.canonical_form.proofs.Unique.SameNames.{feats_kept, names_equal}
use Rattle.canonical_form.proofs.Unique.SameLandmarks.{landmarks_equal, links_equal}

node_fixed : (f : ℕ → ℕ) (o : Option ℕ) → AllByRecursion (λ n. n ≡ f n) (option_to_list o) → option_map f o ≡ o
node_fixed f None h = refl
node_fixed f (Some n) h = ap Some (sym h.0)

side_fixed : (r : Renumbering) (cenid : List ℕ) (polyid : Option ℕ)
    → AllByRecursion (λ k. k ≡ image key_cmp r.polygons k) (key_under cenid polyid)
    → renumbered_polygon r cenid polyid ≡ record { cenid = cenid; polyid = polyid }
side_fixed r cenid None h = refl
side_fixed r cenid (Some polyid) h = λ i. record { cenid = (sym h.0 i).0; polyid = Some (sym h.0 i).1 }

-- the condition for a chain to be its own image
abbrev IsFixed : Renumbering → ℕ × Chain → Type 0
IsFixed r e = AllByRecursion (λ y. image nat_cmp r.names y ≡ y) e.1.feats
    × (AllByRecursion (λ n. n ≡ image nat_cmp r.nodes n) (chain_nodes e.1)
    × AllByRecursion (λ k. k ≡ image key_cmp r.polygons k) (chain_polygons e.1))

chain_fixed : (r : Renumbering) (e : ℕ × Chain) → IsFixed r e → kept_entry r e ≡ e
chain_fixed r e h = λ i. (
  e.0,
  record e.1 {
    feats = (map_agree_all (image nat_cmp r.names) (λ y. y) (λ y. image nat_cmp r.names y ≡ y) (λ y s. s) e.1.feats h.0
        ∙ map-id e.1.feats) i;
    start_node = node_fixed (image nat_cmp r.nodes) e.1.start_node
        (all_left (λ n. n ≡ image nat_cmp r.nodes n) (option_to_list e.1.start_node) (option_to_list e.1.end_node) h.1.0) i;
    end_node = node_fixed (image nat_cmp r.nodes) e.1.end_node
        (all_right (λ n. n ≡ image nat_cmp r.nodes n) (option_to_list e.1.start_node) (option_to_list e.1.end_node) h.1.0) i;
    left = side_fixed r e.1.left.cenid e.1.left.polyid
        (all_left (λ k. k ≡ image key_cmp r.polygons k) (key_on e.1.left) (key_on e.1.right) h.1.1) i;
    right = side_fixed r e.1.right.cenid e.1.right.polyid
        (all_right (λ k. k ≡ image key_cmp r.polygons k) (key_on e.1.left) (key_on e.1.right) h.1.1) i;
  },
)

module _ (r : Renumbering) (a b : County) (h : Carries r a b) (wa : IsCounty a) (wb : IsCounty b) (ta : IsArranged a) (tb : IsArranged b)
  where
    -- if the chains are kept, everything is
    module _ (e : KeepsChains r a b) where
      chains_equal : a.chains ≡ b.chains
      chains_equal =
          let nodes : AllByRecursion (λ c. AllByRecursion (λ n. n ≡ image nat_cmp r.nodes n) (chain_nodes c.1)) a.chains =
          all_pieces (λ n. n ≡ image nat_cmp r.nodes n) (λ c. chain_nodes c.1) a.chains
          (nodes_kept r a b h wb.ascending wa.closed ta tb e) in
          let polygons : AllByRecursion (λ c. AllByRecursion (λ k. k ≡ image key_cmp r.polygons k) (chain_polygons c.1)) a.chains =
          all_pieces (λ k. k ≡ image key_cmp r.polygons k) (λ c. chain_polygons c.1) a.chains
          (polygons_kept r a b h wb.ascending wa.closed ta tb e) in
          let both : AllByRecursion (λ c. AllByRecursion (λ n. n ≡ image nat_cmp r.nodes n) (chain_nodes c.1)
          × AllByRecursion (λ k. k ≡ image key_cmp r.polygons k) (chain_polygons c.1)) a.chains =
          all_both (λ c. AllByRecursion (λ n. n ≡ image nat_cmp r.nodes n) (chain_nodes c.1))
          (λ c. AllByRecursion (λ k. k ≡ image key_cmp r.polygons k) (chain_polygons c.1)) a.chains nodes polygons in
          let all : AllByRecursion (IsFixed r) a.chains =
          all_both (λ c. AllByRecursion (λ y. image nat_cmp r.names y ≡ y) c.1.feats)
          (λ c. AllByRecursion (λ n. n ≡ image nat_cmp r.nodes n) (chain_nodes c.1)
          × AllByRecursion (λ k. k ≡ image key_cmp r.polygons k) (chain_polygons c.1)) a.chains
          (feats_kept r a b h wa.closed ta tb e) both in
          sym (e ∙ map_agree_all (kept_entry r) (λ c. c) (IsFixed r) (chain_fixed r) a.chains all ∙ map-id a.chains)

      -- each polygon is on a side, so none gets another number
      polygon_fixed : (k : PolygonKey) → Known key_cmp (polygon_keys a) k → image key_cmp r.polygons k ≡ k
      polygon_fixed k l =
          let known : Known key_cmp (polygons_along a.chains) k =
          ltb-true 0 (times key_cmp k (polygons_along a.chains))
          (known_all key_keys (λ j. IsTrue (contains key_cmp j (polygons_along a.chains))) (polygon_keys a) ta.on_sides k l) in
          sym (known_all key_keys (λ j. j ≡ image key_cmp r.polygons j) (polygons_along a.chains)
          (polygons_kept r a b h wb.ascending wa.closed ta tb e) k known)

      polygons_equal : a.polygons ≡ b.polygons
      polygons_equal =
          let same : map (carried_polygon r) a.polygons ≡ a.polygons =
          map_agree_all (carried_polygon r) (λ d. d) (λ d. Known key_cmp (polygon_keys a) d.0)
          (λ d k i. (polygon_fixed d.0 k i, d.1)) a.polygons (keys_known key_keys a.polygons) ∙ map-id a.polygons in
          strict-permutation key_keys.total (λ (d : PolygonKey × Option BodyP). d.0) a.polygons b.polygons
          (strict-map key_cmp (λ (d : PolygonKey × Option BodyP). d.0) a.polygons wa.ascending.polygons)
          (strict-map key_cmp (λ (d : PolygonKey × Option BodyP). d.0) b.polygons wb.ascending.polygons)
          (subst (λ ds. IsPermutation ds b.polygons) same h.polygons)

      pub kept_equal : a ≡ b
      kept_equal = λ i. record {
        chains = chains_equal i;
        names = names_equal r a b h wa.closed ta tb e i;
        polygons = polygons_equal i;
        landmarks = landmarks_equal r a b h wa.ascending wb.ascending wa.closed wb.closed ta tb polygon_fixed i;
        links = links_equal r a b h wa.ascending wb.ascending wa.closed wb.closed ta tb polygon_fixed i;
      }

    -- a renaming that keeps each TLID and turns nothing keeps the chains
    pub rigid : ((n : ℕ) → Known nat_cmp (tlids a) n → image nat_cmp r.chains n ≡ n)
        → ((n : ℕ) → Known nat_cmp (tlids a) n → turns r n ≡ false) → a ≡ b
    rigid keeps still =
        let same : map (carried_chain r) a.chains ≡ map (kept_entry r) a.chains =
        map_agree_all (carried_chain r) (kept_entry r) (λ c. Known nat_cmp (tlids a) c.0)
        (λ c k i. (keeps c.0 k i, ap (λ t. renumbered r (turned_if t c.1)) (still c.0 k) i)) a.chains (keys_known nat_keys a.chains) in
        let tl : map (λ (c : ℕ × Chain). c.0) (map (kept_entry r) a.chains) ≡ tlids a =
        map-map (λ (c : ℕ × Chain). c.0) (kept_entry r) a.chains in
        kept_equal (sym (strict-permutation nat_cmp_total (λ (c : ℕ × Chain). c.0) (map (kept_entry r) a.chains) b.chains
        (strict-map nat_cmp (λ (c : ℕ × Chain). c.0) (map (kept_entry r) a.chains)
        (subst (IsStrictlySortedBy nat_cmp) (sym tl) wa.ascending.chains))
        (strict-map nat_cmp (λ (c : ℕ × Chain). c.0) b.chains wb.ascending.chains)
        (subst (λ cs. IsPermutation cs b.chains) same h.chains)))
