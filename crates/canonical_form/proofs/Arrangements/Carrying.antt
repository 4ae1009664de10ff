-- The renaming of an arrangement carries the county onto the arranged county.
use Rattle.canonical_form.proofs.Common.{AllByRecursion, AllKeysContained, Among, ArePaired, Arrangement, Arranges, Body5, Body7, BodyP, Bool, Carries, Chain, County, IsApart, IsCounty, IsKeyOrder, IsPermutation, IsPermutation-map, IsPermutation-refl, IsPermutation-sym, IsPermutation-trans, IsTrue, Known, List, Option, Ordering, PolygonKey, all_among, all_everywhere, all_joined, all_known, all_map, all_uses, among-map, among-permutation, among-pieces, among-turned, among-unmap, among-unpieces, among_known, ap, apart-distinct, apart-permutation, apart-permutation_of, apart_from_sorted, arranged_tlids, carried_chain, carried_landmark, carried_link, carried_name, carried_polygon, chain_nodes, chain_polygons, chains_in_order, contains, entries_of, feats, flat_map, has_repeat, has_repeat-apart, image, images-lefts, in_order, in_order-is_permutation, key_cmp, key_keys, known-distinct, known-permutation_to, known_all, known_from_distinct, known_is_among, landmark_key, landmark_key_cmp, landmarks_in_order, lands, lefts, length, length-map, link_cmp, links_relinked, lt-ltb, ltb-true, map, map-map, name_key, name_key_cmp, names_in_order, nat_cmp, nat_keys, new_keys, nodes, nodes_along, nodes_in_order, numbered, of_number-among, on, placed, polygon_keys, polygons_along, polygons_in_order, refl, rights, rights-numbered_from, subst, sym, times, tlids, turned_if, turned_tlids, under_cenid, up_to, ℕ, ◌∙◌, ◌≡◌}
use Rattle.canonical_form.proofs.Sameness.CarriedCounty.{nodes-turned, nodes-unturned, polygons-unturned}
use Rattle.canonical_form.proofs.Numbering.FirstSeen.{first_seen-apart, from_first_seen, to_first_seen}
use Rattle.canonical_form.proofs.Arrangements.Placed.{arrangement_apart, carried_placed, lefts-numbered, order-permutation, placed_tlids, rights-numbered, turned_apart, turned_known}
use Rattle.canonical_form.proofs.Lists.Counting.{up_to-strict}
use Rattle.canonical_form.proofs.Unique.SameNumbers.{kept_entry, nodes_along-kept}
use Rattle.county_chart.specs.Renumbering.{NumbersArePaired}
use Rattle.canonical_form.specs.Arrangement.{arranged, renaming_of}

pub permutation_of_equal : {X : Type 0} (xs ys : List X) → xs ≡ ys → IsPermutation xs ys
permutation_of_equal xs ys e = subst (IsPermutation xs) e (IsPermutation-refl xs)

-- distinct numbers, numbered in a list, have the images 1, 2, 3, ..
pub images-numbered : (keys : List ℕ) → IsApart nat_cmp keys → map (image nat_cmp (numbered keys)) keys ≡ up_to (length keys)
images-numbered keys a =
    ap (map (image nat_cmp (numbered keys))) (sym (lefts-numbered keys))
    ∙ images-lefts nat_keys (numbered keys) (subst (IsApart nat_cmp) (sym (lefts-numbered keys)) a)
    ∙ rights-numbered keys

-- images of keys that are known elsewhere are known among the images there
known_mapped : {J K : Type 0} {by : J → J → Ordering} {cmp : K → K → Ordering} (p : IsKeyOrder by) (o : IsKeyOrder cmp) (f : J → K) (xs ys : List J)
    → ((j : J) → Known by xs j → Known by ys j) → (k : K) → Known cmp (map f xs) k → Known cmp (map f ys) k
known_mapped p o f xs ys h k l =
    let j = among-unmap f k xs (known_is_among o k (map f xs) l) in
    among_known o k (map f ys) (subst (λ i. Among i (map f ys)) (sym j.2)
    (among-map f j.0 ys (known_is_among p j.0 ys (h j.0 (among_known p j.0 xs j.1)))))

module _ (county : County) (arrangement : Arrangement) (is : IsCounty county) (arranges : Arranges arrangement county) where
  -- each placed chain is one of the county, turned or not
  pub from_placed : (entry : ℕ × Chain) → Among entry (placed county arrangement)
      → (e : ℕ × Chain) × Among e county.chains × ((b : Bool) × (entry.1 ≡ turned_if b e.1))
  from_placed entry m =
      let bodies : List Chain =
      flat_map (λ (s : ℕ × Bool). map (λ (e : ℕ × Chain). turned_if s.1 e.1) (entries_of county.chains s.0)) arrangement in
      let body : Among entry.1 bodies =
      subst (Among entry.1) (rights-numbered_from 1 bodies) (among-map (λ (e : ℕ × Chain). e.1) entry (placed county arrangement) m) in
      let s = among-unpieces (λ (s : ℕ × Bool). map (λ (e : ℕ × Chain). turned_if s.1 e.1)
      (entries_of county.chains s.0)) entry.1 arrangement body in
      let e = among-unmap (λ (e : ℕ × Chain). turned_if s.0.1 e.1) entry.1 (entries_of county.chains s.0.0) s.2 in (
        e.0,
        all_among (λ x. Among x county.chains) e.0 (entries_of county.chains s.0.0)
            (of_number-among (λ (x : ℕ × Chain). x.0) s.0.0 county.chains) e.1,
        (s.0.1, e.2),
      )

  -- and each chain of the county is placed
  to_placed : (e : ℕ × Chain) → Among e county.chains
      → (entry : ℕ × Chain) × Among entry (placed county arrangement) × ((b : Bool) × (entry.1 ≡ turned_if b e.1))
  to_placed e m =
      let bodies : List Chain =
      flat_map (λ (s : ℕ × Bool). map (λ (x : ℕ × Chain). turned_if s.1 x.1) (entries_of county.chains s.0)) arrangement in
      let ordered : Among e (chains_in_order county arrangement) =
      among-permutation e county.chains (chains_in_order county arrangement)
      (IsPermutation-sym (chains_in_order county arrangement) county.chains (order-permutation county arrangement is arranges)) m in
      let s = among-unpieces (λ (s : ℕ × Bool). entries_of county.chains s.0) e arrangement ordered in
      let body : Among (turned_if s.0.1 e.1) bodies =
      among-pieces (λ (t : ℕ × Bool). map (λ (x : ℕ × Chain). turned_if t.1 x.1) (entries_of county.chains t.0)) s.0
      (turned_if s.0.1 e.1) arrangement s.1 (among-map (λ (x : ℕ × Chain). turned_if s.0.1 x.1) e (entries_of county.chains s.0.0) s.2) in
      let entry = among-unmap (λ (x : ℕ × Chain). x.1) (turned_if s.0.1 e.1) (placed county arrangement)
      (subst (Among (turned_if s.0.1 e.1)) (sym (rights-numbered_from 1 bodies)) body) in
      (entry.0, entry.1, (s.0.1, sym entry.2))

  -- keys of chains that a turn keeps: those along the placed chains are those along the county's
  module _ {K : Type 0} {cmp : K → K → Ordering} (o : IsKeyOrder cmp) (keys : Chain → List K)
      (turned : (k : K) (b : Bool) (c : Chain) → Among k (keys c) → Among k (keys (turned_if b c)))
      (unturned : (k : K) (b : Bool) (c : Chain) → Among k (keys (turned_if b c)) → Among k (keys c))
    where
      abbrev along : List (ℕ × Chain) → List K
      along chains = flat_map (λ (x : ℕ × Chain). keys x.1) chains

      keys_from_placed : (k : K) → Known cmp (along (placed county arrangement)) k → Known cmp (along county.chains) k
      keys_from_placed k l =
          let entry = among-unpieces (λ (x : ℕ × Chain). keys x.1) k (placed county arrangement)
          (known_is_among o k (along (placed county arrangement)) l) in
          let e = from_placed entry.0 entry.1 in
          among_known o k (along county.chains) (among-pieces (λ (x : ℕ × Chain). keys x.1) e.0 k county.chains e.1
          (unturned k e.2.0 e.0.1 (subst (λ c. Among k (keys c)) e.2.1 entry.2)))

      keys_to_placed : (k : K) → Known cmp (along county.chains) k → Known cmp (along (placed county arrangement)) k
      keys_to_placed k l =
          let e = among-unpieces (λ (x : ℕ × Chain). keys x.1) k county.chains (known_is_among o k (along county.chains) l) in
          let entry = to_placed e.0 e.1 in
          among_known o k (along (placed county arrangement)) (among-pieces (λ (x : ℕ × Chain). keys x.1) entry.0 k (placed county arrangement) entry.1
          (subst (λ c. Among k (keys c)) (sym entry.2.1) (turned k entry.2.0 e.0.1 e.2)))

  pub nodes_from_placed : (n : ℕ) → Known nat_cmp (nodes_along (placed county arrangement)) n → Known nat_cmp (nodes_along county.chains) n
  nodes_from_placed = keys_from_placed nat_keys chain_nodes nodes-turned nodes-unturned

  pub nodes_to_placed : (n : ℕ) → Known nat_cmp (nodes_along county.chains) n → Known nat_cmp (nodes_along (placed county arrangement)) n
  nodes_to_placed = keys_to_placed nat_keys chain_nodes nodes-turned nodes-unturned

  pub polygons_from_placed : (k : PolygonKey) → Known key_cmp (polygons_along (placed county arrangement)) k
      → Known key_cmp (polygons_along county.chains) k
  polygons_from_placed = keys_from_placed key_keys chain_polygons among-turned polygons-unturned

  pub polygons_to_placed : (k : PolygonKey) → Known key_cmp (polygons_along county.chains) k
      → Known key_cmp (polygons_along (placed county arrangement)) k
  polygons_to_placed = keys_to_placed key_keys chain_polygons among-turned polygons-unturned

  -- the renaming and the arranged county, component by component
  pub chains_renamed : (renaming_of county arrangement).chains ≡ numbered (arranged_tlids arrangement)
  unfolding renaming_of
  chains_renamed = refl

  pub names_renamed : (renaming_of county arrangement).names ≡ numbered (map (λ (e : ℕ × Body5). e.0) (names_in_order county arrangement))
  unfolding renaming_of
  names_renamed = refl

  pub polygons_renamed : (renaming_of county arrangement).polygons ≡ new_keys county arrangement
  unfolding renaming_of
  polygons_renamed = refl

  pub lands_renamed : (renaming_of county arrangement).lands ≡ numbered (map (λ (e : ℕ × List Body7). e.0) (landmarks_in_order county arrangement))
  unfolding renaming_of
  lands_renamed = refl

  pub nodes_renamed : (renaming_of county arrangement).nodes ≡ numbered (nodes_in_order county arrangement)
  unfolding renaming_of
  nodes_renamed = refl

  pub turned_renamed : (renaming_of county arrangement).turned ≡ turned_tlids arrangement
  unfolding renaming_of
  turned_renamed = refl

  pub chains_arranged : (arranged county arrangement).chains ≡ map (kept_entry (renaming_of county arrangement)) (placed county arrangement)
  unfolding arranged
  chains_arranged = carried_placed county arrangement is arranges (renaming_of county arrangement) chains_renamed turned_renamed

  chains_carried : (arranged county arrangement).chains ≡ map (carried_chain (renaming_of county arrangement)) (chains_in_order county arrangement)
  unfolding arranged
  chains_carried = refl

  pub names_arranged : (arranged county arrangement).names ≡ map (carried_name (renaming_of county arrangement)) (names_in_order county arrangement)
  unfolding arranged
  names_arranged = refl

  pub polygons_arranged : (arranged county arrangement).polygons ≡ in_order (on (λ entry. entry.0) key_cmp)
      (map (carried_polygon (renaming_of county arrangement)) county.polygons)
  unfolding arranged
  polygons_arranged = refl

  pub landmarks_arranged : (arranged county arrangement).landmarks ≡ map (carried_landmark (renaming_of county arrangement))
      (landmarks_in_order county arrangement)
  unfolding arranged
  landmarks_arranged = refl

  pub links_arranged : (arranged county arrangement).links ≡ in_order link_cmp (map (carried_link (renaming_of county arrangement)) county.links)
  unfolding arranged
  links_arranged = refl

  -- the numbers of each kind
  pub names_permutation : IsPermutation (names_in_order county arrangement) county.names
  names_permutation = in_order-is_permutation (on (name_key (all_uses (placed county arrangement))) name_key_cmp) county.names

  pub landmarks_permutation : IsPermutation (landmarks_in_order county arrangement) county.landmarks
  landmarks_permutation = in_order-is_permutation (on (landmark_key (links_relinked county arrangement)) landmark_key_cmp) county.landmarks

  -- a kind of entries in a new order, numbered in that order
  numbered_kind : {V : Type 0} (pairs : List (ℕ × ℕ)) (ordered entries : List (ℕ × V)) → pairs ≡ numbered (map (λ (e : ℕ × V). e.0) ordered)
      → IsPermutation ordered entries → IsApart nat_cmp (map (λ (e : ℕ × V). e.0) entries)
      → map (λ (e : ℕ × V). image nat_cmp pairs e.0) ordered ≡ up_to (length ordered)
  numbered_kind {V} pairs ordered entries same p apart =
      let apart_ordered : IsApart nat_cmp (map (λ (e : ℕ × V). e.0) ordered) =
      apart-permutation nat_keys (map (λ (e : ℕ × V). e.0) ordered) (map (λ (e : ℕ × V). e.0) entries)
      (IsPermutation-map (λ (e : ℕ × V). e.0) ordered entries p) apart in
      sym (map-map (image nat_cmp pairs) (λ (e : ℕ × V). e.0) ordered)
      ∙ ap (λ ps. map (image nat_cmp ps) (map (λ (e : ℕ × V). e.0) ordered)) same
      ∙ images-numbered (map (λ (e : ℕ × V). e.0) ordered) apart_ordered
      ∙ ap up_to (length-map ordered (λ (e : ℕ × V). e.0))

  pub tlids_arranged : tlids (arranged county arrangement) ≡ up_to (length (arranged_tlids arrangement))
  tlids_arranged = ap (map (λ (e : ℕ × Chain). e.0)) chains_arranged
      ∙ map-map (λ (e : ℕ × Chain). e.0) (kept_entry (renaming_of county arrangement)) (placed county arrangement)
      ∙ placed_tlids county arrangement is arranges

  pub feats_arranged : feats (arranged county arrangement) ≡ up_to (length (names_in_order county arrangement))
  feats_arranged = ap (map (λ (e : ℕ × Body5). e.0)) names_arranged
      ∙ map-map (λ (e : ℕ × Body5). e.0) (carried_name (renaming_of county arrangement)) (names_in_order county arrangement)
      ∙ numbered_kind (renaming_of county arrangement).names (names_in_order county arrangement) county.names names_renamed names_permutation
      (apart_from_sorted nat_keys (feats county) is.ascending.names)

  pub lands_arranged : lands (arranged county arrangement) ≡ up_to (length (landmarks_in_order county arrangement))
  lands_arranged = ap (map (λ (e : ℕ × List Body7). e.0)) landmarks_arranged
      ∙ map-map (λ (e : ℕ × List Body7). e.0) (carried_landmark (renaming_of county arrangement)) (landmarks_in_order county arrangement)
      ∙ numbered_kind (renaming_of county arrangement).lands
      (landmarks_in_order county arrangement) county.landmarks lands_renamed landmarks_permutation
      (apart_from_sorted nat_keys (lands county) is.ascending.landmarks)

  paired_kind : {V : Type 0} (pairs : List (ℕ × ℕ)) (ordered entries : List (ℕ × V)) (news : List ℕ)
      → pairs ≡ numbered (map (λ (e : ℕ × V). e.0) ordered) → IsPermutation ordered entries → news ≡ up_to (length ordered)
      → ArePaired pairs (map (λ (e : ℕ × V). e.0) entries) news
  paired_kind {V} pairs ordered entries news same p e = record {
    left = subst (λ ks. IsPermutation ks (map (λ (d : ℕ × V). d.0) entries))
        (sym (ap lefts same ∙ lefts-numbered (map (λ (d : ℕ × V). d.0) ordered)))
        (IsPermutation-map (λ (d : ℕ × V). d.0) ordered entries p);
    right = permutation_of_equal (rights pairs) news (ap rights same ∙ rights-numbered (map (λ (d : ℕ × V). d.0) ordered)
        ∙ ap up_to (length-map ordered (λ (d : ℕ × V). d.0)) ∙ sym e);
  }

  paired_chains : ArePaired (renaming_of county arrangement).chains (tlids county) (tlids (arranged county arrangement))
  paired_chains = record {
    left = subst (λ ks. IsPermutation ks (tlids county)) (sym (ap lefts chains_renamed ∙ lefts-numbered (arranged_tlids arrangement))) arranges;
    right = permutation_of_equal (rights (renaming_of county arrangement).chains) (tlids (arranged county arrangement)) (ap rights chains_renamed
        ∙ rights-numbered (arranged_tlids arrangement) ∙ sym tlids_arranged);
  }

  -- nodes
  pub nodes_along_arranged : nodes_along (arranged county arrangement).chains ≡ map (image nat_cmp (renaming_of county arrangement).nodes)
      (nodes_along (placed county arrangement))
  nodes_along_arranged = ap nodes_along chains_arranged ∙ nodes_along-kept (renaming_of county arrangement) (placed county arrangement)

  node_lefts : lefts (renaming_of county arrangement).nodes ≡ nodes_in_order county arrangement
  node_lefts = ap lefts nodes_renamed ∙ lefts-numbered (nodes_in_order county arrangement)

  pub node_rights : rights (renaming_of county arrangement).nodes ≡ up_to (length (nodes_in_order county arrangement))
  node_rights = ap rights nodes_renamed ∙ rights-numbered (nodes_in_order county arrangement)

  lefts_apart : IsApart nat_cmp (lefts (renaming_of county arrangement).nodes)
  lefts_apart = subst (IsApart nat_cmp) (sym node_lefts) (first_seen-apart nat_keys (nodes_along (placed county arrangement)))

  rights_apart : IsApart nat_cmp (rights (renaming_of county arrangement).nodes)
  rights_apart = subst (IsApart nat_cmp) (sym node_rights)
      (apart_from_sorted nat_keys (up_to (length (nodes_in_order county arrangement))) (up_to-strict (length (nodes_in_order county arrangement))))

  node_images : map (image nat_cmp (renaming_of county arrangement).nodes) (nodes_in_order county arrangement) ≡ rights (renaming_of county arrangement).nodes
  node_images = ap (map (image nat_cmp (renaming_of county arrangement).nodes)) (sym node_lefts)
      ∙ images-lefts nat_keys (renaming_of county arrangement).nodes lefts_apart

  new_node : (n : ℕ) → Known nat_cmp (rights (renaming_of county arrangement).nodes) n → Known nat_cmp (nodes (arranged county arrangement)) n
  new_node n k = known-distinct nat_keys (nodes_along (arranged county arrangement).chains) n
      (subst (λ ns. Known nat_cmp ns n) (sym nodes_along_arranged)
      (known_mapped nat_keys nat_keys (image nat_cmp (renaming_of county arrangement).nodes) (nodes_in_order county arrangement)
      (nodes_along (placed county arrangement)) (from_first_seen nat_keys (nodes_along (placed county arrangement))) n
      (subst (λ ns. Known nat_cmp ns n) (sym node_images) k)))

  old_node : (n : ℕ) → Known nat_cmp (nodes (arranged county arrangement)) n → Known nat_cmp (rights (renaming_of county arrangement).nodes) n
  old_node n k = subst (λ ns. Known nat_cmp ns n) node_images
      (known_mapped nat_keys nat_keys (image nat_cmp (renaming_of county arrangement).nodes) (nodes_along (placed county arrangement))
      (nodes_in_order county arrangement) (to_first_seen nat_keys (nodes_along (placed county arrangement))) n
      (subst (λ ns. Known nat_cmp ns n) nodes_along_arranged
      (known_from_distinct nat_keys (nodes_along (arranged county arrangement).chains) n k)))

  pub paired_nodes : ArePaired (renaming_of county arrangement).nodes (nodes county) (nodes (arranged county arrangement))
  paired_nodes = record {
    left = subst (λ ks. IsPermutation ks (nodes county)) (sym node_lefts)
        (apart-permutation_of nat_keys (nodes_in_order county arrangement) (nodes county)
        (first_seen-apart nat_keys (nodes_along (placed county arrangement))) (apart-distinct nat_keys (nodes_along county.chains))
        (λ n k. known-distinct nat_keys (nodes_along county.chains) n
        (nodes_from_placed n (from_first_seen nat_keys (nodes_along (placed county arrangement)) n k)))
        (λ n k. to_first_seen nat_keys (nodes_along (placed county arrangement)) n
        (nodes_to_placed n (known_from_distinct nat_keys (nodes_along county.chains) n k))));
    right = apart-permutation_of nat_keys (rights (renaming_of county arrangement).nodes) (nodes (arranged county arrangement)) rights_apart
        (apart-distinct nat_keys (nodes_along (arranged county arrangement).chains)) new_node old_node;
  }

  -- polygons, if each is on a side
  module _ (sides : AllKeysContained (polygons_along county.chains) (polygon_keys county)) where
    pub polygon_lefts : lefts (renaming_of county arrangement).polygons ≡ polygons_in_order county arrangement
    polygon_lefts = ap lefts polygons_renamed ∙ map-map (λ (pair : PolygonKey × PolygonKey). pair.0) under_cenid
        (numbered (polygons_in_order county arrangement)) ∙ lefts-numbered (polygons_in_order county arrangement)

    pub known_polygon : (k : PolygonKey) → Known key_cmp (polygon_keys county) k → Known key_cmp (polygons_in_order county arrangement) k
    known_polygon k l = to_first_seen key_keys (polygons_along (placed county arrangement)) k
        (polygons_to_placed k
        (ltb-true 0 (times key_cmp k (polygons_along county.chains))
        (known_all key_keys (λ j. IsTrue (contains key_cmp j (polygons_along county.chains))) (polygon_keys county) sides k l)))

    polygon_known : (k : PolygonKey) → Known key_cmp (polygons_in_order county arrangement) k → Known key_cmp (polygon_keys county) k
    polygon_known k l =
        let all : AllByRecursion (λ j. IsTrue (contains key_cmp j (polygon_keys county))) (polygons_along county.chains) =
        all_joined (λ j. IsTrue (contains key_cmp j (polygon_keys county)))
        (λ (e : ℕ × Chain). chain_polygons e.1) county.chains is.closed.sides in
        ltb-true 0 (times key_cmp k (polygon_keys county))
        (known_all key_keys (λ j. IsTrue (contains key_cmp j (polygon_keys county))) (polygons_along county.chains) all k
        (polygons_from_placed k (from_first_seen key_keys (polygons_along (placed county arrangement)) k l)))

    pub polygons_permutation : IsPermutation (polygons_in_order county arrangement) (polygon_keys county)
    polygons_permutation = apart-permutation_of key_keys (polygons_in_order county arrangement) (polygon_keys county)
        (first_seen-apart key_keys (polygons_along (placed county arrangement)))
        (apart_from_sorted key_keys (polygon_keys county) is.ascending.polygons) polygon_known known_polygon

    polygons_left : IsPermutation (lefts (renaming_of county arrangement).polygons) (polygon_keys county)
    polygons_left = subst (λ ks. IsPermutation ks (polygon_keys county)) (sym polygon_lefts) polygons_permutation

    -- the new keys are the images of the old ones
    pub keys_arranged : IsPermutation (map (image key_cmp (renaming_of county arrangement).polygons) (polygon_keys county))
        (polygon_keys (arranged county arrangement))
    keys_arranged =
        let mapped : List (PolygonKey × Option BodyP) = map (carried_polygon (renaming_of county arrangement)) county.polygons in
        let ordered : IsPermutation (map (λ (e : PolygonKey × Option BodyP). e.0)
        (in_order (on (λ (e : PolygonKey × Option BodyP). e.0) key_cmp) mapped)) (map (λ (e : PolygonKey × Option BodyP). e.0) mapped) =
        IsPermutation-map (λ (e : PolygonKey × Option BodyP). e.0)
        (in_order (on (λ (e : PolygonKey × Option BodyP). e.0) key_cmp) mapped) mapped
        (in_order-is_permutation (on (λ (e : PolygonKey × Option BodyP). e.0) key_cmp) mapped) in
        let images : map (λ (e : PolygonKey × Option BodyP). e.0) mapped ≡ map (image key_cmp (renaming_of county arrangement).polygons)
        (polygon_keys county) =
        map-map (λ (e : PolygonKey × Option BodyP). e.0) (carried_polygon (renaming_of county arrangement)) county.polygons
        ∙ sym (map-map (image key_cmp (renaming_of county arrangement).polygons) (λ (e : PolygonKey × Option BodyP). e.0) county.polygons) in
        IsPermutation-sym (polygon_keys (arranged county arrangement))
        (map (image key_cmp (renaming_of county arrangement).polygons) (polygon_keys county))
        (subst (λ es. IsPermutation (map (λ (e : PolygonKey × Option BodyP). e.0) es)
        (map (image key_cmp (renaming_of county arrangement).polygons) (polygon_keys county))) (sym polygons_arranged)
        (subst (IsPermutation (map (λ (e : PolygonKey × Option BodyP). e.0)
        (in_order (on (λ (e : PolygonKey × Option BodyP). e.0) key_cmp) mapped))) images ordered))

    paired_polygons : ArePaired (renaming_of county arrangement).polygons (polygon_keys county) (polygon_keys (arranged county arrangement))
    paired_polygons =
        let apart : IsApart key_cmp (lefts (renaming_of county arrangement).polygons) =
        apart-permutation key_keys (lefts (renaming_of county arrangement).polygons) (polygon_keys county) polygons_left
        (apart_from_sorted key_keys (polygon_keys county) is.ascending.polygons) in
        let images : map (image key_cmp (renaming_of county arrangement).polygons) (lefts (renaming_of county arrangement).polygons) ≡ rights
        (renaming_of county arrangement).polygons = images-lefts key_keys (renaming_of county arrangement).polygons apart in
        record {
          left = polygons_left;
          right = subst (λ ks. IsPermutation ks (polygon_keys (arranged county arrangement))) images
              (IsPermutation-trans (map (image key_cmp (renaming_of county arrangement).polygons) (lefts (renaming_of county arrangement).polygons))
              (map (image key_cmp (renaming_of county arrangement).polygons) (polygon_keys county)) (polygon_keys (arranged county arrangement))
              (IsPermutation-map (image key_cmp (renaming_of county arrangement).polygons) (lefts (renaming_of county arrangement).polygons)
              (polygon_keys county) polygons_left) keys_arranged);
        }

    numbers_paired : NumbersArePaired (renaming_of county arrangement) county (arranged county arrangement)
    numbers_paired = record {
      chains = paired_chains;
      names = paired_kind (renaming_of county arrangement).names (names_in_order county arrangement) county.names
          (feats (arranged county arrangement)) names_renamed names_permutation feats_arranged;
      polygons = paired_polygons;
      lands = paired_kind (renaming_of county arrangement).lands (landmarks_in_order county arrangement) county.landmarks
          (lands (arranged county arrangement)) lands_renamed landmarks_permutation lands_arranged;
      nodes = paired_nodes;
      cenids = subst (AllByRecursion (λ (pair : PolygonKey × PolygonKey). pair.0.0 ≡ pair.1.0)) (sym polygons_renamed)
          (all_map (λ (pair : PolygonKey × PolygonKey). pair.0.0 ≡ pair.1.0) under_cenid (numbered (polygons_in_order county arrangement))
          (all_everywhere (λ pair. (under_cenid pair).0.0 ≡ (under_cenid pair).1.0) (λ pair. refl)
          (numbered (polygons_in_order county arrangement))));
      turned_known = subst (AllByRecursion (λ t. IsTrue (contains nat_cmp t (tlids county)))) (sym turned_renamed)
          (all_known nat_keys (λ t. IsTrue (contains nat_cmp t (tlids county))) (turned_tlids arrangement)
          (λ t k. lt-ltb 0 (times nat_cmp t (tlids county))
          (known-permutation_to nat_keys t (arranged_tlids arrangement) (tlids county) arranges (turned_known arrangement t k))));
      turned_once = ap (has_repeat nat_cmp) turned_renamed
          ∙ has_repeat-apart nat_keys (turned_tlids arrangement) (turned_apart arrangement (arrangement_apart county arrangement is arranges));
    }

    -- The renaming of an arrangement carries.
    pub arrangement_carries : Carries (renaming_of county arrangement) county (arranged county arrangement)
    arrangement_carries = record {
      numbers = numbers_paired;
      chains = subst (IsPermutation (map (carried_chain (renaming_of county arrangement)) county.chains)) (sym chains_carried)
          (IsPermutation-map (carried_chain (renaming_of county arrangement)) county.chains (chains_in_order county arrangement)
          (IsPermutation-sym (chains_in_order county arrangement) county.chains (order-permutation county arrangement is arranges)));
      names = subst (IsPermutation (map (carried_name (renaming_of county arrangement)) county.names)) (sym names_arranged)
          (IsPermutation-map (carried_name (renaming_of county arrangement)) county.names (names_in_order county arrangement)
          (IsPermutation-sym (names_in_order county arrangement) county.names names_permutation));
      polygons = subst (IsPermutation (map (carried_polygon (renaming_of county arrangement)) county.polygons)) (sym polygons_arranged)
          (IsPermutation-sym (in_order (on (λ entry. entry.0) key_cmp) (map (carried_polygon (renaming_of county arrangement)) county.polygons))
          (map (carried_polygon (renaming_of county arrangement)) county.polygons)
          (in_order-is_permutation (on (λ entry. entry.0) key_cmp) (map (carried_polygon (renaming_of county arrangement)) county.polygons)));
      landmarks = subst (IsPermutation (map (carried_landmark (renaming_of county arrangement)) county.landmarks)) (sym landmarks_arranged)
          (IsPermutation-map (carried_landmark (renaming_of county arrangement)) county.landmarks (landmarks_in_order county arrangement)
          (IsPermutation-sym (landmarks_in_order county arrangement) county.landmarks landmarks_permutation));
      links = subst (IsPermutation (map (carried_link (renaming_of county arrangement)) county.links)) (sym links_arranged)
          (IsPermutation-sym (in_order link_cmp (map (carried_link (renaming_of county arrangement)) county.links))
          (map (carried_link (renaming_of county arrangement)) county.links)
          (in_order-is_permutation link_cmp (map (carried_link (renaming_of county arrangement)) county.links)));
    }
