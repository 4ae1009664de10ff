-- The arranged county is a county, and all its numbers are canonical for the arrangement's choice.
use Rattle.canonical_form.proofs.Common.{AllByRecursion, AllContained, AllKeysContained, Among, Arrangement, Arranges, Body7, BodyP, Carries, Chain, County, Fields8, Grows, HasOneCenidEach, IsApart, IsArranged, IsAscending, IsCounty, IsInOrder, IsKeyOrder, IsPermutation, IsStrictlySortedBy, IsTrue, Known, List, Option, Ordering, PolygonKey, Some, [], all-in_order, all_among, all_map, all_uses, all_weaker, among-map, among-unmap, among_known, ap, apart_from_sorted, ap₂, arith, arranged, arranged_tlids, carried_landmark, carried_link, carried_name, carried_polygon, contains, each_from, false, feats, first_seen, image, in_order, in_order-in_order, in_order-is_permutation, in_order-map, inl, inr, is_eq, is_gt, key_cmp, key_keys, keys_known, known_is_among, landmark_body_cmp, landmark_key, landmark_key_cmp, landmarks_in_order, lands, length, length-map, link_cmp, link_keys, links_of, links_relinked, lt-ltb, ltb-true, map, map-map, map_agree, name_key, name_key_cmp, names_in_order, nat_cmp, nat_keys, new_keys, nodes_along, nodes_in_order, numbered, on, on_total, placed, polygon_keys, polygons_along, polygons_in_order, position_or_len, refl, relinked, renaming_of, rights, same_or_not, slice_get, strict_from_order, subst, sym, times, times-no, times-permutation, times-yes, under_cenid, up_to, uses_of_name, ℕ, ◌∙◌, ◌∷◌, ◌≡◌, ◌≤◌, ◌⊎◌}
use Rattle.canonical_form.proofs.Sameness.CarriedCounty.{all_carried, carried_closed, carried_whole, feats-turned}
use Rattle.canonical_form.proofs.Arrangements.Carrying.{arrangement_carries, chains_arranged, feats_arranged, from_placed, keys_arranged, landmarks_arranged, lands_arranged, links_arranged, names_arranged, nodes_along_arranged, nodes_renamed, polygons_arranged, polygons_renamed, polygons_to_placed, tlids_arranged}
use Rattle.canonical_form.proofs.Numbering.FirstSeen.{first_seen-grows, known_within, place_from, to_first_seen}
use Rattle.canonical_form.proofs.Numbering.NewNumbers.{image-numbered, image-under_cenid}
use Rattle.canonical_form.proofs.Arrangements.Placed.{chain_count, rights-numbered}
use Rattle.canonical_form.proofs.Unique.SameLandmarks.{landmark_key_keys, lands_known, links_kept, relanded}
use Rattle.canonical_form.proofs.Unique.SameNames.{all_uses-all, all_uses-kept, name_key_keys, uses_of-renamed}
use Rattle.canonical_form.proofs.Unique.SameNumbers.{counted_injective, kept_entry, polygons_along-kept}
use Rattle.canonical_form.proofs.Lists.Counting.{up_to-strict}
use Rattle.canonical_form.proofs.Numbering.SeenKeys.{found_key}
use Rattle.canonical_form.proofs.Unique.SameKeys.{key_with}

-- different keys have different places
place-injective : {K : Type 0} {cmp : K → K → Ordering} (o : IsKeyOrder cmp) (i : ℕ) (xs : List K) (k j : K) → Known cmp xs k
    → Known cmp xs j → place_from o i xs k ≡ place_from o i xs j → k ≡ j
place-injective {K} {cmp} o i xs k j h l e =
    let there : (m : K) → Known cmp xs m → slice_get xs (position_or_len (λ other. is_eq (cmp m other)) xs) ≡ Some m =
    λ m known. found_key (λ x y. is_eq (cmp x y)) cmp (λ x y. refl) o m xs (known_within o xs m known) in
    let both : Some k ≡ Some j = sym (there k h) ∙ ap (slice_get xs) (omega (arith, e)) ∙ there j l in
    let one : k ≡ j = cc in
    one

-- keys are distinct if values computed from them are
times-stated : {K L : Type 0} {cmp : K → K → Ordering} {by : L → L → Ordering} (o : IsKeyOrder cmp) (q : IsKeyOrder by) (f : K → L) (k : K)
    (ks : List K) → times cmp k ks ≤ times by (f k) (map f ks)
times-stated o q f k [] = omega arith
times-stated {cmp = cmp} {by = by} o q f k (j ∷ ks) = go (same_or_not o k j) (same_or_not q (f k) (f j)) (times-stated o q f k ks)
  where
    go : (k ≡ j) ⊎ (is_eq (cmp k j) ≡ false) → (f k ≡ f j) ⊎ (is_eq (by (f k) (f j)) ≡ false) → times cmp k ks ≤ times by (f k) (map f ks)
        → times cmp k (j ∷ ks) ≤ times by (f k) (f j ∷ map f ks)
    go (inl e) (inl g) ih = omega (arith, ih, times-yes o k j ks e, times-yes q (f k) (f j) (map f ks) g)
    go (inl e) (inr ne) ih = omega (arith, ih, times-yes o k j ks e, times-yes q (f k) (f j) (map f ks) (ap f e))
    go (inr ne) (inl g) ih = omega (arith, ih, times-no o k j ks ne, times-yes q (f k) (f j) (map f ks) g)
    go (inr ne) (inr mf) ih = omega (arith, ih, times-no o k j ks ne, times-no q (f k) (f j) (map f ks) mf)

-- elements ordered by a key are ordered by their new keys after a map that keeps the keys
in_order-kept : {X K : Type 0} (cmp : K → K → Ordering) (old new : X → K) (f : X → X) (xs : List X)
    → AllByRecursion (λ x. new (f x) ≡ old x) xs → IsInOrder (on old cmp) xs → IsInOrder (on new cmp) (map f xs)
in_order-kept cmp old new f [] a h = tt
in_order-kept {X} cmp old new f (x ∷ xs) a h = (each xs a.1 h.0, in_order-kept cmp old new f xs a.1 h.1)
  where
    each : (ys : List X) → AllByRecursion (λ y. new (f y) ≡ old y) ys → AllByRecursion (λ y. is_gt (cmp (old x) (old y)) ≡ false) ys
        → AllByRecursion (λ y. is_gt (cmp (new (f x)) (new y)) ≡ false) (map f ys)
    each [] b g = tt
    each (y ∷ ys) b g = (ap₂ (λ k j. is_gt (cmp k j)) a.0 b.0 ∙ g.0, each ys b.1 g.1)

-- so entries in the order of a content and a part, if a renaming keeps the parts
ordered_kept : {V P : Type 0} {cmp : V × P → V × P → Ordering} → IsKeyOrder cmp → (f : ℕ → ℕ) (part new_part : ℕ → P) (entries : List (ℕ × V))
    → ((n : ℕ) → Known nat_cmp (map (λ (e : ℕ × V). e.0) entries) n → new_part (f n) ≡ part n)
    → IsInOrder (on (key_with new_part) cmp) (map (λ (e : ℕ × V). (f e.0, e.1)) (in_order (on (key_with part) cmp) entries))
ordered_kept {V} {P} {cmp} o f part new_part entries kept =
    in_order-kept cmp (key_with part) (key_with new_part) (λ (e : ℕ × V). (f e.0, e.1)) (in_order (on (key_with part) cmp) entries)
    (all-in_order (λ (e : ℕ × V). key_with new_part (f e.0, e.1) ≡ key_with part e) (on (key_with part) cmp) entries
    (all_weaker (λ (e : ℕ × V). Known nat_cmp (map (λ (d : ℕ × V). d.0) entries) e.0)
    (λ e. key_with new_part (f e.0, e.1) ≡ key_with part e) (λ e k i. (e.1, kept e.0 k i)) entries (keys_known nat_keys entries)))
    (in_order-in_order (on_total (key_with part) o.total) entries)

module _ (county : County) (arrangement : Arrangement) (is : IsCounty county) (arranges : Arranges arrangement county)
    (sides : AllKeysContained (polygons_along county.chains) (polygon_keys county)) where
  h : Carries (renaming_of county arrangement) county (arranged county arrangement)
  h = arrangement_carries county arrangement is arranges sides

  -- numbers of nodes grow
  nodes_grow : Grows (nodes_along (arranged county arrangement).chains)
  nodes_grow =
      let along : List ℕ = nodes_along (placed county arrangement) in
      let places : map (image nat_cmp (renaming_of county arrangement).nodes) along ≡ map
      (place_from nat_keys 1 (first_seen nat_cmp along)) along =
      ap (λ pairs. map (image nat_cmp pairs) along) (nodes_renamed county arrangement is arranges)
      ∙ map_agree nat_keys (image nat_cmp (numbered (nodes_in_order county arrangement))) (place_from nat_keys 1 (first_seen nat_cmp along)) along
      (λ n k. image-numbered (nodes_in_order county arrangement) n (to_first_seen nat_keys along n k)) in
      subst Grows (sym (nodes_along_arranged county arrangement is arranges ∙ places)) (first_seen-grows nat_keys along)

  -- polygons, each with the place of its first occurrence
  abbrev along : List PolygonKey
  along = polygons_along (placed county arrangement)

  abbrev new_key : PolygonKey → PolygonKey
  new_key k = (k.0, place_from key_keys 1 (polygons_in_order county arrangement) k)

  image_new : (k : PolygonKey) → Known key_cmp along k → image key_cmp (renaming_of county arrangement).polygons k ≡ new_key k
  image_new k l = ap (λ pairs. image key_cmp pairs k) (polygons_renamed county arrangement is arranges)
      ∙ image-under_cenid (polygons_in_order county arrangement) k (to_first_seen key_keys along k l)

  polygons_are : polygons_along (arranged county arrangement).chains ≡ map new_key along
  polygons_are = ap polygons_along (chains_arranged county arrangement is arranges)
      ∙ polygons_along-kept (renaming_of county arrangement) (placed county arrangement)
      ∙ map_agree key_keys (image key_cmp (renaming_of county arrangement).polygons) new_key along image_new

  polygons_grow : Grows (map (λ (k : PolygonKey). k.1) (polygons_along (arranged county arrangement).chains))
  polygons_grow = subst Grows (sym (ap (map (λ (k : PolygonKey). k.1)) polygons_are ∙ map-map (λ (k : PolygonKey). k.1) new_key along))
      (first_seen-grows key_keys along)

  one_cenid : HasOneCenidEach (polygons_along (arranged county arrangement).chains)
  one_cenid = subst HasOneCenidEach (sym polygons_are)
      (each_from (λ key. AllByRecursion (λ other. key.1 ≡ other.1 → key ≡ other) (map new_key along)) (map new_key along)
      (λ key m. each_from (λ other. key.1 ≡ other.1 → key ≡ other) (map new_key along)
      (λ other n e. same key other (among-unmap new_key key along m) (among-unmap new_key other along n) e)))
    where
      same : (key other : PolygonKey) → (k : PolygonKey) × Among k along × (key ≡ new_key k)
          → (j : PolygonKey) × Among j along × (other ≡ new_key j) → key.1 ≡ other.1 → key ≡ other
      same key other k j e =
          let known : (i : PolygonKey) → Among i along → Known key_cmp (polygons_in_order county arrangement) i =
          λ i m. to_first_seen key_keys along i (among_known key_keys i along m) in
          let places : place_from key_keys 1 (polygons_in_order county arrangement) k.0 ≡ place_from key_keys 1
          (polygons_in_order county arrangement) j.0 = sym (ap (λ (i : PolygonKey). i.1) k.2) ∙ e ∙ ap (λ (i : PolygonKey). i.1) j.2 in
          k.2 ∙ ap new_key (place-injective key_keys 1 (polygons_in_order county arrangement) k.0 j.0 (known k.0 k.1) (known j.0 j.1) places)
          ∙ sym j.2

  on_sides : AllKeysContained (polygons_along (arranged county arrangement).chains) (polygon_keys (arranged county arrangement))
  on_sides = all_carried (λ k. IsTrue (contains key_cmp k (polygons_along county.chains)))
      (λ k. IsTrue (contains key_cmp k (polygons_along (arranged county arrangement).chains)))
      (image key_cmp (renaming_of county arrangement).polygons) (λ k side.
      let there : Known key_cmp along k =
      polygons_to_placed county arrangement is arranges k (ltb-true 0 (times key_cmp k (polygons_along county.chains)) side) in
      let new : Among (new_key k) (map new_key along) = among-map new_key k along (known_is_among key_keys k along there) in
      subst (λ j. IsTrue (contains key_cmp j (polygons_along (arranged county arrangement).chains))) (sym (image_new k there))
      (lt-ltb 0 (times key_cmp (new_key k) (polygons_along (arranged county arrangement).chains))
      (among_known key_keys (new_key k) (polygons_along (arranged county arrangement).chains) (subst (Among (new_key k)) (sym polygons_are) new))))
      (polygon_keys county) (polygon_keys (arranged county arrangement)) (keys_arranged county arrangement is arranges sides) sides

  -- names keep their uses
  name_injective : (n m : ℕ) → Known nat_cmp (feats county) n → Known nat_cmp (feats county) m
      → image nat_cmp (renaming_of county arrangement).names n ≡ image nat_cmp (renaming_of county arrangement).names m → n ≡ m
  name_injective = counted_injective (renaming_of county arrangement).names (feats county) (feats (arranged county arrangement))
      (length (names_in_order county arrangement)) h.numbers.names.left h.numbers.names.right (feats_arranged county arrangement is arranges)

  uses_known : AllByRecursion (λ u. Known nat_cmp (feats county) u.1) (all_uses (placed county arrangement))
  uses_known = all_uses-all (Known nat_cmp (feats county)) (placed county arrangement)
      (each_from (λ e. AllByRecursion (Known nat_cmp (feats county)) e.1.feats) (placed county arrangement)
      (λ e m. let o = from_placed county arrangement is arranges e m in
      let same : e.1.feats ≡ o.0.1.feats = ap (λ (c : Chain). c.feats) o.2.1 ∙ feats-turned o.2.0 o.0.1 in
      subst (AllByRecursion (Known nat_cmp (feats county))) (sym same)
      (all_weaker (λ n. IsTrue (contains nat_cmp n (feats county))) (Known nat_cmp (feats county))
      (λ n t. ltb-true 0 (times nat_cmp n (feats county)) t) o.0.1.feats
      (all_among (λ d. AllContained (feats county) d.1.feats) o.0 county.chains is.closed.names o.1))))

  uses_kept : (n : ℕ) → Known nat_cmp (feats county) n
      → uses_of_name (all_uses (arranged county arrangement).chains) (image nat_cmp (renaming_of county arrangement).names n) ≡ uses_of_name
      (all_uses (placed county arrangement)) n
  uses_kept n k =
      ap (λ us. uses_of_name us (image nat_cmp (renaming_of county arrangement).names n)) (ap all_uses (chains_arranged county arrangement is arranges)
      ∙ all_uses-kept (renaming_of county arrangement) (placed county arrangement))
      ∙ uses_of-renamed (image nat_cmp (renaming_of county arrangement).names) (Known nat_cmp (feats county)) name_injective
      (all_uses (placed county arrangement)) uses_known n k

  names_ordered : IsInOrder (on (name_key (all_uses (arranged county arrangement).chains)) name_key_cmp) (arranged county arrangement).names
  names_ordered = subst (IsInOrder (on (name_key (all_uses (arranged county arrangement).chains)) name_key_cmp))
      (sym (names_arranged county arrangement is arranges))
      (ordered_kept name_key_keys (image nat_cmp (renaming_of county arrangement).names) (uses_of_name (all_uses (placed county arrangement)))
      (uses_of_name (all_uses (arranged county arrangement).chains)) county.names uses_kept)

  -- landmarks keep their links
  land_injective : (n m : ℕ) → Known nat_cmp (lands county) n → Known nat_cmp (lands county) m
      → image nat_cmp (renaming_of county arrangement).lands n ≡ image nat_cmp (renaming_of county arrangement).lands m → n ≡ m
  land_injective = counted_injective (renaming_of county arrangement).lands (lands county) (lands (arranged county arrangement))
      (length (landmarks_in_order county arrangement)) h.numbers.lands.left h.numbers.lands.right (lands_arranged county arrangement is arranges)

  abbrev f_land : ℕ → ℕ
  f_land = image nat_cmp (renaming_of county arrangement).lands

  abbrev relinks : List Fields8
  relinks = map (relinked (new_keys county arrangement)) county.links

  links_carried : map (carried_link (renaming_of county arrangement)) county.links ≡ map (relanded f_land) relinks
  links_carried = ap (λ pairs. map (λ (l : Fields8). record {
    file = l.file;
    cenid = (image key_cmp pairs (l.cenid, l.polyid)).0;
    polyid =
        (image key_cmp pairs (l.cenid, l.polyid)).1;
    land = f_land l.land;
  }) county.links) (polygons_renamed county arrangement is arranges)
      ∙ sym (map-map (relanded f_land) (relinked (new_keys county arrangement)) county.links)

  links_permutation : IsPermutation (map (relanded f_land) relinks) (arranged county arrangement).links
  links_permutation = subst (λ ls. IsPermutation ls (arranged county arrangement).links) links_carried h.links

  links_ordered : IsInOrder link_cmp (arranged county arrangement).links
  links_ordered = subst (IsInOrder link_cmp) (sym (links_arranged county arrangement is arranges))
      (in_order-in_order link_keys.total (map (carried_link (renaming_of county arrangement)) county.links))

  same_under : (n : ℕ) → Known nat_cmp (lands county) n
      → links_of (arranged county arrangement).links (f_land n) ≡ links_of (links_relinked county arrangement) n
  same_under = links_kept f_land (Known nat_cmp (lands county)) land_injective relinks (links_relinked county arrangement)
      (arranged county arrangement).links
      (all_map (λ (l : Fields8). Known nat_cmp (lands county) l.land) (relinked (new_keys county arrangement)) county.links
      (lands_known county is.closed))
      (in_order-in_order link_keys.total relinks) (in_order-is_permutation link_cmp relinks) links_ordered links_permutation

  landmarks_ordered : IsInOrder (on (landmark_key (arranged county arrangement).links) landmark_key_cmp) (arranged county arrangement).landmarks
  landmarks_ordered = subst (IsInOrder (on (landmark_key (arranged county arrangement).links) landmark_key_cmp))
      (sym (landmarks_arranged county arrangement is arranges))
      (ordered_kept landmark_key_keys f_land (links_of (links_relinked county arrangement)) (links_of (arranged county arrangement).links)
      county.landmarks same_under)

  pub is_arranged : IsArranged (arranged county arrangement)
  is_arranged = record {
    tlids = tlids_arranged county arrangement is arranges
        ∙ ap up_to (sym (ap length (chains_arranged county arrangement is arranges)
        ∙ length-map (placed county arrangement) (kept_entry (renaming_of county arrangement)) ∙ chain_count county arrangement is arranges));
    feats = feats_arranged county arrangement is arranges
        ∙ ap up_to (sym (ap length (names_arranged county arrangement is arranges)
        ∙ length-map (names_in_order county arrangement) (carried_name (renaming_of county arrangement))));
    lands = lands_arranged county arrangement is arranges
        ∙ ap up_to (sym (ap length (landmarks_arranged county arrangement is arranges)
        ∙ length-map (landmarks_in_order county arrangement) (carried_landmark (renaming_of county arrangement))));
    nodes = nodes_grow;
    polygons = polygons_grow;
    one_cenid = one_cenid;
    on_sides = on_sides;
    names = names_ordered;
    landmarks = landmarks_ordered;
  }

  -- the new keys are distinct, since no two have the same number
  keys_apart : IsApart key_cmp (polygon_keys (arranged county arrangement))
  keys_apart k =
      let new : List PolygonKey = rights (renaming_of county arrangement).polygons in
      let numbers : map (λ (i : PolygonKey). i.1) new ≡ up_to (length (polygons_in_order county arrangement)) =
      ap (λ (pairs : List (PolygonKey × PolygonKey)). map (λ (i : PolygonKey). i.1) (rights pairs))
      (polygons_renamed county arrangement is arranges)
      ∙ ap (map (λ (i : PolygonKey). i.1)) (map-map (λ (pair : PolygonKey × PolygonKey). pair.1) under_cenid
      (numbered (polygons_in_order county arrangement)))
      ∙ map-map (λ (i : PolygonKey). i.1) (λ (pair : PolygonKey × ℕ). (pair.0.0, pair.1)) (numbered (polygons_in_order county arrangement))
      ∙ rights-numbered (polygons_in_order county arrangement) in
      let few : times nat_cmp k.1 (map (λ (i : PolygonKey). i.1) new) ≤ 1 =
      subst (IsApart nat_cmp) (sym numbers)
      (apart_from_sorted nat_keys (up_to (length (polygons_in_order county arrangement)))
      (up_to-strict (length (polygons_in_order county arrangement)))) k.1 in
      let stated : times key_cmp k new ≤ times nat_cmp k.1 (map (λ (i : PolygonKey). i.1) new) =
      times-stated key_keys nat_keys (λ (i : PolygonKey). i.1) k new in
      let same : times key_cmp k (polygon_keys (arranged county arrangement)) ≡ times key_cmp k new =
      times-permutation key_keys k new (polygon_keys (arranged county arrangement)) h.numbers.polygons.right in
      omega arith

  arranged_ascending : IsAscending (arranged county arrangement)
  arranged_ascending = record {
    chains = subst (IsStrictlySortedBy nat_cmp) (sym (tlids_arranged county arrangement is arranges))
        (up_to-strict (length (arranged_tlids arrangement)));
    names = subst (IsStrictlySortedBy nat_cmp) (sym (feats_arranged county arrangement is arranges))
        (up_to-strict (length (names_in_order county arrangement)));
    polygons = strict_from_order key_keys (polygon_keys (arranged county arrangement))
        (subst (λ (es : List (PolygonKey × Option BodyP)). IsInOrder key_cmp (map (λ (e : PolygonKey × Option BodyP). e.0) es))
        (sym (polygons_arranged county arrangement is arranges))
        (in_order-map key_cmp (λ (e : PolygonKey × Option BodyP). e.0)
        (in_order (on (λ (e : PolygonKey × Option BodyP). e.0) key_cmp)
        (map (carried_polygon (renaming_of county arrangement)) county.polygons))
        (in_order-in_order (on_total (λ (e : PolygonKey × Option BodyP). e.0) key_keys.total)
        (map (carried_polygon (renaming_of county arrangement)) county.polygons))))
        keys_apart;
    landmarks = subst (IsStrictlySortedBy nat_cmp) (sym (lands_arranged county arrangement is arranges))
        (up_to-strict (length (landmarks_in_order county arrangement)));
    bodies = subst (AllByRecursion (λ (e : ℕ × List Body7). IsInOrder landmark_body_cmp e.1))
        (sym (landmarks_arranged county arrangement is arranges))
        (all_map (λ (e : ℕ × List Body7). IsInOrder landmark_body_cmp e.1) (carried_landmark (renaming_of county arrangement))
        (landmarks_in_order county arrangement)
        (all-in_order (λ (e : ℕ × List Body7). IsInOrder landmark_body_cmp e.1)
        (on (landmark_key (links_relinked county arrangement)) landmark_key_cmp) county.landmarks is.ascending.bodies));
    links = links_ordered;
  }

  pub arranged_county : IsCounty (arranged county arrangement)
  arranged_county = record {
    ascending = arranged_ascending;
    closed = carried_closed (renaming_of county arrangement) county (arranged county arrangement) h is.closed;
    whole = carried_whole (renaming_of county arrangement) county (arranged county arrangement) h is.whole;
  }
