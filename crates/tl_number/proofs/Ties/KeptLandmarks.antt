-- Landmarks are kept by their contents, all polygons of kept ones are wanted, and no other landmark has a polygon that choices can move.
use Rattle.tl_number.proofs.Ties.PartTables.{seen_known}
use Rattle.ordered_lists.proofs.Lists.Distinct.{known-distinct, known_from_distinct}
use Rattle.tl_number.proofs.Common.{Among, Body7, Bool, County, Fields8, IsCounty, IsKeyOrder, IsTrue, LandmarkName, List, OrderOfShapes, PolygonKey, Some, [], all_among, among-map, among-pieces, among-unmap, among_any, among_known, among_right, and_cases, ap, apart_from_sorted, arith, at_places, bodies_at, bytes_keys, chain_polygons, cond, contains, contains-among, contains_alike, distinct, false, false_from_ne_true, false≢true, filter, first_name, first_seen, flat_map, has_name, inl, inr, kept_landmarks, kept_lands, key_cmp, key_keys, keys_at_open, known_is_among, landmark_name_cmp, lands, length, length-map, link_key, link_keys_at, links_at, links_with, list_any, lt-ltb, ltb-true, moves_polygons, name_if_linked, names_linked, nat_cmp, nat_keys, opened_polygons, option_map, option_to_list, or_left, range_with_len, refl, slice_get, slice_get-get_or, slice_get-map, subst, sym, times, to_filter, true, unwrap_or, wanted_polygons, ℕ, ◌&&◌, ◌<◌, ◌==◌, ◌∙◌, ◌∷◌, ◌≡◌, ◌≤◌, ◌⊎◌}
use Rattle.ordered_lists.proofs.ByKey.KeyOrders.{pair_keys}
use Rattle.ordered_lists.proofs.Lists.Members.{in_filter_map}
use Rattle.std.proofs.lemmas.Bool.{eq-eqb}
use Rattle.tl_number.proofs.Ties.Places.{marked_keys}
use Rattle.tl_number.proofs.Ties.Ranks.{in_range}
use Rattle.tl_number.specs.KeptLandmarks.{keeps_landmark}

pub landmark_name_keys : IsKeyOrder landmark_name_cmp
landmark_name_keys = pair_keys bytes_keys bytes_keys

-- a landmark has a name
named : (bodies : List Body7) → 1 ≤ length bodies → (name : LandmarkName) × (first_name bodies ≡ Some name)
named [] some = absurd (omega (arith, some))
named (body ∷ bodies) some = ((body.cfcc, body.laname), refl)

module _ (county : County) (shapes : OrderOfShapes) where
  abbrev keeps_at : ℕ → Bool
  keeps_at place = keeps_landmark county shapes (bodies_at county place)

  -- the place of a landmark
  record IsLandmarkAt (place : ℕ) (e : ℕ × List Body7) : Type 0 where
    below : place < length county.landmarks
    land : slice_get (lands county) place ≡ Some e.0
    bodies : bodies_at county place ≡ e.1

  landmark_at : (e : ℕ × List Body7) → Among e county.landmarks → (place : ℕ) × IsLandmarkAt place e
  landmark_at e m =
      let at = contains-among e county.landmarks m in
      let there : slice_get county.landmarks at.0 ≡ Some e = slice_get-get_or county.landmarks at.0 e at.1 ∙ ap Some at.2 in (
        at.0,
        record {
          below = at.1;
          land = slice_get-map (λ (d : ℕ × List Body7). d.0) county.landmarks at.0 ∙ ap (option_map (λ (d : ℕ × List Body7). d.0)) there;
          bodies = ap (λ o. unwrap_or o []) (slice_get-map (λ (d : ℕ × List Body7). d.1) county.landmarks at.0
              ∙ ap (option_map (λ (d : ℕ × List Body7). d.1)) there);
        },
      )

  -- A landmark is kept if its contents are.
  pub landmark_kept : IsCounty county → (e : ℕ × List Body7) → Among e county.landmarks
      → contains nat_cmp e.0 (kept_lands county shapes) ≡ keeps_landmark county shapes e.1
  landmark_kept is e m =
      let at = landmark_at e m in
      ap (λ n. contains nat_cmp e.0 (at_places (lands county) (filter keeps_at (range_with_len 0 n)))) (sym (length-map county.landmarks (λ (d : ℕ × List Body7). d.0)))
      ∙ marked_keys nat_keys keeps_at (lands county) (apart_from_sorted nat_keys (lands county) is.ascending.landmarks) at.0 e.0 at.1.land
      ∙ ap (keeps_landmark county shapes) at.1.bodies

  -- a link is among those of its landmark
  link_there : (place land : ℕ) → slice_get (lands county) place ≡ Some land → (link : Fields8) → Among link county.links → link.land ≡ land
      → Among (link_key link) (link_keys_at county place)
  link_there place land e link m same = among-map link_key link (links_at county place)
      (subst (λ o. Among link (links_with county.links o)) (sym e)
      (to_filter (λ (l : Fields8). l.land == land) link county.links m (eq-eqb link.land land same)))

  -- So the polygons of all its links are wanted.
  pub link_wanted : (link : Fields8) → Among link county.links → contains nat_cmp link.land (kept_lands county shapes) ≡ true
      → contains key_cmp (link_key link) (wanted_polygons county shapes) ≡ true
  link_wanted link m kept =
      let found = in_filter_map (slice_get (lands county)) link.land (kept_landmarks county shapes)
      (known_is_among nat_keys link.land (kept_lands county shapes) (ltb-true 0 (times nat_cmp link.land (kept_lands county shapes)) kept)) in
      lt-ltb 0 (times key_cmp (link_key link) (wanted_polygons county shapes)) (among_known key_keys (link_key link) (wanted_polygons county shapes)
      (among_right (link_key link) (keys_at_open chain_polygons county shapes) (flat_map (link_keys_at county) (kept_landmarks county shapes))
      (among-pieces (link_keys_at county) found.0 (link_key link) (kept_landmarks county shapes) found.1 (link_there found.0 link.land found.2 link m refl))))

  -- If no place moves polygons or none is kept of another landmark, its polygons don't first appear at an open place.
  pub link_closed : IsCounty county → (link : Fields8) → Among link county.links → contains nat_cmp link.land (kept_lands county shapes) ≡ false
      → (moves_polygons county shapes ≡ false) ⊎ (contains key_cmp (link_key link) (opened_polygons county shapes) ≡ false)
  unfolding keeps_landmark
  link_closed is link m out = go (and_cases (moves_polygons county shapes) (has_name names landmark.0.1)
      (sym (landmark_kept is landmark.0 landmark.1) ∙ ap (λ land. contains nat_cmp land (kept_lands county shapes)) (sym landmark.2) ∙ out))
    where
      opened : List PolygonKey
      opened = opened_polygons county shapes

      names : List LandmarkName
      names = names_linked county opened

      landmark : (e : ℕ × List Body7) × Among e county.landmarks × (link.land ≡ e.0)
      landmark = among-unmap (λ (e : ℕ × List Body7). e.0) link.land county.landmarks
          (known_is_among nat_keys link.land (lands county) (ltb-true 0 (times nat_cmp link.land (lands county))
          (all_among (λ (l : Fields8). IsTrue (contains nat_cmp l.land (lands county))) link county.links is.closed.link_lands m)))

      -- a landmark with an open polygon has one of the names
      has_own : contains key_cmp (link_key link) opened ≡ true → has_name names landmark.0.1 ≡ true
      has_own e =
          let at = landmark_at landmark.0 landmark.1 in
          let name = named landmark.0.1 (all_among (λ (d : ℕ × List Body7). 1 ≤ length d.1) landmark.0 county.landmarks is.whole.bodies landmark.1) in
          let linked : list_any (λ key. contains key_cmp key opened) (link_keys_at county at.0) ≡ true =
          among_any (λ key. contains key_cmp key opened) (link_key link) (link_keys_at county at.0) (link_there at.0 landmark.0.0 at.1.land link m landmark.2) e in
          let here : Among name.0 (name_if_linked county opened at.0) =
          subst (λ (p : Bool × List Body7). Among name.0 (cond p.0 (option_to_list (first_name p.1)) [])) (λ i. (sym linked i, sym at.1.bodies i))
          (subst (λ o. Among name.0 (option_to_list o)) (sym name.1) (inl refl)) in
          ap (λ o. list_any (λ n. contains landmark_name_cmp n names) (option_to_list o)) name.1
          ∙ or_left (contains landmark_name_cmp name.0 names) false (lt-ltb 0 (times landmark_name_cmp name.0 names)
          (among_known landmark_name_keys name.0 names (among-pieces (name_if_linked county opened) at.0 name.0 (range_with_len 0 (length county.landmarks))
          (in_range (length county.landmarks) at.0 at.1.below) here)))

      go : (moves_polygons county shapes ≡ false) ⊎ (has_name names landmark.0.1 ≡ false)
          → (moves_polygons county shapes ≡ false) ⊎ (contains key_cmp (link_key link) opened ≡ false)
      go (inl still) = inl still
      go (inr none) = inr (false_from_ne_true (contains key_cmp (link_key link) opened) (λ e. false≢true (sym none ∙ has_own e)))

-- ---- what the functions find

-- names are the same in any order, of polygons in any order
pub names_found : (county : County) (opened polygons : List PolygonKey) (names : List LandmarkName) → polygons ≡ first_seen key_cmp opened
    → names ≡ distinct landmark_name_cmp (names_linked county polygons)
    → (bodies : List Body7) → has_name names bodies ≡ has_name (names_linked county opened) bodies
names_found county opened polygons names seen put bodies = λ i. list_any (λ name. same name i) (option_to_list (first_name bodies))
  where
    linked : names_linked county polygons ≡ names_linked county opened
    linked = ap (names_linked county) seen
        ∙ (λ i. flat_map (λ place. cond (list_any (λ key. seen_known key_keys opened key i) (link_keys_at county place))
        (option_to_list (first_name (bodies_at county place))) []) (range_with_len 0 (length county.landmarks)))

    same : (name : LandmarkName) → contains landmark_name_cmp name names ≡ contains landmark_name_cmp name (names_linked county opened)
    same name = ap (contains landmark_name_cmp name) put
        ∙ contains_alike landmark_name_keys (distinct landmark_name_cmp (names_linked county polygons)) (names_linked county polygons) name
        (known_from_distinct landmark_name_keys (names_linked county polygons) name) (known-distinct landmark_name_keys (names_linked county polygons) name)
        ∙ ap (contains landmark_name_cmp name) linked

module _ (county : County) (shapes : OrderOfShapes) where
  -- if open places can't move polygons, no landmark is kept,
  pub none_kept : moves_polygons county shapes ≡ false → kept_landmarks county shapes ≡ []
  unfolding keeps_landmark
  none_kept still = (λ i. filter (λ place. still i && has_name (names_linked county (opened_polygons county shapes)) (bodies_at county place))
      (range_with_len 0 (length county.landmarks))) ∙ none (range_with_len 0 (length county.landmarks))
    where
      none : (places : List ℕ) → filter (λ place. false) places ≡ []
      none [] = refl
      none (place ∷ places) = none places

  -- else those with one of the names
  pub named_kept : moves_polygons county shapes ≡ true
      → filter (λ place. has_name (names_linked county (opened_polygons county shapes)) (bodies_at county place)) (range_with_len 0 (length county.landmarks))
      ≡ kept_landmarks county shapes
  unfolding keeps_landmark
  named_kept moving = λ i. filter (λ place. sym moving i && has_name (names_linked county (opened_polygons county shapes)) (bodies_at county place))
      (range_with_len 0 (length county.landmarks))
