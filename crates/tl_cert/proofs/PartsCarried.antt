-- A renaming carries the parts of a county exactly if the other county has each of them under its new number.
use Rattle.tl_cert.proofs.Common.{AllByRecursion, Among, ArePaired, ArePartsThere, Body5, Body7, BodyP, Carries, County, IsApart, IsCounty, IsKeyOrder, IsLandmarkThere, IsPermutation, IsPermutation-map, IsPermutation-refl, IsPermutation-sym, IsPermutation-trans, Known, List, None, NumbersArePaired, Option, Ordering, PolygonKey, Renumbering, Some, [], all_among, all_both, all_map, all_unmap, all_weaker, among-permutation, ap, apart-permutation, apart_from_sorted, apart_tail, arith, carried_link, cond, entry_keys, false, feats, image, images-lefts, inl, inr, is_eq, key_keys, keys_known, lands, lefts, length, length_permutation, map, map-map, nat_cmp, nat_keys, polygon_keys, refl, renumbered, same-itself, same_or_not, subst, sym, times-yes, tlids, turned_if, turns, unwrap_or, value_under, ℕ, ◌∙◌, ◌∷◌, ◌≡◌, ◌≤◌, ◌⊎◌}

-- a property of each element that is among others is one of each element
among_all : {X : Type 0} (P : X → Type 0) (xs : List X) → ((x : X) → Among x xs → P x) → AllByRecursion P xs
among_all P [] h = tt
among_all P (x ∷ xs) h = (h x (inl refl), among_all P xs (λ y a. h y (inr a)))

permuted_all : {X : Type 0} (P : X → Type 0) (xs ys : List X) → IsPermutation xs ys → AllByRecursion P ys → AllByRecursion P xs
permuted_all P xs ys p a = among_all P xs (λ x m. all_among P x ys a (among-permutation x xs ys p m))

module _ {K V : Type 0} {cmp : K → K → Ordering} (o : IsKeyOrder cmp) where
  under_later : (k : K) (e : K × V) (es : List (K × V)) → IsApart cmp (entry_keys (e ∷ es)) → Known cmp (entry_keys es) k
      → value_under cmp k (e ∷ es) ≡ value_under cmp k es
  under_later k e es a l = go (same_or_not o k e.0)
    where
      go : (k ≡ e.0) ⊎ (is_eq (cmp k e.0) ≡ false) → value_under cmp k (e ∷ es) ≡ value_under cmp k es
      go (inl same) = absurd (omega (arith, times-yes o k e.0 (entry_keys es) same, a k, l))
      go (inr ne) = ap (λ b. cond b (Some e.1) (value_under cmp k es)) ne

  -- if no key is there twice, each value is found under its key
  each_under : (es : List (K × V)) → IsApart cmp (entry_keys es) → AllByRecursion (λ e. value_under cmp e.0 es ≡ Some e.1) es
  each_under [] a = tt
  each_under (e ∷ es) a = (
    ap (λ b. cond b (Some e.1) (value_under cmp e.0 es)) (same-itself o e.0),
    all_weaker (λ (d : K × V). Known cmp (entry_keys es) d.0 × (value_under cmp d.0 es ≡ Some d.1))
        (λ (d : K × V). value_under cmp d.0 (e ∷ es) ≡ Some d.1) (λ d h. under_later d.0 e es a h.0 ∙ h.1) es
        (all_both (λ (d : K × V). Known cmp (entry_keys es) d.0) (λ (d : K × V). value_under cmp d.0 es ≡ Some d.1) es (keys_known o es)
        (each_under es (apart_tail o e.0 (entry_keys es) a))),
  )

  -- the entries are those that their keys find
  stated_again : (ds : List (K × V)) (d : V) (es : List (K × V)) → AllByRecursion (λ e. value_under cmp e.0 ds ≡ Some e.1) es
      → map (λ k. (k, unwrap_or (value_under cmp k ds) d)) (entry_keys es) ≡ es
  stated_again ds d [] a = refl
  stated_again ds d (e ∷ es) a = λ i. (e.0, unwrap_or (a.0 i) d) ∷ stated_again ds d es a.1 i

  no_keys : (ds : List (K × V)) → IsPermutation [] (entry_keys ds) → IsPermutation [] ds
  no_keys [] p = IsPermutation-refl []
  no_keys (d ∷ ds) p = absurd (omega (arith, length_permutation [] (entry_keys (d ∷ ds)) p))

  -- if the keys are a permutation and each value is found under its key, the entries are a permutation
  entries_permuted : (es ds : List (K × V)) → IsPermutation (entry_keys es) (entry_keys ds) → IsApart cmp (entry_keys ds)
      → AllByRecursion (λ e. value_under cmp e.0 ds ≡ Some e.1) es → IsPermutation es ds
  entries_permuted [] ds p a h = no_keys ds p
  entries_permuted (e ∷ es) ds p a h =
      subst (λ xs. IsPermutation xs ds) (stated_again ds e.1 (e ∷ es) h)
      (subst (IsPermutation (map (λ k. (k, unwrap_or (value_under cmp k ds) e.1)) (entry_keys (e ∷ es))))
      (stated_again ds e.1 ds (each_under ds a))
      (IsPermutation-map (λ k. (k, unwrap_or (value_under cmp k ds) e.1)) (entry_keys (e ∷ es)) (entry_keys ds) p))

  permuted_entries : (es ds : List (K × V)) → IsPermutation es ds → IsApart cmp (entry_keys ds)
      → AllByRecursion (λ e. value_under cmp e.0 ds ≡ Some e.1) es
  permuted_entries es ds p a = permuted_all (λ e. value_under cmp e.0 ds ≡ Some e.1) es ds p (each_under ds a)

-- entries that are carried by pairs of their keys
module _ {K V W : Type 0} {cmp : K → K → Ordering} (o : IsKeyOrder cmp) (ps : List (K × K)) (f : K × V → W)
    (es : List (K × V)) (ds : List (K × W)) (paired : ArePaired ps (entry_keys es) (entry_keys ds)) (olds : IsApart cmp (entry_keys es))
    (news : IsApart cmp (entry_keys ds)) where
  abbrev carried : K × V → K × W
  carried e = (image cmp ps e.0, f e)

  keys_carried : IsPermutation (entry_keys (map carried es)) (entry_keys ds)
  keys_carried =
      let images : IsPermutation (map (image cmp ps) (lefts ps)) (entry_keys ds) =
      subst (λ ks. IsPermutation ks (entry_keys ds)) (sym (images-lefts o ps
      (apart-permutation o (lefts ps) (entry_keys es) paired.left olds)))
      paired.right in
      subst (λ ks. IsPermutation ks (entry_keys ds)) (map-map (image cmp ps) (λ e. e.0) es ∙ sym (map-map (λ e. e.0) carried es))
      (IsPermutation-trans (map (image cmp ps) (entry_keys es)) (map (image cmp ps) (lefts ps)) (entry_keys ds)
      (IsPermutation-map (image cmp ps) (entry_keys es) (lefts ps) (IsPermutation-sym (lefts ps) (entry_keys es) paired.left)) images)

  pub there_from_carried : IsPermutation (map carried es) ds → AllByRecursion (λ e. value_under cmp (image cmp ps e.0) ds ≡ Some (f e)) es
  there_from_carried p = all_unmap (λ d. value_under cmp d.0 ds ≡ Some d.1) carried es (permuted_entries o (map carried es) ds p news)

  pub carried_from_there : AllByRecursion (λ e. value_under cmp (image cmp ps e.0) ds ≡ Some (f e)) es → IsPermutation (map carried es) ds
  carried_from_there h =
      entries_permuted o (map carried es) ds keys_carried news (all_map (λ d. value_under cmp d.0 ds ≡ Some d.1) carried es h)

-- a landmark has contents, so that its contents show that it is there
landmark_found : (bodies : List Body7) (o : Option (List Body7)) → 1 ≤ length bodies → unwrap_or o [] ≡ bodies → o ≡ Some bodies
landmark_found bodies None l e = absurd (omega (arith, l, ap length e))
landmark_found bodies (Some others) l e = ap Some e

module _ (r : Renumbering) (a b : County) (ca : IsCounty a) (cb : IsCounty b) (n : NumbersArePaired r a b) where
  -- a county onto which the parts are carried has each part
  pub parts_there : Carries r a b → ArePartsThere r a b
  parts_there h = (
    there_from_carried nat_keys r.chains (λ e. renumbered r (turned_if (turns r e.0) e.1)) a.chains b.chains n.chains
        (apart_from_sorted nat_keys (tlids a) ca.ascending.chains) (apart_from_sorted nat_keys (tlids b) cb.ascending.chains) h.chains,
    there_from_carried nat_keys r.names (λ (e : ℕ × Body5). e.1) a.names b.names n.names
        (apart_from_sorted nat_keys (feats a) ca.ascending.names) (apart_from_sorted nat_keys (feats b) cb.ascending.names) h.names,
    there_from_carried key_keys r.polygons (λ (e : PolygonKey × Option BodyP). e.1) a.polygons b.polygons n.polygons
        (apart_from_sorted key_keys (polygon_keys a) ca.ascending.polygons) (apart_from_sorted key_keys (polygon_keys b) cb.ascending.polygons) h.polygons,
    all_weaker (λ (e : ℕ × List Body7). value_under nat_cmp (image nat_cmp r.lands e.0) b.landmarks ≡ Some e.1) (IsLandmarkThere r b)
        (λ e k. ap (λ o. unwrap_or o []) k) a.landmarks
        (there_from_carried nat_keys r.lands (λ (e : ℕ × List Body7). e.1) a.landmarks b.landmarks n.lands
        (apart_from_sorted nat_keys (lands a) ca.ascending.landmarks) (apart_from_sorted nat_keys (lands b) cb.ascending.landmarks) h.landmarks),
  )

  -- and where it has each part and the links, the parts are carried
  pub parts_carried : ArePartsThere r a b → IsPermutation (map (carried_link r) a.links) b.links → Carries r a b
  parts_carried h links = record {
    numbers = n;
    chains = carried_from_there nat_keys r.chains (λ e. renumbered r (turned_if (turns r e.0) e.1)) a.chains b.chains n.chains
        (apart_from_sorted nat_keys (tlids a) ca.ascending.chains) (apart_from_sorted nat_keys (tlids b) cb.ascending.chains) h.0;
    names = carried_from_there nat_keys r.names (λ (e : ℕ × Body5). e.1) a.names b.names n.names
        (apart_from_sorted nat_keys (feats a) ca.ascending.names) (apart_from_sorted nat_keys (feats b) cb.ascending.names) h.1;
    polygons = carried_from_there key_keys r.polygons (λ (e : PolygonKey × Option BodyP). e.1) a.polygons b.polygons n.polygons
        (apart_from_sorted key_keys (polygon_keys a) ca.ascending.polygons) (apart_from_sorted key_keys (polygon_keys b) cb.ascending.polygons) h.2;
    landmarks = carried_from_there nat_keys r.lands (λ (e : ℕ × List Body7). e.1) a.landmarks b.landmarks n.lands
        (apart_from_sorted nat_keys (lands a) ca.ascending.landmarks) (apart_from_sorted nat_keys (lands b) cb.ascending.landmarks)
        (all_weaker (λ (e : ℕ × List Body7). (1 ≤ length e.1) × IsLandmarkThere r b e)
        (λ (e : ℕ × List Body7). value_under nat_cmp (image nat_cmp r.lands e.0) b.landmarks ≡ Some e.1)
        (λ e k. landmark_found e.1 (value_under nat_cmp (image nat_cmp r.lands e.0) b.landmarks) k.0 k.1) a.landmarks
        (all_both (λ (e : ℕ × List Body7). 1 ≤ length e.1) (IsLandmarkThere r b) a.landmarks ca.whole.bodies h.3));
    links = links;
  }
