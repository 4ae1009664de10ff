-- Polygons in the order of first appearance are the polygons of the arranged county by number.
use Rattle.canonical_form.proofs.Common.{AllByRecursion, AllKeysContained, Arrangement, Arranges, BodyP, County, IfSome, IsApart, IsCounty, IsPermutation, IsPermutation-map, IsPermutation-sym, IsPermutation-trans, IsStrictlySortedBy, List, None, Option, PolygonKey, Some, [], all_at, ap, arith, arranged, carried_polygon, entry_keys, entry_polyid, entry_values, image, images-lefts, in_order, in_order-in_order, in_order-is_permutation, in_order-map, in_order-permutation, in_order-strict, key_cmp, key_keys, lefts, length, map, map-map, map_agree_all, nat_cmp, nat_cmp_total, nat_keys, numbered, numbered_from, on, on_total, option_and_then, option_map, placed, polygon_keys, polygon_under, polygons_along, polygons_by_number, polygons_in_order, refl, renaming_of, rights, slice_get, slice_get-map, strict-map, strict-permutation, subst, suc, sym, under_cenid, under_number, up_to, value-at_place, value_under, zero, ℕ, ◌+◌, ◌∙◌, ◌∷◌, ◌≡◌}
use Rattle.canonical_form.proofs.Arrangements.Carrying.{polygon_lefts, polygons_arranged, polygons_permutation, polygons_renamed}
use Rattle.canonical_form.proofs.Arrangements.Placed.{lefts-numbered, rights-numbered}
use Rattle.canonical_form.proofs.Lists.Counting.{map-equal_all, up_to-strict}
use Rattle.canonical_form.proofs.Numbering.FirstSeen.{first_seen-apart}
use Rattle.ordered_lists.proofs.Lists.Reordered.{all_permuted}

-- numbered elements, read by place
pub numbered_at : {X : Type 0} (i : ℕ) (xs : List X) (k : ℕ) → slice_get (numbered_from i xs) k ≡ option_map (λ x. (i + k, x))
    (slice_get xs k)
numbered_at i [] k = refl
numbered_at i (x ∷ xs) zero = ap (λ j. Some (j, x)) (let e : i ≡ i + 0 = omega arith in e)
numbered_at i (x ∷ xs) (suc k) = numbered_at (suc i) xs k
    ∙ ap (λ j. option_map (λ x. (j, x)) (slice_get xs k)) (let e : suc i + k ≡ i + suc k = omega arith in e)

-- the number of a key is its place plus one
pub key_numbered : {K : Type 0} (keys : List K) (i : ℕ) → slice_get (numbered keys) i ≡ option_map {U = K × ℕ} (λ key. (key, i + 1))
    (slice_get keys i)
key_numbered {K} keys i = slice_get-map (λ (pair : ℕ × K). (pair.1, pair.0)) (numbered_from 1 keys) i
    ∙ ap (option_map (λ (pair : ℕ × K). (pair.1, pair.0))) (numbered_at 1 keys i) ∙ go (slice_get keys i)
  where
    go : (o : Option K) → option_map (λ (pair : ℕ × K). (pair.1, pair.0)) (option_map {U = ℕ × K} (λ x. (1 + i, x)) o)
        ≡ option_map {U = K × ℕ} (λ key. (key, i + 1)) o
    go None = refl
    go (Some x) = ap (λ j. Some (x, j)) (let e : 1 + i ≡ i + 1 = omega arith in e)

-- a property of the element at each place is a property of all elements
all_places : {X : Type 0} (P : X → Type 0) (xs : List X) → ((i : ℕ) (x : X) → slice_get xs i ≡ Some x → P x) → AllByRecursion P xs
all_places P [] h = tt
all_places P (x ∷ xs) h = (h zero x refl, all_places P xs (λ i. h (suc i)))

-- each content is the one stored for its key
all_under : (es : List (PolygonKey × Option BodyP)) → IsStrictlySortedBy key_cmp (entry_keys es)
    → AllByRecursion (λ e. value_under key_cmp e.0 es ≡ Some e.1) es
all_under es h = all_places (λ e. value_under key_cmp e.0 es ≡ Some e.1) es (λ i e g.
    sym (value-at_place key_keys e.0 es i h
    (slice_get-map (λ (d : PolygonKey × Option BodyP). d.0) es i ∙ ap (option_map (λ (d : PolygonKey × Option BodyP). d.0)) g))
    ∙ slice_get-map (λ (d : PolygonKey × Option BodyP). d.1) es i ∙ ap (option_map (λ (d : PolygonKey × Option BodyP). d.1)) g)

-- if the key of a polygon is at the place of its number, in the order of keys, its content is there too
pub content_at_number : (county : County) → IsStrictlySortedBy key_cmp (polygon_keys county)
    → (place : ℕ) (polygon : PolygonKey × Option BodyP) → slice_get (polygon_keys county) place ≡ Some polygon.0
    → slice_get (polygons_by_number county) place ≡ Some polygon → slice_get (entry_values county.polygons) place ≡ Some polygon.1
content_at_number county strict place polygon at_key at_number =
    let Holds : PolygonKey × Option BodyP → Type 0 = λ e. value_under key_cmp e.0 county.polygons ≡ Some e.1 in
    let all : AllByRecursion Holds (polygons_by_number county) =
    all_permuted Holds county.polygons (polygons_by_number county)
    (IsPermutation-sym (polygons_by_number county) county.polygons (in_order-is_permutation (on entry_polyid nat_cmp) county.polygons))
    (all_under county.polygons strict) in
    value-at_place key_keys polygon.0 county.polygons place strict at_key
    ∙ subst (λ o. IfSome o Holds) at_number (all_at Holds (polygons_by_number county) all place)

module _ (county : County) (arrangement : Arrangement) (is : IsCounty county) (arranges : Arranges arrangement county)
    (sides : AllKeysContained (polygons_along county.chains) (polygon_keys county)) where
  abbrev seen : List PolygonKey
  seen = polygons_in_order county arrangement

  -- a polygon with its new key and its content
  abbrev renewed : PolygonKey → PolygonKey × Option BodyP
  renewed key = (image key_cmp (renaming_of county arrangement).polygons key, option_and_then (λ body. body) (polygon_under county key))

  renewed_entries : map renewed (polygon_keys county) ≡ map (carried_polygon (renaming_of county arrangement)) county.polygons
  renewed_entries = map-map renewed (λ (e : PolygonKey × Option BodyP). e.0) county.polygons
      ∙ map_agree_all (λ (e : PolygonKey × Option BodyP). renewed e.0) (carried_polygon (renaming_of county arrangement))
      (λ e. value_under key_cmp e.0 county.polygons ≡ Some e.1)
      (λ e is. ap (λ (o : Option (Option BodyP)). (image key_cmp (renaming_of county arrangement).polygons e.0, option_and_then (λ body. body) o)) is)
      county.polygons (all_under county.polygons is.ascending.polygons)

  -- the new keys have the numbers of first appearance
  renewed_numbers : map renewed seen ≡ map (under_number county) (numbered seen)
  renewed_numbers =
      let pairs : List (PolygonKey × PolygonKey) = (renaming_of county arrangement).polygons in
      let left : lefts pairs ≡ seen = polygon_lefts county arrangement is arranges sides in
      let apart : IsApart key_cmp (lefts pairs) =
      subst (IsApart key_cmp) (sym left) (first_seen-apart key_keys (polygons_along (placed county arrangement))) in
      let images : map (image key_cmp pairs) seen ≡ map (λ (p : PolygonKey × ℕ). (p.0.0, p.1)) (numbered seen) =
      ap (map (image key_cmp pairs)) (sym left) ∙ images-lefts key_keys pairs apart ∙ ap rights (polygons_renamed county arrangement is arranges)
      ∙ map-map (λ (q : PolygonKey × PolygonKey). q.1) under_cenid (numbered seen) in
      ap (map renewed) (sym (lefts-numbered seen))
      ∙ map-map renewed (λ (p : PolygonKey × ℕ). p.0) (numbered seen)
      ∙ map_agree_all (λ (p : PolygonKey × ℕ). renewed p.0) (under_number county) (λ p. image key_cmp pairs p.0 ≡ (p.0.0, p.1))
      (λ p is. ap (λ k. (k, option_and_then (λ body. body) (polygon_under county p.0))) is) (numbered seen)
      (map-equal_all (λ (p : PolygonKey × ℕ). image key_cmp pairs p.0) (λ p. (p.0.0, p.1)) (numbered seen)
      (sym (map-map (image key_cmp pairs) (λ (p : PolygonKey × ℕ). p.0) (numbered seen))
      ∙ ap (map (image key_cmp pairs)) (lefts-numbered seen) ∙ images))

  -- The order of first appearance is the order of numbers.
  pub by_number : map (under_number county) (numbered seen) ≡ polygons_by_number (arranged county arrangement)
  by_number =
      let ours : List (PolygonKey × Option BodyP) = map (under_number county) (numbered seen) in
      let theirs : List (PolygonKey × Option BodyP) = polygons_by_number (arranged county arrangement) in
      let carried : List (PolygonKey × Option BodyP) = map (carried_polygon (renaming_of county arrangement)) county.polygons in
      let sorted : List (PolygonKey × Option BodyP) = in_order (on (λ (e : PolygonKey × Option BodyP). e.0) key_cmp) carried in
      let to_carried : IsPermutation ours carried =
      subst (IsPermutation ours) renewed_entries
      (subst (λ es. IsPermutation es (map renewed (polygon_keys county))) renewed_numbers
      (IsPermutation-map renewed seen (polygon_keys county) (polygons_permutation county arrangement is arranges sides))) in
      let from_sorted : IsPermutation theirs sorted =
      subst (λ es. IsPermutation (in_order (on entry_polyid nat_cmp) es) sorted) (sym (polygons_arranged county arrangement is arranges))
      (in_order-is_permutation (on entry_polyid nat_cmp) sorted) in
      let both : IsPermutation ours theirs =
      IsPermutation-trans ours carried theirs to_carried
      (IsPermutation-sym theirs carried (IsPermutation-trans theirs sorted carried from_sorted
      (in_order-is_permutation (on (λ (e : PolygonKey × Option BodyP). e.0) key_cmp) carried))) in
      let numbers : map entry_polyid ours ≡ up_to (length seen) =
      map-map entry_polyid (under_number county) (numbered seen) ∙ rights-numbered seen in
      let strict : IsStrictlySortedBy nat_cmp (map entry_polyid ours) = subst (IsStrictlySortedBy nat_cmp) (sym numbers)
      (up_to-strict (length seen)) in
      let same : map entry_polyid ours ≡ map entry_polyid theirs =
      in_order-permutation nat_keys (map entry_polyid ours) (map entry_polyid theirs)
      (in_order-strict nat_cmp (map entry_polyid ours) strict)
      (in_order-map nat_cmp entry_polyid theirs (in_order-in_order (on_total entry_polyid nat_cmp_total) (arranged county arrangement).polygons))
      (IsPermutation-map entry_polyid ours theirs both) in
      strict-permutation nat_cmp_total entry_polyid ours theirs (strict-map nat_cmp entry_polyid ours strict)
      (strict-map nat_cmp entry_polyid theirs (subst (IsStrictlySortedBy nat_cmp) same strict)) both
