-- Landmarks sorted by their bodies, their links and their places are in their new order.
use Rattle.arranged_county.proofs.Common.{AllByRecursion, AreClasses, AreReadAt, AreSortedLandmarks, AreWhole, Arrangement, Body7, County, DirectedChain, Fields8, IsApart, IsCounty, IsInOrder, IsPermutation, IsPermutation-map, IsPermutation-sym, IsPermutation-trans, IsTotalOrder, Known, List, Option, Ordering, PolygonKey, Some, [], all_map, all_permuted, all_weaker, among-get, among_known, ap, apart-permutation, apart_from_sorted, ap₂, arith, arranged_by, arrangement_of, arranges, bodies_at, classed_landmark_cmp, classed_place, eight_land, entry_keys, image, in_order, in_order-in_order, in_order-is_permutation, in_order-map, key_cmp, landmark_bodies_cmp, landmark_body_cmp, landmark_place_cmp, landmarks_in_order, lands, length, length-map, length-range_with_len, length_permutation, link_cmp, link_keys, link_part, link_part_cmp, link_under, links_from, links_with, lists_total, map, map-map, nat_cmp, nat_cmp_total, nat_keys, numbered, numbered_links, on, on_total, option_map, ordering_then, own_links, polygons_in_order, range_with_len, read_length, read_there, refl, slice_cmp, slice_get, slice_get-map, sorted_places, subst, sym, then_assoc, unwrap_or, up_to, up_to-strict, ℕ, ◌+◌, ◌∙◌, ◌∷◌, ◌≡◌}
use Rattle.std.proofs.lemmas.Cmp.{then_total}
use Rattle.arranged_county.proofs.Lists.Classes.{agree_in_order, agree_permuted, agree_weaker, classes_all}
use Rattle.arranged_county.proofs.Views.ViewTables.{by_land, keys_paired}
use Rattle.arranged_county.proofs.Polygons.PolygonOrder.{read_mapped}
use Rattle.ordered_lists.proofs.ByKey.Keys.{image-injective, image-known, known-permutation_to, lefts}
use Rattle.canonical_form.specs.Uses.{landmark_key, landmark_key_cmp, links_of}
use Rattle.county_chart.specs.County.{link_key}
use Rattle.county_chart.specs.Laws.KeyOrders.{link_part_keys}
use Rattle.canonical_form.specs.Arrangement.{links_relinked, new_keys, relinked}
use Rattle.canonical_form.proofs.Arrangements.Carrying.{landmarks_permutation, lands_renamed, links_arranged}
use Rattle.canonical_form.proofs.Arrangements.Placed.{lefts-numbered, rights-numbered}
use Rattle.canonical_form.proofs.Unique.SameLandmarks.{landmark_key_keys, lands_known, links_kept, relanded}
use Rattle.arranged_county.proofs.Landmarks.LandsByPlace.{links_along, number_at}
use Rattle.arranged_county.proofs.Views.ViewNumbers.{get_up_to}
use Rattle.canonical_form.proofs.Lists.Grouping.{grouped}
use Rattle.std.proofs.lemmas.List.Sorted.{IsPermutation-refl}
use Rattle.std.proofs.lemmas.Option.{slice_get_within}

-- lists compared by images of their elements
pub cmp_mapped : {X K : Type 0} (f : X → K) (cmp : K → K → Ordering) (xs ys : List X)
    → slice_cmp cmp (map f xs) (map f ys) ≡ slice_cmp (on f cmp) xs ys
cmp_mapped f cmp [] [] = refl
cmp_mapped f cmp [] (y ∷ ys) = refl
cmp_mapped f cmp (x ∷ xs) [] = refl
cmp_mapped f cmp (x ∷ xs) (y ∷ ys) = ap (ordering_then (cmp (f x) (f y))) (cmp_mapped f cmp xs ys)

-- landmarks are compared by an order
pub classed_landmarks_total : (links : List Fields8) (count : ℕ) → IsTotalOrder (classed_landmark_cmp links count)
classed_landmarks_total links count =
    then_total (on_total (λ (a : ℕ × ℕ). a.0) nat_cmp_total)
    (then_total (on_total (λ (a : ℕ × ℕ). map link_part (own_links links count a.1)) (lists_total link_part_keys.total))
    (on_total (λ (a : ℕ × ℕ). a.1) nat_cmp_total))

-- sorted landmarks are in the order of their bodies, their links and their places
module _ (county : County) (links : List Fields8) (count : ℕ) (classed : List (ℕ × ℕ))
    (known : AreClasses (length county.landmarks) (landmark_bodies_cmp county) classed) (places : List ℕ)
    (sorted : AreSortedLandmarks links count classed places) where
  pub all_sorted : IsPermutation (range_with_len 0 (length county.landmarks)) places
  all_sorted = subst (IsPermutation (range_with_len 0 (length county.landmarks))) (sym sorted.places_of)
      (IsPermutation-trans (range_with_len 0 (length county.landmarks)) (map classed_place classed) (map classed_place sorted.items)
      (classes_all (length county.landmarks) (landmark_bodies_cmp county) classed known)
      (IsPermutation-map classed_place classed sorted.items sorted.all))

  pub sorted_in_order : IsInOrder (landmark_place_cmp county links count) places
  sorted_in_order = subst (IsInOrder (landmark_place_cmp county links count)) (sym sorted.places_of)
      (in_order-map (landmark_place_cmp county links count) classed_place sorted.items
      (agree_in_order (classed_landmark_cmp links count) (λ a b. landmark_place_cmp county links count a.1 b.1) sorted.items
      (agree_permuted (classed_landmark_cmp links count) (λ a b. landmark_place_cmp county links count a.1 b.1) classed sorted.items sorted.all
      (agree_weaker (λ (a b : ℕ × ℕ). nat_cmp a.0 b.0) (λ a b. landmark_bodies_cmp county a.1 b.1) (classed_landmark_cmp links count)
      (λ a b. landmark_place_cmp county links count a.1 b.1)
      (λ a b e. ap (λ o. ordering_then o (ordering_then (slice_cmp link_part_cmp (map link_part (own_links links count a.1))
      (map link_part (own_links links count b.1))) (nat_cmp a.1 b.1))) e)
      classed known.agree)) sorted.in_order))

-- there are as many places as landmarks
pub places_counted : (county : County) (places : List ℕ) → IsPermutation (range_with_len 0 (length county.landmarks)) places
    → length places ≡ length county.landmarks
places_counted county places p = length_permutation (range_with_len 0 (length county.landmarks)) places p
    ∙ length-range_with_len 0 (length county.landmarks)

-- links under new numbers are in the order of their LANDs
pub numbered_by_land : (county : County) (polygons : List PolygonKey) (numbers : List ℕ)
    → IsInOrder (on eight_land nat_cmp) (numbered_links county polygons numbers)
numbered_by_land county polygons numbers =
    by_land (numbered_links county polygons numbers) (in_order-in_order link_keys.total (map (link_under polygons numbers) county.links))

module _ (county : County) (arrangement : List DirectedChain) (is : IsCounty county) (whole : AreWhole county arrangement) (polygons : List PolygonKey)
    (stated : polygons ≡ polygons_in_order county (arrangement_of county arrangement)) where
  abbrev order : Arrangement
  order = arrangement_of county arrangement

  abbrev relinks : List Fields8
  relinks = map (relinked (new_keys county order)) county.links

  lands_apart : IsApart nat_cmp (lands county)
  lands_apart = apart_from_sorted nat_keys (lands county) is.ascending.landmarks

  -- links whose landmarks are numbered along a list of all LANDs
  module _ (numbers : List ℕ) (all : IsPermutation (lands county) numbers) where
    abbrev f : ℕ → ℕ
    f = image nat_cmp (numbered numbers)

    abbrev renumbered : List Fields8
    renumbered = map (link_under polygons numbers) county.links

    abbrev listed_links : List Fields8
    listed_links = numbered_links county polygons numbers

    numbers_apart : IsApart nat_cmp numbers
    numbers_apart = apart-permutation nat_keys numbers (lands county) (IsPermutation-sym (lands county) numbers all) lands_apart

    is_numbered : (n : ℕ) → Known nat_cmp (lands county) n → Known nat_cmp (lefts (numbered numbers)) n
    is_numbered n k = subst (λ ks. Known nat_cmp ks n) (sym (lefts-numbered numbers)) (known-permutation_to nat_keys n (lands county) numbers all k)

    injective : (n m : ℕ) → Known nat_cmp (lands county) n → Known nat_cmp (lands county) m → f n ≡ f m → n ≡ m
    injective n m k l = image-injective nat_keys (numbered numbers) n m
        (subst (IsApart nat_cmp) (sym (rights-numbered numbers))
        (apart_from_sorted nat_keys (up_to (length numbers)) (up_to-strict (length numbers))))
        (is_numbered n k) (is_numbered m l)

    under : renumbered ≡ map (relanded f) relinks
    under = ap (λ ks. map (link_under ks numbers) county.links) stated
        ∙ sym (map-map (relanded f) (relinked (new_keys county order)) county.links)

    permuted : IsPermutation renumbered listed_links
    permuted = IsPermutation-sym listed_links renumbered (in_order-is_permutation link_cmp renumbered)

    kept : (n : ℕ) → Known nat_cmp (lands county) n → links_of listed_links (f n) ≡ links_of (links_relinked county order) n
    kept = links_kept f (Known nat_cmp (lands county)) injective relinks (links_relinked county order) listed_links
        (all_map (λ (l : Fields8). Known nat_cmp (lands county) l.land) (relinked (new_keys county order)) county.links (lands_known county is.closed))
        (in_order-in_order link_keys.total relinks) (in_order-is_permutation link_cmp relinks)
        (in_order-in_order link_keys.total renumbered) (subst (λ ls. IsPermutation ls listed_links) under permuted)

    own_there : (i n : ℕ) → slice_get numbers i ≡ Some n → links_of listed_links (i + 1) ≡ links_of (links_relinked county order) n
    own_there i n h = ap (links_of listed_links) (sym (number_at numbers numbers_apart i n h))
        ∙ kept n (known-permutation_to nat_keys n numbers (lands county) (IsPermutation-sym (lands county) numbers all)
        (among_known nat_keys n numbers (among-get numbers i n h)))

    -- which are all their LANDs
    lands_numbered : AllByRecursion (λ (l : Fields8). Known nat_cmp (up_to (length numbers)) l.land) listed_links
    lands_numbered = all_permuted (λ (l : Fields8). Known nat_cmp (up_to (length numbers)) l.land) renumbered listed_links permuted
        (all_map (λ (l : Fields8). Known nat_cmp (up_to (length numbers)) l.land) (link_under polygons numbers) county.links
        (all_weaker (λ (l : Fields8). Known nat_cmp (lands county) l.land) (λ l. Known nat_cmp (up_to (length numbers)) (f l.land))
        (λ l k. subst (λ ks. Known nat_cmp ks (f l.land)) (rights-numbered numbers)
        (image-known nat_keys (numbered numbers) l.land (is_numbered l.land k))) county.links (lands_known county is.closed)))

  abbrev links : List Fields8
  links = numbered_links county polygons (lands county)

  land_count : length (lands county) ≡ length county.landmarks
  land_count = length-map county.landmarks (λ (d : ℕ × List Body7). d.0)

  own : (i n : ℕ) → slice_get (lands county) i ≡ Some n
      → map link_part (own_links links (length county.landmarks) i) ≡ links_of (links_relinked county order) n
  own i n h =
      ap (λ (o : Option ℕ). map link_part (links_with links o))
      (get_up_to (length county.landmarks) i (omega (arith, slice_get_within (lands county) i n h, land_count)))
      ∙ own_there (lands county) (IsPermutation-refl (lands county)) i n h

  body_read : (i : ℕ) (x : ℕ × List Body7) → slice_get county.landmarks i ≡ Some x → bodies_at county i ≡ x.1
  body_read i x h = ap (λ (o : Option (List Body7)). unwrap_or o [])
      (slice_get-map (λ (d : ℕ × List Body7). d.1) county.landmarks i ∙ ap (option_map (λ (d : ℕ × List Body7). d.1)) h)

  land_read : (i : ℕ) (x : ℕ × List Body7) → slice_get county.landmarks i ≡ Some x → slice_get (lands county) i ≡ Some x.0
  land_read i x h = slice_get-map (λ (d : ℕ × List Body7). d.0) county.landmarks i ∙ ap (option_map (λ (d : ℕ × List Body7). d.0)) h

  agrees : (i j : ℕ) (x y : ℕ × List Body7) → slice_get county.landmarks i ≡ Some x → slice_get county.landmarks j ≡ Some y
      → landmark_place_cmp county links (length county.landmarks) i j ≡ ordering_then
      (landmark_key_cmp (landmark_key (links_relinked county order) x) (landmark_key (links_relinked county order) y)) (nat_cmp i j)
  agrees i j x y h k =
      ap₂ (λ bs cs. ordering_then (slice_cmp landmark_body_cmp bs cs)
      (ordering_then (slice_cmp link_part_cmp (map link_part (own_links links (length county.landmarks) i))
      (map link_part (own_links links (length county.landmarks) j))) (nat_cmp i j))) (body_read i x h) (body_read j y k)
      ∙ ap₂ (λ ps qs. ordering_then (slice_cmp landmark_body_cmp x.1 y.1) (ordering_then (slice_cmp link_part_cmp ps qs) (nat_cmp i j)))
      (own i x.0 (land_read i x h)) (own j y.0 (land_read j y k))
      ∙ then_assoc (slice_cmp landmark_body_cmp x.1 y.1)
      (slice_cmp link_part_cmp (links_of (links_relinked county order) x.0) (links_of (links_relinked county order) y.0)) (nat_cmp i j)

  module _ (places : List ℕ) (p : IsPermutation (range_with_len 0 (length county.landmarks)) places)
      (ordered : IsInOrder (landmark_place_cmp county links (length county.landmarks)) places) where
    pub landmarks_stated : AreReadAt county.landmarks places (landmarks_in_order county order)
    landmarks_stated = sorted_places (on_total (landmark_key (links_relinked county order)) landmark_key_keys.total) county.landmarks
        (landmark_place_cmp county links (length county.landmarks)) agrees places p ordered

    abbrev new_lands : List ℕ
    new_lands = entry_keys (landmarks_in_order county order)

    abbrev news : List Fields8
    news = numbered_links county polygons new_lands

    lands_read : AreReadAt (lands county) places new_lands
    lands_read = read_mapped (λ (d : ℕ × List Body7). d.0) county.landmarks (landmarks_in_order county order) places landmarks_stated

    all_there : IsPermutation (lands county) new_lands
    all_there = IsPermutation-sym new_lands (lands county)
        (IsPermutation-map (λ (d : ℕ × List Body7). d.0) (landmarks_in_order county order) county.landmarks
        (landmarks_permutation county order is (arranges county arrangement is whole)))

    -- a landmark has the links that it had at its old place
    regrouped : (i place : ℕ) → slice_get places i ≡ Some place
        → links_of news (i + 1) ≡ map link_part (own_links links (length county.landmarks) place)
    regrouped i place h =
        let read = read_there (slice_get (lands county)) places new_lands lands_read i place h in
        own_there new_lands all_there i read.0 read.1 ∙ sym (own place read.0 read.2)

    new_links : news ≡ (arranged_by county arrangement).links
    new_links =
        ap₂ (λ ps ls. in_order link_cmp (map (λ (l : Fields8). record {
          file = l.file;
          cenid = (image key_cmp ps (link_key l)).0;
          polyid = (image key_cmp ps (link_key l)).1;
          land = image nat_cmp ls l.land;
        }) county.links))
        (keys_paired county arrangement is whole polygons stated)
        (sym (lands_renamed county order is (arranges county arrangement is whole)))
        ∙ sym (links_arranged county order is (arranges county arrangement is whole))

    pub links_stated : links_from links (length county.landmarks) 1 places ≡ (arranged_by county arrangement).links
    links_stated =
        let count : length new_lands ≡ length places = read_length (slice_get (lands county)) places new_lands lands_read in
        links_along links news (length county.landmarks) 1 places regrouped
        ∙ grouped eight_land news (numbered_by_land county polygons new_lands) (up_to (length places)) (up_to-strict (length places))
        (subst (λ n. AllByRecursion (λ (l : Fields8). Known nat_cmp (up_to n) l.land) news) count (lands_numbered new_lands all_there))
        ∙ new_links
