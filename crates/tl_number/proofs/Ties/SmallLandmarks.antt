-- Landmarks and their links in two choices of a county and of its small county: records of types 7 and 8 compare alike.
use Rattle.tl_number.proofs.Common.{AllByRecursion, Among, Body7, Bool, County, Eight, Equal, Fields8, FitsRecord, Greater, IsApart, IsInOrder, IsKeyOrder, IsPermutation, IsPermutation-map, IsPermutation-sym, IsPermutation-trans, IsTrue, Known, List, None, Ordering, Seven, Some, Type8, [], all_among, all_everywhere, all_themselves, all_unmap, among-unmap, ap, apart-permutation, apart_from_sorted, apart_tail, append-nil, ap₂, arith, bytes_cmp, carried_link, cond, contains, differ, differ_apart, each_from, entry_values, eqb-true, false, false_from_ne_true, false≢true, filter, filter-mapped, from_in_order, groups_cmp, image, in_order, in_order-in_order, in_order-is_permutation, in_order-map, in_order-permutation, inl, inr, is_eq, is_gt, key_cmp, known-permutation, known_is_among, landmark_body_cmp, landmark_body_keys, landmark_key, landmark_key_cmp, landmark_key_keys, landmarks_in_order, lands, lands_renamed, link_cmp, link_key, link_part, link_part_cmp, links_arranged, links_of, lists_keys, ltb-true, map, map-map, map_agree_all, nat_cmp, nat_cmp_is, nat_keys, nat_list_cmp_total, not, not-true, on, on_total, one_entry, order_itself, ordering_then, packed_sevens, place_in, polygons_renamed, refl, relinked, same-itself, same_groups, same_or_not, slice_cmp, spelling_of, subst, sym, then-first, tied_itself, times, to_filter, true, type_7_by_landmark, type_8_together, unwrap_or, value_under, ℕ, ◌+◌, ◌<◌, ◌==◌, ◌∙◌, ◌∷◌, ◌≡◌, ◌⊎◌}
use Rattle.canonical_form.proofs.Numbering.NewNumbers.{image-numbered}
use Rattle.county_chart.specs.BodyOrder.{LinkPart}
use Rattle.county_chart.specs.Laws.KeyOrders.{link_keys}
use Rattle.ordered_lists.proofs.Lists.Members.{among-permutation}
use Rattle.tl_layout.specs.RecordTables.{table_8}
use Rattle.tl_number.proofs.Landmarks.BodiesFirst.{bodies_in_order, same_bodies, same_landmarks}
use Rattle.tl_number.proofs.Ties.Columns.{columns_alike, columns_decide, fields_cmp, next_column}
use Rattle.tl_number.proofs.Ties.KeyKinds.{polygon_kind, polygon_number}
use Rattle.tl_number.proofs.Ties.Keys.{place_later}
use Rattle.tl_number.proofs.Ties.ListsAlike.{among_filtered, images_alike, order_alike, order_mapped}
use Rattle.tl_number.proofs.Ties.ComparedChoices.{ComparedChoices, arranges_in, cenid_kept, choice, link_on_side, new_in, order_in, whole_in}
use Rattle.tl_number.proofs.Ties.PartChoices.{filter_narrower, filter_ordered}
use Rattle.tl_number.proofs.Ties.Ranks.{masked_by, next_cmp, places_alike, same_place, wanted_decide}
use Rattle.tl_number.proofs.Ties.SmallKeys.{AreWanted}
use Rattle.tl_number.proofs.Ties.SmallRecords.{choices_decide, eights_fit, images_in_order}

-- Records of type 7 tie in any two choices of a county.
pub sevens_tie : (c : ComparedChoices) (n k : ℕ) → Equal ≡ groups_cmp Seven (type_7_by_landmark (choice c n)) (type_7_by_landmark (choice c k))
sevens_tie c n k = same_groups Seven (type_7_by_landmark (choice c n)) (type_7_by_landmark (choice c k)) (ap (map packed_sevens)
    (same_landmarks c.county c.is (order_in c n) (order_in c k) (arranges_in c n) (arranges_in c k)))

-- ---- lists

-- a list in one order is in another one if that says nothing else of elements with a property
weaker_order : {X : Type 0} (by to : X → X → Ordering) (P : X → Type 0)
    → ((x y : X) → P x → P y → is_gt (by x y) ≡ false → is_gt (to x y) ≡ false) → (xs : List X) → AllByRecursion P xs
    → IsInOrder by xs → IsInOrder to xs
weaker_order by to P weaker [] all h = tt
weaker_order by to P weaker (x ∷ xs) all h = (each xs all.1 h.0, weaker_order by to P weaker xs all.1 h.1)
  where
    each : (ys : List _) → AllByRecursion P ys → AllByRecursion (λ y. is_gt (by x y) ≡ false) ys → AllByRecursion (λ y. is_gt (to x y) ≡ false) ys
    each [] b g = tt
    each (y ∷ ys) b g = (weaker x y all.0 b.0 g.0, each ys b.1 g.1)

-- lists in which the same places have a wanted element, and all others are the same
masked_parts : {K : Type 0} (wanted : K → Bool) (xs ys : List K) → map wanted xs ≡ map wanted ys
    → filter (λ k. not (wanted k)) xs ≡ filter (λ k. not (wanted k)) ys → masked_by wanted xs ≡ masked_by wanted ys
masked_parts wanted [] [] f e = refl
masked_parts wanted [] (y ∷ ys) f e = cc
masked_parts wanted (x ∷ xs) [] f e = cc
masked_parts {K} wanted (x ∷ xs) (y ∷ ys) f e =
    let here : wanted x ≡ wanted y = cc in
    let rest : map wanted xs ≡ map wanted ys = cc in
    go (wanted x) (wanted y) here e (masked_parts wanted xs ys rest)
  where
    others : List K → List K
    others ks = filter (λ k. not (wanted k)) ks

    go : (b c : Bool) → b ≡ c → cond (not b) (x ∷ others xs) (others xs) ≡ cond (not c) (y ∷ others ys) (others ys)
        → (others xs ≡ others ys → masked_by wanted xs ≡ masked_by wanted ys)
        → cond b None (Some x) ∷ masked_by wanted xs ≡ cond c None (Some y) ∷ masked_by wanted ys
    go true true s t ih = ap (λ l. None ∷ l) (ih t)
    go true false s t ih = absurd (false≢true (sym s))
    go false true s t ih = absurd (false≢true s)
    go false false s t ih =
        let one : x ≡ y = cc in
        let rest : others xs ≡ others ys = cc in
        λ i. Some (one i) ∷ ih rest i

module _ {V : Type 0} where
  abbrev keys_of : List (ℕ × V) → List ℕ
  keys_of es = map (λ (e : ℕ × V). e.0) es

  -- the value under the key of an entry
  value_own : (es : List (ℕ × V)) → IsApart nat_cmp (keys_of es) → (e : ℕ × V) → Among e es → value_under nat_cmp e.0 es ≡ Some e.1
  value_own [] a e m = absurd m
  value_own (d ∷ es) a e m = go m (same_or_not nat_keys e.0 d.0) (value_own es (apart_tail nat_keys d.0 (keys_of es) a) e)
    where
      first : e ≡ d → value_under nat_cmp e.0 (d ∷ es) ≡ Some e.1
      first f = ap (λ b. cond b (Some d.1) (value_under nat_cmp e.0 es)) ((λ i. is_eq (nat_cmp (f i).0 d.0)) ∙ same-itself nat_keys d.0)
          ∙ (λ i. Some (sym f i).1)

      go : Among e (d ∷ es) → (e.0 ≡ d.0) ⊎ (is_eq (nat_cmp e.0 d.0) ≡ false) → (Among e es → value_under nat_cmp e.0 es ≡ Some e.1)
          → value_under nat_cmp e.0 (d ∷ es) ≡ Some e.1
      go (inl f) s ih = first f
      go (inr n) (inl s) ih = first (one_entry nat_keys (d ∷ es) a e d (inr n) (inl refl) s)
      go (inr n) (inr s) ih = ap (λ b. cond b (Some d.1) (value_under nat_cmp e.0 es)) s ∙ ih n

  -- of entries in the order of their values, one with a greater value comes later
  values_placed : {cmp : V → V → Ordering} → IsKeyOrder cmp → (es : List (ℕ × V)) → IsApart nat_cmp (keys_of es)
      → IsInOrder cmp (map (λ (e : ℕ × V). e.1) es) → (p q : ℕ × V) → Among p es → Among q es → is_gt (cmp p.1 q.1) ≡ true
      → place_in nat_cmp (keys_of es) q.0 < place_in nat_cmp (keys_of es) p.0
  values_placed o [] a h p q m n gt = absurd m
  values_placed {cmp} o (e ∷ es) a h p q m n gt =
      go m n (same_or_not nat_keys q.0 e.0) (λ l r. values_placed o es (apart_tail nat_keys e.0 (keys_of es) a) h.1 p q l r gt)
    where
      first : is_gt (cmp e.1 q.1) ≡ false
      first = all_among (λ (d : ℕ × V). is_gt (cmp e.1 d.1) ≡ false) q (e ∷ es)
          (order_itself o e.1, all_unmap (λ v. is_gt (cmp e.1 v) ≡ false) (λ (d : ℕ × V). d.1) es h.0) n

      apart : is_eq (nat_cmp p.0 e.0) ≡ false
      apart = differ nat_keys p.0 e.0 (λ s. false≢true (sym first
          ∙ (λ i. is_gt (cmp (sym (one_entry nat_keys (e ∷ es) a p e m (inl refl) s) i).1 q.1)) ∙ gt))

      later : place_in nat_cmp (keys_of (e ∷ es)) p.0 ≡ 1 + place_in nat_cmp (keys_of es) p.0
      later = place_later nat_keys e.0 (keys_of es) p.0 apart

      at_first : q.0 ≡ e.0 → place_in nat_cmp (keys_of (e ∷ es)) q.0 ≡ 0
      at_first s = ap (λ t. cond (not t) (1 + place_in nat_cmp (keys_of es) q.0) 0) ((λ i. is_eq (nat_cmp (s i) e.0)) ∙ same-itself nat_keys e.0)

      go : Among p (e ∷ es) → Among q (e ∷ es) → (q.0 ≡ e.0) ⊎ (is_eq (nat_cmp q.0 e.0) ≡ false)
          → (Among p es → Among q es → place_in nat_cmp (keys_of es) q.0 < place_in nat_cmp (keys_of es) p.0)
          → place_in nat_cmp (keys_of (e ∷ es)) q.0 < place_in nat_cmp (keys_of (e ∷ es)) p.0
      go (inl f) r s ih = absurd (differ_apart nat_keys p.0 e.0 apart (λ i. (f i).0))
      go (inr l) r (inl s) ih = let none = at_first s in omega (arith, later, none)
      go (inr l) (inl g) (inr s) ih = absurd (differ_apart nat_keys q.0 e.0 s (λ i. (g i).0))
      go (inr l) (inr r) (inr s) ih =
          let before = ih l r in
          omega (arith, later, before, place_later nat_keys e.0 (keys_of es) q.0 s)

-- ---- new LANDs

module _ (c : ComparedChoices) (i : ℕ) where
  -- the landmarks of a choice in their order, their LANDs, and the new number of a LAND
  abbrev landmarks_in : List (ℕ × List Body7)
  landmarks_in = landmarks_in_order c.county (order_in c i)

  abbrev lands_in : List ℕ
  lands_in = map (λ (e : ℕ × List Body7). e.0) landmarks_in

  abbrev land_number : ℕ → ℕ
  land_number = image nat_cmp (new_in c i).lands

  lands_permuted : IsPermutation lands_in (lands c.county)
  lands_permuted = IsPermutation-map (λ (e : ℕ × List Body7). e.0) landmarks_in c.county.landmarks
      (in_order-is_permutation _ c.county.landmarks)

  -- it's its place, counted from 1
  number_is : (k : ℕ) → Known nat_cmp (lands c.county) k → land_number k ≡ 1 + place_in nat_cmp lands_in k
  number_is k h = ap (λ pairs. image nat_cmp pairs k) (lands_renamed c.county (order_in c i) c.is (arranges_in c i))
      ∙ image-numbered lands_in k (known-permutation nat_keys k lands_in (lands c.county) lands_permuted h)

-- the landmark of a link is in the county
land_known : (county : County) → AllByRecursion (λ link. IsTrue (contains nat_cmp link.land (lands county))) county.links
    → (link : Fields8) → Among link county.links → Known nat_cmp (lands county) link.land
land_known county all link there = ltb-true 0 (times nat_cmp link.land (lands county))
    (all_among (λ (l : Fields8). IsTrue (contains nat_cmp l.land (lands county))) link county.links all there)

-- ---- A small county with landmarks that are kept by their contents, and the links of these. The polygons of these links are wanted. Those of
-- other links have one number in all choices.
module _ {whole small : ComparedChoices} {is_in : ℕ → Bool} (polygons : AreWanted polygon_kind whole small is_in)
    (keep : ℕ → Bool) (keeps : List Body7 → Bool)
    (by_contents : (e : ℕ × List Body7) → Among e whole.county.landmarks → keep e.0 ≡ keeps e.1)
    (landmarks : small.county.landmarks ≡ filter (λ e. keep e.0) whole.county.landmarks)
    (links : small.county.links ≡ filter (λ link. keep link.land) whole.county.links)
    (wanted : (link : Fields8) → Among link whole.county.links → keep link.land ≡ true → contains key_cmp (link_key link) polygons.wanted ≡ true)
    (closed : (n k : ℕ) (link : Fields8) → Among link whole.county.links → keep link.land ≡ false
    → polygon_number (new_in whole n) (link_key link) ≡ polygon_number (new_in whole k) (link_key link)) where
  abbrev all_links : List Fields8
  all_links = whole.county.links

  abbrev keeps_link : Fields8 → Bool
  keeps_link link = keep link.land

  abbrev keeps_landmark : ℕ × List Body7 → Bool
  keeps_landmark e = keep e.0

  -- the links of one landmark
  abbrev own : ℕ → List Fields8
  own land = filter (λ link. link.land == land) all_links

  of_own : (link : Fields8) (land : ℕ) → Among link (own land) → Among link all_links × (link.land ≡ land)
  of_own link land m =
      let found = among_filtered (λ (l : Fields8). l.land == land) link all_links m in
      (found.0, eqb-true link.land land found.1)

  -- the numbers of the polygons of kept links compare alike
  numbers_alike : (n k : ℕ) (x y : Fields8) → Among x all_links → Among y all_links → keep x.land ≡ true → keep y.land ≡ true
      → nat_cmp (polygon_number (new_in whole n) (link_key x)) (polygon_number (new_in whole k) (link_key y))
      ≡ nat_cmp (polygon_number (new_in small n) (link_key x)) (polygon_number (new_in small k) (link_key y))
  numbers_alike n k x y h l e f = (polygons.alike n k).wanted_alike (link_key x) (link_key y) (wanted x h e) (wanted y l f)
      (link_on_side small.county small.is small.known.sides x (subst (Among x) (sym links) (to_filter keeps_link x all_links h e)))
      (link_on_side small.county small.is small.known.sides y (subst (Among y) (sym links) (to_filter keeps_link y all_links l f)))

  -- CENIDs are the same
  cenids_alike : (n k : ℕ) (x y : Fields8)
      → slice_cmp nat_cmp (image key_cmp (new_in whole n).polygons (link_key x)).0 (image key_cmp (new_in whole k).polygons (link_key y)).0
      ≡ slice_cmp nat_cmp (image key_cmp (new_in small n).polygons (link_key x)).0 (image key_cmp (new_in small k).polygons (link_key y)).0
  cenids_alike n k x y = ap₂ (slice_cmp nat_cmp) (cenid_kept whole n (link_key x) ∙ sym (cenid_kept small n (link_key x)))
      (cenid_kept whole k (link_key y) ∙ sym (cenid_kept small k (link_key y)))

  -- One choice.
  module _ (n : ℕ) where
    abbrev relinked_in : ComparedChoices → Fields8 → Fields8
    relinked_in c = relinked (new_in c n).polygons

    parts_alike : (x y : Fields8) → Among x all_links → Among y all_links → keep x.land ≡ true → keep y.land ≡ true
        → link_part_cmp (link_part (relinked_in whole x)) (link_part (relinked_in whole y))
        ≡ link_part_cmp (link_part (relinked_in small x)) (link_part (relinked_in small y))
    parts_alike x y h l e f = ap₂ ordering_then (numbers_alike n n x y h l e f) (ap (λ o. ordering_then o (bytes_cmp x.file y.file)) (cenids_alike n n x y))

    -- The key of a landmark has its own links in order, whatever other links there are.
    abbrev key_under : ComparedChoices → List Fields8 → ℕ × List Body7 → List Body7 × List LinkPart
    key_under c ls = landmark_key (in_order link_cmp (map (relinked_in c) ls))

    abbrev parts_of : ComparedChoices → List Fields8 → List LinkPart
    parts_of c ls = map link_part (in_order link_cmp (map (relinked_in c) ls))

    key_links : (c : ComparedChoices) (ls : List Fields8) (land : ℕ) → links_of (in_order link_cmp (map (relinked_in c) ls)) land
        ≡ parts_of c (filter (λ link. link.land == land) ls)
    key_links c ls land = ap (map link_part) (filter_ordered link_keys.total (λ (link : Fields8). link.land == land) (map (relinked_in c) ls)
        ∙ ap (in_order link_cmp) (filter-mapped (λ (link : Fields8). link.land == land) (relinked_in c) ls))

    order_is : (c : ComparedChoices) → landmarks_in c n ≡ in_order (on (key_under c c.county.links) landmark_key_cmp) c.county.landmarks
    order_is c = ap (λ keys. in_order (on (landmark_key (in_order link_cmp (map (relinked keys) c.county.links))) landmark_key_cmp) c.county.landmarks)
        (sym (polygons_renamed c.county (order_in c n) c.is (arranges_in c n)))

    -- the links of a kept landmark in order
    abbrev sorted : ℕ → List Fields8
    sorted land = in_order (on (relinked_in whole) link_cmp) (own land)

    of_sorted : (link : Fields8) (land : ℕ) → Among link (sorted land) → Among link all_links × (link.land ≡ land)
    of_sorted link land m = of_own link land (from_in_order (on (relinked_in whole) link_cmp) (own land) link m)

    whole_pieces : (land : ℕ) → links_of (in_order link_cmp (map (relinked_in whole) all_links)) land
        ≡ map (λ link. link_part (relinked_in whole link)) (sorted land)
    whole_pieces land = key_links whole all_links land ∙ ap (map link_part) (order_mapped link_cmp (relinked_in whole) (own land))
        ∙ map-map link_part (relinked_in whole) (sorted land)

    small_pieces : (land : ℕ) → keep land ≡ true → links_of (in_order link_cmp (map (relinked_in small) (filter keeps_link all_links))) land
        ≡ map (λ link. link_part (relinked_in small link)) (sorted land)
    small_pieces land e = key_links small (filter keeps_link all_links) land
        ∙ ap (parts_of small) (filter_narrower keeps_link (λ (link : Fields8). link.land == land) all_links
        (all_everywhere (λ (link : Fields8). (link.land == land) ≡ true → keep link.land ≡ true) (λ link s. ap keep (eqb-true link.land land s) ∙ e) all_links))
        ∙ ap (map link_part) (images_alike link_cmp link_cmp (relinked_in whole) (relinked_in small) (own land) (λ x y h l.
        (let one = of_own x land h in let other = of_own y land l in
        ap (ordering_then (nat_cmp x.land y.land)) (parts_alike x y one.0 other.0 (ap keep one.1 ∙ e) (ap keep other.1 ∙ e)))))
        ∙ map-map link_part (relinked_in small) (sorted land)

    -- so kept landmarks compare alike,
    key_alike : (x y : ℕ × List Body7) → keep x.0 ≡ true → keep y.0 ≡ true
        → landmark_key_cmp (key_under whole all_links x) (key_under whole all_links y)
        ≡ landmark_key_cmp (key_under small (filter keeps_link all_links) x) (key_under small (filter keeps_link all_links) y)
    key_alike x y e f = ap (ordering_then (slice_cmp landmark_body_cmp x.1 y.1))
        (ap₂ (slice_cmp link_part_cmp) (whole_pieces x.0) (whole_pieces y.0)
        ∙ images_in_order link_part_cmp (λ link. link_part (relinked_in whole link)) (λ link. link_part (relinked_in small link))
        (λ link. link_part (relinked_in whole link)) (λ link. link_part (relinked_in small link)) (sorted x.0) (sorted y.0)
        (λ u v h l. (let one = of_sorted u x.0 h in let other = of_sorted v y.0 l in
        parts_alike u v one.0 other.0 (ap keep one.1 ∙ e) (ap keep other.1 ∙ f)))
        ∙ sym (ap₂ (slice_cmp link_part_cmp) (small_pieces x.0 e) (small_pieces y.0 f)))

    -- and they are in one order.
    kept_landmarks : filter keeps_landmark (landmarks_in whole n) ≡ landmarks_in small n
    kept_landmarks =
        ap (filter keeps_landmark) (order_is whole)
        ∙ filter_ordered (on_total (key_under whole all_links) landmark_key_keys.total) keeps_landmark whole.county.landmarks
        ∙ order_alike (on (key_under whole all_links) landmark_key_cmp) (on (key_under small (filter keeps_link all_links)) landmark_key_cmp)
        (filter keeps_landmark whole.county.landmarks) (λ x y h l. key_alike x y (among_filtered keeps_landmark x whole.county.landmarks h).1
        (among_filtered keeps_landmark y whole.county.landmarks l).1)
        ∙ sym (order_is small ∙ ap₂ (λ ls es. in_order (on (key_under small ls) landmark_key_cmp) es) links landmarks)

    kept_lands : filter keep (lands_in whole n) ≡ lands_in small n
    kept_lands = filter-mapped keep (λ (e : ℕ × List Body7). e.0) (landmarks_in whole n) ∙ ap (map (λ (e : ℕ × List Body7). e.0)) kept_landmarks

  -- ---- Two choices: at each place they have kept landmarks, or the same one.
  module _ (n k : ℕ) where
    same_relinked : (link : Fields8) → Among link all_links → keep link.land ≡ false → relinked_in n whole link ≡ relinked_in k whole link
    same_relinked link h e = λ i. record {
      file = link.file;
      cenid = (cenid_kept whole n (link_key link) ∙ sym (cenid_kept whole k (link_key link))) i;
      polyid = closed n k link h e i;
      land = link.land;
    }

    same_key : (x : ℕ × List Body7) → keep x.0 ≡ false → key_under n whole all_links x ≡ key_under k whole all_links x
    same_key x e = λ i. (x.1, links_same i)
      where
        links_same : links_of (in_order link_cmp (map (relinked_in n whole) all_links)) x.0 ≡ links_of (in_order link_cmp (map (relinked_in k whole) all_links)) x.0
        links_same = key_links n whole all_links x.0
            ∙ ap (λ ls. map link_part (in_order link_cmp ls)) (map_agree_all (relinked_in n whole) (relinked_in k whole) (λ link. Among link (own x.0))
            (λ link m. (let one = of_own link x.0 m in same_relinked link one.0 (ap keep one.1 ∙ e))) (own x.0) (all_themselves (own x.0)))
            ∙ sym (key_links k whole all_links x.0)

    abbrev others : ℕ × List Body7 → Bool
    others e = not (keep e.0)

    same_others : filter others (landmarks_in whole n) ≡ filter others (landmarks_in whole k)
    same_others =
        let out : (x : ℕ × List Body7) → Among x (filter others whole.county.landmarks) → keep x.0 ≡ false =
        λ x h. not-true (keep x.0) (among_filtered others x whole.county.landmarks h).1 in
        ap (filter others) (order_is n whole)
        ∙ filter_ordered (on_total (key_under n whole all_links) landmark_key_keys.total) others whole.county.landmarks
        ∙ order_alike (on (key_under n whole all_links) landmark_key_cmp) (on (key_under k whole all_links) landmark_key_cmp)
        (filter others whole.county.landmarks) (λ x y h l. ap₂ landmark_key_cmp (same_key x (out x h)) (same_key y (out y l)))
        ∙ sym (filter_ordered (on_total (key_under k whole all_links) landmark_key_keys.total) others whole.county.landmarks)
        ∙ sym (ap (filter others) (order_is k whole))

    flags_of : (i : ℕ) → map keep (lands_in whole i) ≡ map keeps (entry_values (landmarks_in whole i))
    flags_of i = map-map keep (λ (e : ℕ × List Body7). e.0) (landmarks_in whole i)
        ∙ map_agree_all (λ (e : ℕ × List Body7). keep e.0) (λ e. keeps e.1) (λ e. Among e whole.county.landmarks) by_contents (landmarks_in whole i)
        (each_from (λ e. Among e whole.county.landmarks) (landmarks_in whole i) (λ e m. from_in_order _ whole.county.landmarks e m))
        ∙ sym (map-map keeps (λ (e : ℕ × List Body7). e.1) (landmarks_in whole i))

    masked_lands : masked_by keep (lands_in whole n) ≡ masked_by keep (lands_in whole k)
    masked_lands = masked_parts keep (lands_in whole n) (lands_in whole k)
        (flags_of n ∙ ap (map keeps) (same_bodies whole.county whole.is (order_in whole n) (order_in whole k) (arranges_in whole n) (arranges_in whole k))
        ∙ sym (flags_of k))
        (filter-mapped (λ land. not (keep land)) (λ (e : ℕ × List Body7). e.0) (landmarks_in whole n)
        ∙ ap (map (λ (e : ℕ × List Body7). e.0)) same_others
        ∙ sym (filter-mapped (λ land. not (keep land)) (λ (e : ℕ × List Body7). e.0) (landmarks_in whole k)))

    -- So the new LANDs of kept landmarks compare alike, and all others are the same.
    lands_alike : (x y : Fields8) → Among x all_links → Among y all_links → keep x.land ≡ true → keep y.land ≡ true
        → nat_cmp (land_number whole n x.land) (land_number whole k y.land) ≡ nat_cmp (land_number small n x.land) (land_number small k y.land)
    lands_alike x y h l e f =
        ap₂ nat_cmp (number_is whole n x.land (in_whole x h)) (number_is whole k y.land (in_whole y l))
        ∙ next_cmp (place_in nat_cmp (lands_in whole n) x.land) (place_in nat_cmp (lands_in whole k) y.land)
        ∙ places_alike nat_keys keep (lands_in whole n) (lands_in whole k) masked_lands x.land y.land e f
        ∙ ap₂ (λ xs ys. nat_cmp (place_in nat_cmp xs x.land) (place_in nat_cmp ys y.land)) (kept_lands n) (kept_lands k)
        ∙ sym (ap₂ nat_cmp (number_is small n x.land (in_small x h e)) (number_is small k y.land (in_small y l f))
        ∙ next_cmp (place_in nat_cmp (lands_in small n) x.land) (place_in nat_cmp (lands_in small k) y.land))
      where
        in_whole : (z : Fields8) → Among z all_links → Known nat_cmp (lands whole.county) z.land
        in_whole = land_known whole.county whole.is.closed.link_lands

        in_small : (z : Fields8) → Among z all_links → keep z.land ≡ true → Known nat_cmp (lands small.county) z.land
        in_small z m g = land_known small.county small.is.closed.link_lands z (subst (Among z) (sym links) (to_filter keeps_link z all_links m g))

    same_carried : (link : Fields8) → Among link all_links → keep link.land ≡ false → carried_link (new_in whole n) link ≡ carried_link (new_in whole k) link
    same_carried link h e =
        let known = land_known whole.county whole.is.closed.link_lands link h in
        let stays : land_number whole n link.land ≡ land_number whole k link.land = number_is whole n link.land known
        ∙ ap (λ p. 1 + p) (same_place nat_keys keep (lands_in whole n) (lands_in whole k) masked_lands link.land e)
        ∙ sym (number_is whole k link.land known) in
        λ i. record { file = link.file; cenid = (same_relinked link h e i).cenid; polyid = (same_relinked link h e i).polyid; land = stays i }

  -- ---- the links of a choice

  abbrev contents : Fields8 → List Body7
  contents link = unwrap_or (value_under nat_cmp link.land whole.county.landmarks) []

  lands_apart : IsApart nat_cmp (lands whole.county)
  lands_apart = apart_from_sorted nat_keys (lands whole.county) whole.is.ascending.landmarks

  -- the landmark of a link
  landmark_of : (link : Fields8) → Among link all_links
      → (e : ℕ × List Body7) × Among e whole.county.landmarks × (link.land ≡ e.0) × (contents link ≡ e.1)
  landmark_of link h =
      let found = among-unmap (λ (e : ℕ × List Body7). e.0) link.land whole.county.landmarks
      (known_is_among nat_keys link.land (lands whole.county) (land_known whole.county whole.is.closed.link_lands link h)) in (
        found.0,
        found.1,
        found.2,
        (λ i. unwrap_or (value_under nat_cmp (found.2 i) whole.county.landmarks) [])
            ∙ ap (λ o. unwrap_or o []) (value_own whole.county.landmarks lands_apart found.0 found.1),
      )

  module _ (i : ℕ) where
    abbrev carried : ComparedChoices → Fields8 → Fields8
    carried c = carried_link (new_in c i)

    abbrev in_choice : List Fields8
    in_choice = in_order (on (carried whole) link_cmp) all_links

    of_choice : AllByRecursion (λ link. Among link all_links) in_choice
    of_choice = each_from (λ link. Among link all_links) in_choice (λ link. from_in_order (on (carried whole) link_cmp) all_links link)

    links_are : (choice whole i).links ≡ map (carried whole) in_choice
    links_are = links_arranged whole.county (order_in whole i) whole.is (arranges_in whole i) ∙ order_mapped link_cmp (carried whole) all_links

    small_links_are : (choice small i).links ≡ map (carried small) (filter keeps_link in_choice)
    small_links_are = links_arranged small.county (order_in small i) small.is (arranges_in small i)
        ∙ ap (λ ls. in_order link_cmp (map (carried small) ls)) links
        ∙ images_alike link_cmp link_cmp (carried whole) (carried small) (filter keeps_link all_links) (λ x y h l.
        (let one = among_filtered keeps_link x all_links h in let other = among_filtered keeps_link y all_links l in
        ap₂ ordering_then (lands_alike i i x y one.0 other.0 one.1 other.1) (parts_alike i x y one.0 other.0 one.1 other.1)))
        ∙ ap (map (carried small)) (sym (filter_ordered (on_total (carried whole) link_keys.total) keeps_link all_links))

    -- they are in the order of the contents of their landmarks
    by_content : IsInOrder (slice_cmp landmark_body_cmp) (map contents in_choice)
    by_content = in_order-map (slice_cmp landmark_body_cmp) contents in_choice
        (weaker_order (on (carried whole) link_cmp) (on contents (slice_cmp landmark_body_cmp)) (λ link. Among link all_links) weaker in_choice of_choice
        (in_order-in_order (on_total (carried whole) link_keys.total) all_links))
      where
        known : (z : Fields8) → Among z all_links → Known nat_cmp (lands whole.county) z.land
        known = land_known whole.county whole.is.closed.link_lands

        ordered : (e : ℕ × List Body7) → Among e whole.county.landmarks → Among e (landmarks_in whole i)
        ordered e m = among-permutation e whole.county.landmarks (landmarks_in whole i)
            (IsPermutation-sym (landmarks_in whole i) whole.county.landmarks (in_order-is_permutation _ whole.county.landmarks)) m

        weaker : (x y : Fields8) → Among x all_links → Among y all_links → is_gt (link_cmp (carried whole x) (carried whole y)) ≡ false
            → is_gt (slice_cmp landmark_body_cmp (contents x) (contents y)) ≡ false
        weaker x y h l g = false_from_ne_true (is_gt (slice_cmp landmark_body_cmp (contents x) (contents y))) (λ gt. (
            let one = landmark_of x h in
            let other = landmark_of y l in
            let before = values_placed (lists_keys landmark_body_keys) (landmarks_in whole i)
            (apart-permutation nat_keys (lands_in whole i) (lands whole.county) (lands_permuted whole i) lands_apart)
            (bodies_in_order whole.county whole.is (order_in whole i) (arranges_in whole i))
            one.0 other.0 (ordered one.0 one.1) (ordered other.0 other.1)
            ((λ j. is_gt (slice_cmp landmark_body_cmp (sym one.3 j) (sym other.3 j))) ∙ gt) in
            let less : place_in nat_cmp (lands_in whole i) y.land < place_in nat_cmp (lands_in whole i) x.land =
            subst (λ (p : ℕ × ℕ). place_in nat_cmp (lands_in whole i) p.0 < place_in nat_cmp (lands_in whole i) p.1)
            (λ j. (sym other.2 j, sym one.2 j)) before in
            let greater : land_number whole i y.land < land_number whole i x.land =
            omega (arith, less, number_is whole i x.land (known x h), number_is whole i y.land (known y l)) in
            false≢true (sym (then-first (nat_cmp (land_number whole i x.land) (land_number whole i y.land)) _ g)
            ∙ ap is_gt (sym (nat_cmp_is (land_number whole i x.land) (land_number whole i y.land) Greater greater)))))

    link_flags : map keeps_link in_choice ≡ map keeps (map contents in_choice)
    link_flags = map_agree_all keeps_link (λ link. keeps (contents link)) (λ link. Among link all_links)
        (λ link h. (let found = landmark_of link h in ap keep found.2 ∙ by_contents found.0 found.1 ∙ ap keeps (sym found.3))) in_choice of_choice
        ∙ sym (map-map keeps contents in_choice)

  -- Two choices have kept links at the same places.
  masked_links : (n k : ℕ) → masked_by keeps_link (in_choice n) ≡ masked_by keeps_link (in_choice k)
  masked_links n k = masked_parts keeps_link (in_choice n) (in_choice k)
      (link_flags n ∙ ap (map keeps) (in_order-permutation (lists_keys landmark_body_keys) (map contents (in_choice n)) (map contents (in_choice k))
      (by_content n) (by_content k) (IsPermutation-map contents (in_choice n) (in_choice k) both)) ∙ sym (link_flags k))
      (filter_ordered (on_total (carried n whole) link_keys.total) (λ link. not (keep link.land)) all_links
      ∙ order_alike (on (carried n whole) link_cmp) (on (carried k whole) link_cmp) (filter (λ link. not (keep link.land)) all_links)
      (λ x y h l. ap₂ link_cmp (same x h) (same y l))
      ∙ sym (filter_ordered (on_total (carried k whole) link_keys.total) (λ link. not (keep link.land)) all_links))
    where
      both : IsPermutation (in_choice n) (in_choice k)
      both = IsPermutation-trans (in_choice n) all_links (in_choice k) (in_order-is_permutation (on (carried n whole) link_cmp) all_links)
          (IsPermutation-sym (in_choice k) all_links (in_order-is_permutation (on (carried k whole) link_cmp) all_links))

      same : (link : Fields8) → Among link (filter (λ l. not (keep l.land)) all_links) → carried n whole link ≡ carried k whole link
      same link m = let found = among_filtered (λ (l : Fields8). not (keep l.land)) link all_links m in
          same_carried n k link found.0 (not-true (keep link.land) found.1)

  -- So the records of type 8 are in one order in both counties.
  pub links_alike : (n k : ℕ) → groups_cmp Eight (type_8_together (choice whole n)) (type_8_together (choice whole k))
      ≡ groups_cmp Eight (type_8_together (choice small n)) (type_8_together (choice small k))
  links_alike n k =
      choices_decide Type8 type_8_together eights_fit whole n k
      ∙ ap₂ (slice_cmp (fields_cmp Type8)) (append-nil (choice whole n).links ∙ links_are n) (append-nil (choice whole k).links ∙ links_are k)
      ∙ wanted_decide keeps_link (fields_cmp Type8) (carried n whole) (carried k whole) (in_choice n) (in_choice k) (masked_links n k) tied
      ∙ images_in_order (fields_cmp Type8) (carried n whole) (carried n small) (carried k whole) (carried k small)
      (filter keeps_link (in_choice n)) (filter keeps_link (in_choice k)) pair
      ∙ sym (choices_decide Type8 type_8_together eights_fit small n k
      ∙ ap₂ (slice_cmp (fields_cmp Type8)) (append-nil (choice small n).links ∙ small_links_are n) (append-nil (choice small k).links ∙ small_links_are k))
    where
      from_all : (i : ℕ) (link : Fields8) → Among link (in_choice i) → Among link all_links
      from_all i link = from_in_order (on (carried i whole) link_cmp) all_links link

      fits : (link : Fields8) → Among link (in_choice n) → FitsRecord (Eight (carried n whole link))
      fits link m = all_among (λ l. FitsRecord (Eight (carried n whole l))) link (in_choice n)
          (all_unmap (λ r. FitsRecord (Eight r)) (carried n whole) (in_choice n)
          (subst (AllByRecursion (λ r. FitsRecord (Eight r))) (append-nil (choice whole n).links ∙ links_are n)
          (let there = whole_in whole n in eights_fit (choice whole n) there.is_county there.within_limits))) m

      tied : (link : Fields8) → Among link (in_choice n) → keep link.land ≡ false
          → fields_cmp Type8 (carried n whole link) (carried k whole link) ≡ Equal
      tied link m e = ap (fields_cmp Type8 (carried n whole link)) (sym (same_carried n k link (from_all n link m) e))
          ∙ sym (columns_decide Type8 (carried n whole link) (carried n whole link) (fits link m) (fits link m))
          ∙ tied_itself nat_list_cmp_total (spelling_of (Eight (carried n whole link)))

      pair : (x y : Fields8) → Among x (filter keeps_link (in_choice n)) → Among y (filter keeps_link (in_choice k))
          → fields_cmp Type8 (carried n whole x) (carried k whole y) ≡ fields_cmp Type8 (carried n small x) (carried k small y)
      pair x y h l =
          let one = among_filtered keeps_link x (in_choice n) h in
          let other = among_filtered keeps_link y (in_choice k) l in
          let a = from_all n x one.0 in
          let b = from_all k y other.0 in
          columns_alike 4 table_8 (carried n whole x) (carried k whole y) (carried n small x) (carried k small y)
          (next_column refl (next_column (cenids_alike n k x y) (next_column (numbers_alike n k x y a b one.1 other.1)
          (next_column (lands_alike n k x y a b one.1 other.1) refl))))
