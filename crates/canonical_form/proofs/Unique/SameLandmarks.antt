-- If a renaming carries one arranged county onto another, keeps each TLID and turns no chain, the landmarks and their links are
-- equal: landmarks are in the order of their bodies and links.
use Rattle.canonical_form.proofs.Common.{AllByRecursion, Body7, Bool, Carries, County, Fields8, IsArranged, IsAscending, IsClosed, IsInOrder, IsKeyOrder, IsPermutation, IsPermutation-refl, IsStrictlySortedBy, IsTrue, Known, LinkPart, List, PolygonKey, Renumbering, [], all_known, all_weaker, ap, carried_link, cond, contains, eight_land, filter, flat_map, flat_map_agree, image, in_order-equal, is_eq, key_cmp, landmark_body_keys, landmark_key_cmp, lands, length, length-filter, length-map, link_cmp, link_key, link_part, link_part_cmp, link_part_keys, links_of, lists_keys, ltb-true, map, map-id, map-map, map_agree_all, nat_cmp, nat_keys, of_number, of_number-all, on, pair_keys, polygon_keys, refl, subst, sum_by-IsPermutation, sym, times, ℕ, ◌&&◌, ◌++◌, ◌==◌, ◌∙◌, ◌∷◌, ◌≡◌}
use Rattle.canonical_form.proofs.Lists.Filtered.{filter-agree_all, filter-filtered, filter-mapped, same_after}
use Rattle.ordered_lists.proofs.ByKey.KeyedLists.{in_order-filter}
use Rattle.canonical_form.proofs.Lists.Grouping.{grouped, in_order-weaker, parts_in_order, then-first}
use Rattle.canonical_form.proofs.Unique.SameKeys.{entries_same, parts_same}
use Rattle.canonical_form.proofs.Unique.SameNumbers.{counted_injective}

pub landmark_key_keys : IsKeyOrder landmark_key_cmp
landmark_key_keys = pair_keys (lists_keys landmark_body_keys) (lists_keys link_part_keys)

-- a link with its LAND renamed
abbrev pub relanded : (ℕ → ℕ) → Fields8 → Fields8
relanded f link = record link { land = f link.land }

-- a permutation doesn't change how many elements pass a test
pub count-permutation : {X : Type 0} (p : X → Bool) (xs ys : List X) → IsPermutation xs ys → length (filter p xs) ≡ length (filter p ys)
count-permutation p xs ys h = length-filter p xs ∙ sym (sum_by-IsPermutation (λ x. cond (p x) 1 0) xs ys h) ∙ sym (length-filter p ys)

-- the links of one landmark with this content
abbrev pub is_link : ℕ → LinkPart → Fields8 → Bool
is_link land part link = (link.land == land) && is_eq (link_part_cmp part (link_part link))

pub times-links : (links : List Fields8) (y : ℕ) (k : LinkPart)
    → times link_part_cmp k (links_of links y) ≡ length (filter (is_link y k) links)
times-links links y k =
    ap length (filter-mapped (λ p. is_eq (link_part_cmp k p)) link_part (filter (λ l. l.land == y) links))
    ∙ length-map (filter (λ l. is_eq (link_part_cmp k (link_part l))) (filter (λ l. l.land == y) links)) link_part
    ∙ ap length (filter-filtered (λ (l : Fields8). l.land == y) (λ l. is_eq (link_part_cmp k (link_part l))) links)

-- the links of one landmark are in order
pub links_of-in_order : (links : List Fields8) → IsInOrder link_cmp links → (y : ℕ) → IsInOrder link_part_cmp (links_of links y)
links_of-in_order links h y = parts_in_order eight_land link_part link_part_cmp y (filter (λ l. l.land == y) links) (of_number-all eight_land y links)
    (in_order-filter link_cmp (λ l. l.land == y) links h)

-- if renaming keeps LANDs distinct, a renamed landmark has the same links as before
pub count-relanded : (f : ℕ → ℕ) (Dom : ℕ → Type 0) → ((n m : ℕ) → Dom n → Dom m → f n ≡ f m → n ≡ m) → (links : List Fields8)
    → AllByRecursion (λ l. Dom l.land) links → (y : ℕ) → Dom y → (k : LinkPart)
    → length (filter (is_link (f y) k) (map (relanded f) links)) ≡ length (filter (is_link y k) links)
count-relanded f Dom inj links a y d k =
    ap length (filter-mapped (is_link (f y) k) (relanded f) links)
    ∙ length-map (filter (λ l. is_link (f y) k (relanded f l)) links) (relanded f)
    ∙ ap length (filter-agree_all (λ l. is_link (f y) k (relanded f l)) (is_link y k) links
    (all_weaker (λ (l : Fields8). Dom l.land) (λ l. is_link (f y) k (relanded f l) ≡ is_link y k l)
    (λ l known. ap (λ b. b && is_eq (link_part_cmp k (link_part l))) (same_after f Dom inj l.land y known d)) links a))

-- so renamed links in order have under a new LAND what the links in order have under the old one
pub links_kept : (f : ℕ → ℕ) (Dom : ℕ → Type 0) → ((n m : ℕ) → Dom n → Dom m → f n ≡ f m → n ≡ m) → (links olds news : List Fields8)
    → AllByRecursion (λ l. Dom l.land) links → IsInOrder link_cmp olds → IsPermutation olds links → IsInOrder link_cmp news
    → IsPermutation (map (relanded f) links) news → (y : ℕ) → Dom y → links_of news (f y) ≡ links_of olds y
links_kept f Dom inj links olds news known old_order same new_order renamed y d =
    in_order-equal link_part_keys (links_of news (f y)) (links_of olds y) (links_of-in_order news new_order (f y))
    (links_of-in_order olds old_order y)
    (λ k. times-links news (f y) k ∙ sym (count-permutation (is_link (f y) k) (map (relanded f) links) news renamed)
    ∙ count-relanded f Dom inj links known y d k ∙ sym (count-permutation (is_link y k) olds links same) ∙ sym (times-links olds y k))

-- each link is one of a landmark
pub lands_known : (c : County) → IsClosed c → AllByRecursion (λ (l : Fields8). Known nat_cmp (lands c) l.land) c.links
lands_known c closed = all_weaker (λ (l : Fields8). IsTrue (contains nat_cmp l.land (lands c))) (λ l. Known nat_cmp (lands c) l.land)
    (λ l t. ltb-true 0 (times nat_cmp l.land (lands c)) t) c.links closed.link_lands

-- links in order are the links of their LANDs, one LAND after another
abbrev with_land : ℕ → LinkPart → Fields8
with_land y part = record { file = part.2; cenid = part.1; polyid = part.0; land = y }

by_land : (links : List Fields8) → IsInOrder link_cmp links → (ys : List ℕ) → IsStrictlySortedBy nat_cmp ys
    → AllByRecursion (λ (l : Fields8). Known nat_cmp ys l.land) links → links ≡ flat_map (λ y. map (with_land y) (links_of links y)) ys
by_land links h ys strict known =
    sym (grouped eight_land links (in_order-weaker link_cmp (on eight_land nat_cmp)
    (λ l m. then-first (nat_cmp l.land m.land) (link_part_cmp (link_part l) (link_part m))) links h) ys strict known)
    ∙ flat_map_agree (λ y. of_number eight_land y links) (λ y. map (with_land y) (links_of links y)) (λ y. sym (back y)) ys
  where
    back : (y : ℕ) → map (with_land y) (links_of links y) ≡ of_number eight_land y links
    back y = map-map (with_land y) link_part (of_number eight_land y links)
        ∙ map_agree_all (λ l. with_land y (link_part l)) (λ l. l) (λ l. l.land ≡ y) (λ l e i. record l { land = sym e i })
        (of_number eight_land y links) (of_number-all eight_land y links)
        ∙ map-id (of_number eight_land y links)

module _ (r : Renumbering) (a b : County) (h : Carries r a b) (aa : IsAscending a) (ab : IsAscending b) (ca : IsClosed a) (cb : IsClosed b)
    (ta : IsArranged a) (tb : IsArranged b)
    (fixed : (k : PolygonKey) → Known key_cmp (polygon_keys a) k → image key_cmp r.polygons k ≡ k) where
  f_land : ℕ → ℕ
  f_land = image nat_cmp r.lands

  land_injective : (n m : ℕ) → Known nat_cmp (lands a) n → Known nat_cmp (lands a) m → f_land n ≡ f_land m → n ≡ m
  unfolding f_land
  land_injective = counted_injective r.lands (lands a) (lands b) (length b.landmarks) h.numbers.lands.left h.numbers.lands.right tb.lands

  links_carried : map (carried_link r) a.links ≡ map (relanded f_land) a.links
  unfolding f_land
  links_carried = map_agree_all (carried_link r) (relanded (image nat_cmp r.lands))
      (λ l. IsTrue (contains key_cmp (link_key l) (polygon_keys a)))
      (λ l t i. record {
        file = l.file;
        cenid =
            (fixed (link_key l) (ltb-true 0 (times key_cmp (link_key l) (polygon_keys a)) t) i).0;
        polyid =
            (fixed (link_key l) (ltb-true 0 (times key_cmp (link_key l) (polygon_keys a)) t) i).1;
        land = image nat_cmp r.lands l.land;
      })
      a.links ca.link_polygons

  same_under : (y : ℕ) → Known nat_cmp (lands a) y → links_of b.links (f_land y) ≡ links_of a.links y
  same_under = links_kept f_land (Known nat_cmp (lands a)) land_injective a.links a.links b.links (lands_known a ca) aa.links
      (IsPermutation-refl a.links) ab.links (subst (λ ls. IsPermutation ls b.links) links_carried h.links)

  pub landmarks_equal : a.landmarks ≡ b.landmarks
  unfolding f_land
  landmarks_equal = entries_same landmark_key_keys f_land (links_of a.links) (links_of b.links) a.landmarks b.landmarks
      same_under h.landmarks ta.landmarks tb.landmarks ta.lands tb.lands

  same_links : (y : ℕ) → Known nat_cmp (lands a) y → links_of a.links y ≡ links_of b.links y
  unfolding f_land
  same_links = parts_same landmark_key_keys f_land (links_of a.links) (links_of b.links) a.landmarks b.landmarks
      same_under h.landmarks ta.landmarks tb.landmarks ta.lands tb.lands

  along : (ys : List ℕ) → AllByRecursion (Known nat_cmp (lands a)) ys
      → flat_map (λ y. map (with_land y) (links_of a.links y)) ys ≡ flat_map (λ y. map (with_land y) (links_of b.links y)) ys
  along [] k = refl
  along (y ∷ ys) k = λ i. map (with_land y) (same_links y k.0 i) ++ along ys k.1 i

  pub links_equal : a.links ≡ b.links
  links_equal = by_land a.links aa.links (lands a) aa.landmarks (lands_known a ca)
      ∙ along (lands a) (all_known nat_keys (Known nat_cmp (lands a)) (lands a) (λ n k. k))
      ∙ ap (λ es. flat_map (λ y. map (with_land y) (links_of b.links y)) (map (λ (e : ℕ × List Body7). e.0) es)) landmarks_equal
      ∙ sym (by_land b.links ab.links (lands b) ab.landmarks (lands_known b cb))
