-- Links gathered landmark by landmark, and counted LAND by LAND.
use Rattle.arranged_county.proofs.Common.{Bool, County, Fields8, IsCounty, IsInOrder, IsPermutation, IsPermutation-map, IsPermutation-sym, IsPermutation-trans, IsTrue, Known, List, None, Option, Some, [], all_at_places, all_weaker, ap, apart-permutation, apart_from_sorted, append-nil, append_assoc, ap₂, arith, cons_option, contains, eight_land, false, filter, filter-filtered, filter_map, flat_map, in_order, in_order-in_order, in_order-is_permutation, in_order-permutation, inl, inr, is_gt, lands, lands_at, leb_tells, length, length-map, link_cmp, link_keys, links_at, links_up_to, links_with, ltb-true, map, map-append, nat_cmp, nat_keys, nat_le, range_with_len, refl, slice_get, subst, suc, sym, times, true, true≢false, zero, ℕ, ◌++◌, ◌+◌, ◌-◌, ◌<◌, ◌∙◌, ◌∷◌, ◌≡◌, ◌≤◌, ◌⊎◌}
use Rattle.ordered_lists.proofs.Lists.Counted.{filter-agree}
use Rattle.county_chart.proofs.Lists.OfNumber.{groups-permutation}
use Rattle.ordered_lists.proofs.ByKey.Keys.{known-permutation_to}
use Rattle.std.proofs.Common.{not, ◌&&◌}
use Rattle.tl_layout.specs.ByType.{of_number}
use Rattle.std.proofs.lemmas.List.Filters.{length-filter_both}
use Rattle.std.proofs.lemmas.Bool.Decides.{nat_tests}

-- one more piece
piece_more : {Y : Type 0} (f : ℕ → List Y) (a n : ℕ) → flat_map f (range_with_len a (suc n)) ≡ flat_map f (range_with_len a n) ++ f (a + n)
piece_more f a zero = append-nil (f a) ∙ (let t : a ≡ a + 0 = omega arith in ap f t)
piece_more f a (suc n) =
    ap (λ ys. f a ++ ys) (piece_more f (a + 1) n)
    ∙ sym (append_assoc (f a) (flat_map f (range_with_len (a + 1) n)) (f ((a + 1) + n)))
    ∙ (let t : (a + 1) + n ≡ a + suc n = omega arith in ap (λ m. (f a ++ flat_map f (range_with_len (a + 1) n)) ++ f m) t)

pub pieces_next : {Y : Type 0} (f : ℕ → List Y) (n : ℕ) → flat_map f (range_with_len 0 n) ++ f n ≡ flat_map f (range_with_len 0 (n + 1))
pieces_next f n =
    sym (piece_more f 0 n ∙ (let t : 0 + n ≡ n = omega arith in ap (λ m. flat_map f (range_with_len 0 n) ++ f m) t))
    ∙ (let t : suc n ≡ n + 1 = omega arith in ap (λ m. flat_map f (range_with_len 0 m)) t)

-- the elements of a list, by their places
shifted : {Y : Type 0} (f : ℕ → Y) (a n : ℕ) → map f (range_with_len (a + 1) n) ≡ map (λ i. f (suc i)) (range_with_len a n)
shifted f a zero = refl
shifted f a (suc n) = ap₂ (λ y ys. y ∷ ys) (let t : a + 1 ≡ suc a = omega arith in ap f t) (shifted f (a + 1) n)

pub listed : {X : Type 0} (xs : List X) → map (slice_get xs) (range_with_len 0 (length xs)) ≡ map Some xs
listed [] = refl
listed (x ∷ xs) = ap (λ ys. Some x ∷ ys) (shifted (slice_get (x ∷ xs)) 0 (length xs) ∙ listed xs)

-- the links of the landmarks at some places, found by their LANDs
links_there : (links : List Fields8) (land : ℕ → Option ℕ) (places : List ℕ) → flat_map (λ place. links_with links (land place)) places
    ≡ flat_map (λ number. of_number eight_land number links) (filter_map land places)
links_there links land [] = refl
links_there links land (place ∷ places) = go (land place) (links_there links land places)
  where
    go : (o : Option ℕ)
        → flat_map (λ at. links_with links (land at)) places ≡ flat_map (λ number. of_number eight_land number links) (filter_map land places)
        → links_with links o ++ flat_map (λ at. links_with links (land at)) places
        ≡ flat_map (λ number. of_number eight_land number links) (cons_option o (filter_map land places))
    go None rest = rest
    go (Some number) rest = ap (λ ys. of_number eight_land number links ++ ys) rest

module _ (county : County) (is : IsCounty county) (f : Fields8 → Fields8) (places : List ℕ)
    (all : IsPermutation (range_with_len 0 (length county.landmarks)) places) where
  abbrev pub gathered : List Fields8
  gathered = flat_map (λ place. map f (links_at county place)) places

  pieces_mapped : {X : Type 0} (g : X → List Fields8) (xs : List X) → flat_map (λ x. map f (g x)) xs ≡ map f (flat_map g xs)
  pieces_mapped g [] = refl
  pieces_mapped g (x ∷ xs) = ap (λ ys. map f (g x) ++ ys) (pieces_mapped g xs) ∙ sym (map-append f (g x) (flat_map g xs))

  -- the LANDs there are all LANDs
  lands_there : IsPermutation (lands county) (lands_at county places)
  lands_there = all_at_places (lands county) places
      (subst (λ n. IsPermutation (range_with_len 0 n) places) (sym (length-map county.landmarks (λ (d : ℕ × _). d.0))) all)

  pub permuted : IsPermutation gathered (map f county.links)
  permuted =
      let numbers = lands_at county places in
      subst (λ ls. IsPermutation ls (map f county.links)) (sym (pieces_mapped (links_at county) places
      ∙ ap (map f) (links_there county.links (slice_get (lands county)) places)))
      (IsPermutation-map f (flat_map (λ land. of_number eight_land land county.links) numbers) county.links
      (groups-permutation eight_land numbers county.links
      (apart-permutation nat_keys numbers (lands county) (IsPermutation-sym (lands county) numbers lands_there)
      (apart_from_sorted nat_keys (lands county) is.ascending.landmarks))
      (all_weaker (λ (l : Fields8). IsTrue (contains nat_cmp l.land (lands county))) (λ l. Known nat_cmp numbers l.land)
      (λ l t. known-permutation_to nat_keys l.land (lands county) numbers lands_there (ltb-true 0 (times nat_cmp l.land (lands county)) t))
      county.links is.closed.link_lands)))

  -- the gathered links, put in order, are the list in order
  pub links_sorted : (links : List Fields8) → IsPermutation gathered links → IsInOrder link_cmp links → links ≡ in_order link_cmp
      (map f county.links)
  links_sorted links p ordered =
      in_order-permutation link_keys links (in_order link_cmp (map f county.links)) ordered
      (in_order-in_order link_keys.total (map f county.links))
      (IsPermutation-trans links gathered (in_order link_cmp (map f county.links)) (IsPermutation-sym gathered links p)
      (IsPermutation-trans gathered (map f county.links) (in_order link_cmp (map f county.links)) permuted
      (IsPermutation-sym (in_order link_cmp (map f county.links)) (map f county.links)
      (in_order-is_permutation link_cmp (map f county.links)))))

-- tests
above_or_not : (a b : ℕ) → is_gt (nat_cmp a b) ≡ not (nat_le a b)
above_or_not a b = grind (arith, nat_tests)

filter_twice : {X : Type 0} (p q : X → Bool) → ((x : X) → p x ≡ true → q x ≡ true) → (xs : List X) → filter p (filter q xs) ≡ filter p xs
filter_twice p q h xs = filter-filtered q p xs ∙ filter-agree (λ x. q x && p x) p (λ x. both (q x) (p x) (h x)) xs
  where
    both : (b c : Bool) → (c ≡ true → b ≡ true) → (b && c) ≡ c
    both true c implied = refl
    both false true implied = implied refl
    both false false implied = refl

-- the links with a greater LAND, and those up to it
module _ (links rest later : List Fields8) (land : ℕ)
    (so_far : (n : ℕ) → land ≤ n → filter (λ link. is_gt (nat_cmp (eight_land link) n)) rest ≡ filter
    (λ link. is_gt (nat_cmp (eight_land link) n)) links)
    (cut : later ≡ filter (λ link. is_gt (nat_cmp (eight_land link) land)) rest) where
  counted : length later + links_up_to links land ≡ length links
  counted = ap (λ ls. length ls + links_up_to links land) (cut ∙ so_far land (omega arith))
      ∙ (let both = length-filter_both (λ (link : Fields8). nat_le link.land land) (λ link. is_gt (nat_cmp (eight_land link) land))
      (λ link. above_or_not (eight_land link) land) links in omega (arith, both))

  pub fewer_later : length later ≤ length links
  fewer_later = omega (arith, counted)

  pub bound_stated : length links - length later ≡ links_up_to links land
  bound_stated = omega (arith, counted)

  pub later_next : (n : ℕ) → land + 1 ≤ n → filter (λ link. is_gt (nat_cmp (eight_land link) n)) later ≡ filter
      (λ link. is_gt (nat_cmp (eight_land link) n)) links
  later_next n h =
      ap (filter (λ link. is_gt (nat_cmp (eight_land link) n))) (cut ∙ so_far land (omega arith))
      ∙ filter_twice (λ link. is_gt (nat_cmp (eight_land link) n)) (λ link. is_gt (nat_cmp (eight_land link) land))
      (λ link e. above (eight_land link) e) links
    where
      above : (a : ℕ) → is_gt (nat_cmp a n) ≡ true → is_gt (nat_cmp a land) ≡ true
      above a e = go (leb_tells a n) (leb_tells a land)
        where
          go : ((nat_le a n ≡ true) × (a ≤ n)) ⊎ ((nat_le a n ≡ false) × (n < a))
              → ((nat_le a land ≡ true) × (a ≤ land)) ⊎ ((nat_le a land ≡ false) × (land < a)) → is_gt (nat_cmp a land) ≡ true
          go (inl p) q = absurd (true≢false (sym e ∙ above_or_not a n ∙ ap not p.0))
          go (inr p) (inl q) = absurd (let high = p.1 in let low = q.1 in omega (arith, high, low, h))
          go (inr p) (inr q) = above_or_not a land ∙ ap not q.0
