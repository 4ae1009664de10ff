-- The numbers of an arranged county are small, and canonical lists keep the limits of their original lists.
use Rattle.canonical_form.proofs.Common.{AllByRecursion, AllContained, AllKeysContained, Arrangement, Arranges, Body5, Body7, BodyP, Carries, Chain, County, FitsRecord, GrowsFrom, HasAtMost, HasWithin, IsAccepted, IsArranged, IsCanonicalInView, IsCounty, IsLeastChoice, IsTrue, IsView, IsWithinLimit, IsWithinLimits, KeepsLimits, List, None, Option, PolygonKey, Record, ShowsNoMore, Some, [], all_both, all_known, all_pieces, all_unmap, all_weaker, arith, arranged, arranged_list, by_type_keeps, by_type_of, by_type_within, chain_nodes, chain_polygons, contains, count_of_type, county-is_county, county-within_limits, county_counts, county_of, feats, flat_map, greatest_number, key_cmp, key_keys, key_on, key_under, known_all, lands, length, length-append, length-map, link_key, lt-ltb, ltb-true, map, max, most_records, nat_cmp, nat_keys, nodes_along, numbers_of, option_to_list, packed, packed-fits, packed_by_type, packed_five, packed_keeps, packed_one, packed_sevens, packed_within, polygon_keys, polygons_along, range_bounds, renaming_of, subst, suc, sym, times, tlids, up_to, ℕ, ◌*◌, ◌+◌, ◌<◌, ◌∷◌, ◌≡◌, ◌≤◌}
use Rattle.canonical_form.proofs.Limits.CarriedLimits.{carried_contents, carried_counts, carried_lists}
use Rattle.canonical_form.proofs.CanonicalLists.Ascending.{sides_in_profile}
use Rattle.canonical_form.proofs.CanonicalLists.TidyLists.{canonical_is_choice}
use Rattle.canonical_form.proofs.Arrangements.SmallNumbers.{IsSmall, IsSmallKey, NamesSmall, NumbersSmall, packed_low, small_numbers_fit}
use Rattle.canonical_form.proofs.Arrangements.ArrangedCounties.{arranged_county, is_arranged}
use Rattle.canonical_form.proofs.Arrangements.Carrying.{arrangement_carries}

-- numbers that grow are at most as large as the list is long
grown_bounds : (m : ℕ) (ks : List ℕ) → GrowsFrom m ks → AllByRecursion (λ k. (1 ≤ k) × (k ≤ m + length ks)) ks
grown_bounds m [] g = tt
grown_bounds m (k ∷ ks) g =
    let high : k ≤ m + 1 = g.1 in
    let top : max m k ≤ m + 1 = omega arith in (
      (g.0, (omega arith)),
      all_weaker (λ j. (1 ≤ j) × (j ≤ max m k + length ks)) (λ j. (1 ≤ j) × (j ≤ m + suc (length ks)))
          (λ j h. (h.0, let few : j ≤ max m k + length ks = h.1 in omega (arith, few, top))) ks (grown_bounds (max m k) ks g.2),
    )

pub short_joined : {X Y : Type 0} (f : X → List Y) → ((x : X) → length (f x) ≤ 2) → (xs : List X) → length (flat_map f xs) ≤ 2 * length xs
short_joined f h [] = omega arith
short_joined f h (x ∷ xs) = omega (arith, length-append (f x) (flat_map f xs), h x, short_joined f h xs)

pub long_joined : {X Y : Type 0} (f : X → List Y) (xs : List X) → AllByRecursion (λ x. 1 ≤ length (f x)) xs
    → length xs ≤ length (flat_map f xs)
long_joined f [] a = omega arith
long_joined f (x ∷ xs) a = omega (arith, length-append (f x) (flat_map f xs), a.0, long_joined f xs a.1)

few_option : {X : Type 0} (o : Option X) → length (option_to_list o) ≤ 1
few_option None = omega arith
few_option (Some x) = omega arith

few_nodes : (e : ℕ × Chain) → length (chain_nodes e.1) ≤ 2
few_nodes e = omega (
  arith,
  length-append (option_to_list e.1.start_node) (option_to_list e.1.end_node),
  few_option e.1.start_node,
  few_option e.1.end_node,
)

few_under : (cenid : List ℕ) (polyid : Option ℕ) → length (key_under cenid polyid) ≤ 1
few_under cenid None = omega arith
few_under cenid (Some polyid) = omega arith

pub two_polygons : (e : ℕ × Chain) → length (chain_polygons e.1) ≤ 2
two_polygons e = omega (
  arith,
  length-append (key_on e.1.left) (key_on e.1.right),
  few_under e.1.left.cenid e.1.left.polyid,
  few_under e.1.right.cenid e.1.right.polyid,
)

-- each landmark has a record of type 7
pub few_landmarks : (county : County) → IsCounty county → length county.landmarks ≤ length (flat_map packed_sevens county.landmarks)
few_landmarks county is = long_joined packed_sevens county.landmarks
    (all_weaker (λ (e : ℕ × List Body7). 1 ≤ length e.1) (λ e. 1 ≤ length (packed_sevens e))
    (λ e one. subst (λ n. 1 ≤ n) (sym (length-map e.1 (λ body. record { land = e.0; body = body }))) one) county.landmarks is.whole.bodies)

module _ (county : County) (is : IsCounty county) (in_form : IsArranged county)
    (chains : length county.chains ≤ most_records) (names : length county.names ≤ most_records)
    (landmarks : length county.landmarks ≤ most_records) where
  counted_small : (n : ℕ) (ks : List ℕ) → ks ≡ up_to n → n ≤ most_records → AllByRecursion IsSmall ks
  counted_small n ks e few =
      subst (AllByRecursion IsSmall) (sym e)
      (all_weaker (λ k. (1 ≤ k) × (k < 1 + n)) IsSmall
      (λ k h. (h.0, let high : k < 1 + n = h.1 in omega (arith, high, few))) (up_to n) (range_bounds 1 n))

  tlids_small : AllByRecursion IsSmall (tlids county)
  tlids_small = counted_small (length county.chains) (tlids county) in_form.tlids chains

  feats_small : AllByRecursion IsSmall (feats county)
  feats_small = counted_small (length county.names) (feats county) in_form.feats names

  lands_small : AllByRecursion IsSmall (lands county)
  lands_small = counted_small (length county.landmarks) (lands county) in_form.lands landmarks

  -- numbers that grow along the chains, at most two per chain
  grown_small : (ks : List ℕ) → length ks ≤ 2 * length county.chains → GrowsFrom 0 ks → AllByRecursion IsSmall ks
  grown_small ks few g = all_weaker (λ k. (1 ≤ k) × (k ≤ 0 + length ks)) IsSmall
      (λ k h. (h.0, let high : k ≤ 0 + length ks = h.1 in omega (arith, high, few, chains))) ks (grown_bounds 0 ks g)

  nodes_small : AllByRecursion IsSmall (nodes_along county.chains)
  nodes_small = grown_small (nodes_along county.chains)
      (short_joined (λ (e : ℕ × Chain). chain_nodes e.1) few_nodes county.chains) in_form.nodes

  polygons_small : AllByRecursion IsSmallKey (polygons_along county.chains)
  polygons_small =
      let few : length (polygons_along county.chains) ≤ 2 * length county.chains =
      short_joined (λ (e : ℕ × Chain). chain_polygons e.1) two_polygons county.chains in
      all_unmap IsSmall (λ (k : PolygonKey). k.1) (polygons_along county.chains)
      (grown_small (map (λ (k : PolygonKey). k.1) (polygons_along county.chains))
      (omega (arith, few, length-map (polygons_along county.chains) (λ (k : PolygonKey). k.1))) in_form.polygons)

  key_small : (k : PolygonKey) → IsTrue (contains key_cmp k (polygon_keys county)) → IsSmallKey k
  key_small k t =
      let side : IsTrue (contains key_cmp k (polygons_along county.chains)) =
      known_all key_keys (λ j. IsTrue (contains key_cmp j (polygons_along county.chains))) (polygon_keys county) in_form.on_sides k
      (ltb-true 0 (times key_cmp k (polygon_keys county)) t) in
      known_all key_keys IsSmallKey (polygons_along county.chains) polygons_small k
      (ltb-true 0 (times key_cmp k (polygons_along county.chains)) side)

  named_small : AllByRecursion (λ (e : ℕ × Chain). NamesSmall e.1) county.chains
  named_small = all_weaker (λ (e : ℕ × Chain). AllContained (feats county) e.1.feats
      × (AllByRecursion IsSmall (chain_nodes e.1) × AllByRecursion IsSmallKey (chain_polygons e.1)))
      (λ e. NamesSmall e.1)
      (λ e h. (
        all_weaker (λ n. IsTrue (contains nat_cmp n (feats county))) IsSmall
            (λ n t. known_all nat_keys IsSmall (feats county) feats_small n
            (ltb-true 0 (times nat_cmp n (feats county)) t)) e.1.feats h.0,
        h.1,
      ))
      county.chains
      (all_both (λ (e : ℕ × Chain). AllContained (feats county) e.1.feats)
      (λ e. AllByRecursion IsSmall (chain_nodes e.1) × AllByRecursion IsSmallKey (chain_polygons e.1)) county.chains is.closed.names
      (all_both (λ (e : ℕ × Chain). AllByRecursion IsSmall (chain_nodes e.1))
      (λ e. AllByRecursion IsSmallKey (chain_polygons e.1)) county.chains
      (all_pieces IsSmall (λ (e : ℕ × Chain). chain_nodes e.1) county.chains nodes_small)
      (all_pieces IsSmallKey (λ (e : ℕ × Chain). chain_polygons e.1) county.chains polygons_small)))

  pub arranged_numbers_small : NumbersSmall county
  arranged_numbers_small = record {
    chains = all_unmap IsSmall (λ (e : ℕ × Chain). e.0) county.chains tlids_small;
    named = named_small;
    names = all_unmap IsSmall (λ (e : ℕ × Body5). e.0) county.names feats_small;
    polygons = all_unmap IsSmallKey (λ (e : PolygonKey × Option BodyP). e.0) county.polygons
        (all_known key_keys IsSmallKey (polygon_keys county)
        (λ k l. key_small k (lt-ltb 0 (times key_cmp k (polygon_keys county)) l)));
    landmarks = all_unmap IsSmall (λ (e : ℕ × List Body7). e.0) county.landmarks lands_small;
    link_polygons = all_weaker (λ l. IsTrue (contains key_cmp (link_key l) (polygon_keys county))) (λ l. IsSmall l.polyid)
        (λ l t. key_small (link_key l) t) county.links is.closed.link_polygons;
    link_lands = all_weaker (λ l. IsTrue (contains nat_cmp l.land (lands county))) (λ l. IsSmall l.land)
        (λ l t. known_all nat_keys IsSmall (lands county) lands_small l.land
        (ltb-true 0 (times nat_cmp l.land (lands county)) t)) county.links is.closed.link_lands;
  }

-- the county of any arrangement is within the limits of its source county
module _ (limit : ℕ) (low : limit ≤ most_records) (county : County) (is : IsCounty county) (arrangement : Arrangement)
    (arranges : Arranges arrangement county) (sides : AllKeysContained (polygons_along county.chains) (polygon_keys county))
    (within : IsWithinLimits limit county) where
  new_is_county : IsCounty (arranged county arrangement)
  new_is_county = arranged_county county arrangement is arranges sides

  carries : Carries (renaming_of county arrangement) county (arranged county arrangement)
  carries = arrangement_carries county arrangement is arranges sides

  counts : HasAtMost limit (packed_by_type (arranged county arrangement))
  counts = carried_counts (renaming_of county arrangement) county (arranged county arrangement) carries (λ _. limit)
      (subst (HasAtMost limit) (by_type_of (packed_by_type county)) (by_type_within limit (packed county) within.counts))

  pub arrangement_small : NumbersSmall (arranged county arrangement)
  arrangement_small =
      let ones : length (map packed_one (arranged county arrangement).chains) ≤ limit = counts.of_type_1 in
      let fives : length (map packed_five (arranged county arrangement).names) ≤ limit = counts.of_type_5 in
      let sevens : length (flat_map packed_sevens (arranged county arrangement).landmarks) ≤ limit = counts.of_type_7 in
      let some = few_landmarks (arranged county arrangement) new_is_county in
      arranged_numbers_small (arranged county arrangement) new_is_county (is_arranged county arrangement is arranges sides)
      (omega (arith, ones, length-map (arranged county arrangement).chains packed_one, low))
      (omega (arith, fives, length-map (arranged county arrangement).names packed_five, low)) (omega (arith, sevens, some, low))

  pub arrangement_within : IsWithinLimits limit (arranged county arrangement)
  arrangement_within = record {
    contents = carried_contents (renaming_of county arrangement) county (arranged county arrangement) carries within.contents;
    numbers = small_numbers_fit (arranged county arrangement) arrangement_small;
    lists = carried_lists (renaming_of county arrangement) county (arranged county arrangement) carries within.lists;
    counts = packed_within limit (arranged county arrangement) counts;
  }

-- a canonical list of what a view shows of an accepted list
module _ (view : County → County) (view_laws : IsView view) (records : List Record) (accepted : IsAccepted records) where
  abbrev old : County
  old = view (county_of records)

  old_is_county : IsCounty old
  old_is_county = view_laws.is_county (county_of records) (county-is_county records accepted.linked)

  old_sides : AllKeysContained (polygons_along old.chains) (polygon_keys old)
  old_sides = sides_in_profile old old_is_county (view_laws.profile (county_of records) accepted.profile)

  module _ (canonical : List Record) (h : IsCanonicalInView view records canonical) where
    -- it is the list of a choice
    made : (arrangement : Arrangement) × IsLeastChoice old arrangement × (canonical ≡ arranged_list old arrangement)
    made = canonical_is_choice old old_is_county old_sides canonical h.canonical h.same

    abbrev arrangement : Arrangement
    arrangement = made.0

    abbrev new : County
    new = arranged old arrangement

    arranges : Arranges arrangement old
    arranges = made.1.choice.arranges

    -- it has at most as many records of each type as the packing of what the view shows
    counts_kept : (limits : ℕ → ℕ) → HasWithin limits (packed_by_type old) → KeepsLimits limits canonical
    counts_kept limits few =
        subst (KeepsLimits limits) (sym made.2)
        (packed_keeps limits new
        (carried_counts (renaming_of old arrangement) old new (arrangement_carries old arrangement old_is_county arranges old_sides) limits few))

    -- and so at most as many as the list, if the view takes no more records than the county
    pub canonical_counts : ShowsNoMore view → AllByRecursion FitsRecord records → (rtype : ℕ)
        → count_of_type rtype canonical ≤ count_of_type rtype records
    canonical_counts no_more fits =
        let limits : ℕ → ℕ = λ n. count_of_type n records in
        let whole : KeepsLimits limits (packed (county_of records)) = packed_keeps limits (county_of records)
        (county_counts records accepted.linked fits limits (by_type_keeps limits records (λ n. omega arith))) in
        let shown : KeepsLimits limits (packed old) = λ n. omega (arith, no_more (county_of records) n, whole n) in
        counts_kept limits (subst (HasWithin limits) (by_type_of (packed_by_type old)) (by_type_keeps limits (packed old) shown))

    module _ (fits : AllByRecursion FitsRecord records) (limit : ℕ) (low : limit ≤ most_records) (few : IsWithinLimit limit records) where
      within_limits : IsWithinLimits limit old
      within_limits = view_laws.limits limit (county_of records) (county-within_limits records accepted.linked fits limit few)

      -- the arranged county is within the limits of the original records
      arranged_within : IsWithinLimits limit new
      arranged_within = arrangement_within limit low old old_is_county arrangement arranges old_sides within_limits

      -- the canonical list keeps the limits
      pub canonical_within : AllByRecursion FitsRecord canonical × IsWithinLimit limit canonical
      canonical_within =
          let whole : IsCounty new = arranged_county old arrangement old_is_county arranges old_sides in
          subst (λ (l : List Record). AllByRecursion FitsRecord l × IsWithinLimit limit l) (sym made.2) (
            packed-fits new whole.whole arranged_within.contents arranged_within.numbers arranged_within.lists,
            arranged_within.counts,
          )

      -- its numbers are at most the greatest number
      pub canonical_low : AllByRecursion (λ r. AllByRecursion (λ n. n ≤ greatest_number) (numbers_of r)) canonical
      canonical_low =
          subst (λ (l : List Record). AllByRecursion (λ r. AllByRecursion (λ n. n ≤ greatest_number) (numbers_of r)) l) (sym made.2)
          (packed_low new (arrangement_small limit low old old_is_county arrangement arranges old_sides within_limits))
