-- A part of a county is a county, it's within the same limits, and all its polygons are on sides.
use Rattle.tl_number.proofs.Common.{AllByRecursion, AllContained, AllKeysContained, Body5, Body7, BodyP, Bool, Chain, County, Fields8, FitsChain, FitsLandmark, FitsLink, FitsNameBody, FitsNumbers, FitsPolygon, HasAtMost, IfSome, IsAscending, IsCounty, IsInOrder, IsKeyOrder, IsNumber, IsStrictlySortedBy-filter, IsText, IsTrue, IsWithinLimits, List, ListsFit, Option, Ordering, PolygonKey, [], all_both, all_filter, all_known, all_map, all_pieces, all_weaker, ap, arith, by_type_of, by_type_within, chain_polygons, cond_both, contains, contains-filter, count_by-le-length, feats, feats_along, filter, filter-mapped, filter_map, filter_passes, flat_map, grouped_selected, in_order-filter, is_some, key_cmp, key_keys, known_all, landmark_body_cmp, lands, length, length-append, length-filter, length-in_order, length-map, link_cmp, link_key, lt-ltb, ltb-true, map, nat_cmp, nat_keys, on, option_to_list, or_right, p_polyid, packed, packed_by_type, packed_five, packed_fours, packed_i, packed_one, packed_p, packed_sevens, packed_sixes, packed_twos, packed_within, polygon_keys, polygons_along, recursion_from_All, strict-map, strict-unmap, subst, sym, times, true, ℕ, ◌||◌, ◌∙◌, ◌∷◌, ◌≡◌, ◌≤◌}
use Rattle.ordered_lists.proofs.Lists.Elements.{all_joined, flat_map-map}
use Rattle.std.specs.List.Sorted.{IsStrictlySortedBy}
use Rattle.tl_number.specs.CountyParts.{part_of}

-- the elements that pass a test
pub all_pass : {X : Type 0} (test : X → Bool) (xs : List X) → AllByRecursion (λ x. test x ≡ true) (filter test xs)
all_pass test xs = recursion_from_All (λ x. test x ≡ true) (filter test xs) (filter_passes test xs)

-- entries that pass a test ascend as all do
pub strict_part : {K V : Type 0} (cmp : K → K → Ordering) (test : K × V → Bool) (es : List (K × V))
    → IsStrictlySortedBy cmp (map (λ e. e.0) es) → IsStrictlySortedBy cmp (map (λ e. e.0) (filter test es))
strict_part {K} {V} cmp test es h = strict-unmap cmp (λ (e : K × V). e.0) (filter test es)
    (IsStrictlySortedBy-filter (on (λ (e : K × V). e.0) cmp) test es (strict-map cmp (λ (e : K × V). e.0) es h))

-- The entries with used keys have each used key that some entry has.
module _ {K V : Type 0} {cmp : K → K → Ordering} (o : IsKeyOrder cmp) (es : List (K × V)) where
  abbrev with_keys : List K → List (K × V)
  with_keys used = filter (λ e. contains cmp e.0 used) es

  abbrev Has : List (K × V) → K → Type 0
  Has entries k = IsTrue (contains cmp k (map (λ (e : K × V). e.0) entries))

  used_contained : (used : List K) (k : K) → Has es k → IsTrue (contains cmp k used) → Has (with_keys used) k
  used_contained used k there is_used =
      ap (contains cmp k) (sym (filter-mapped (λ j. contains cmp j used) (λ (e : K × V). e.0) es))
      ∙ contains-filter o (λ j. contains cmp j used) k (map (λ (e : K × V). e.0) es) (ltb-true 0 (times cmp k (map (λ (e : K × V). e.0) es)) there)
      ∙ is_used

  -- the keys that are used along a list
  used_along : {X : Type 0} (keys : X → List K) (xs : List X) → AllByRecursion (λ x. AllByRecursion (Has es) (keys x)) xs
      → AllByRecursion (λ x. AllByRecursion (Has (with_keys (flat_map keys xs))) (keys x)) xs
  used_along keys xs all =
      let used = flat_map keys xs in
      all_pieces (Has (with_keys used)) keys xs (all_known o (Has (with_keys used)) used
      (λ k h. used_contained used k (known_all o (Has es) used (all_joined (Has es) keys xs all) k h) (lt-ltb 0 (times cmp k used) h)))

-- fewer elements have fewer pieces
few_pieces : {X Y : Type 0} (f : X → List Y) (test : X → Bool) (xs : List X) → length (flat_map f (filter test xs)) ≤ length (flat_map f xs)
few_pieces f test [] = omega arith
few_pieces f test (x ∷ xs) =
    let rest = few_pieces f test xs in let all = length-append (f x) (flat_map f xs) in
    cond_both (test x) (x ∷ filter test xs) (filter test xs) (λ ys. length (flat_map f ys) ≤ length (flat_map f (x ∷ xs)))
    (λ e. omega (arith, rest, all, length-append (f x) (flat_map f (filter test xs)))) (λ e. omega (arith, rest, all))

few_selected : {X Y : Type 0} (f : X → Option Y) (test : X → Bool) (xs : List X) → length (filter_map f (filter test xs)) ≤ length (filter_map f xs)
few_selected {X} {Y} f test xs =
    let in_pieces = λ (ys : List X). ap length (sym (grouped_selected f ys) ∙ flat_map-map (λ (l : List Y). l) (λ y. option_to_list (f y)) ys) in
    omega (arith, in_pieces xs, in_pieces (filter test xs), few_pieces (λ x. option_to_list (f x)) test xs)

pub few_filtered : {X : Type 0} (test : X → Bool) (xs : List X) → length (filter test xs) ≤ length xs
few_filtered test xs = omega (arith, length-filter test xs, count_by-le-length test xs)

module _ (county : County) (keeps : ℕ × Chain → Bool) (with_lands : List ℕ) where
  abbrev part : County
  part = part_of county keeps with_lands

  abbrev kept : List (ℕ × Chain)
  kept = filter keeps county.chains

  abbrev used_name : ℕ × Body5 → Bool
  used_name name = contains nat_cmp name.0 (feats_along kept)

  abbrev used_polygon : PolygonKey × Option BodyP → Bool
  used_polygon polygon = contains key_cmp polygon.0 (polygons_along kept)

  abbrev kept_landmark : ℕ × List Body7 → Bool
  kept_landmark landmark = contains nat_cmp landmark.0 with_lands

  abbrev kept_link : Fields8 → Bool
  kept_link link = contains nat_cmp link.land with_lands

  abbrev part_links : List Fields8
  part_links = filter kept_link county.links

  module _ (is : IsCounty county) where
    ascending : IsAscending part
    unfolding part_of IsStrictlySortedBy
    ascending = record {
      chains = strict_part nat_cmp keeps county.chains is.ascending.chains;
      names = strict_part nat_cmp used_name county.names is.ascending.names;
      polygons = strict_part key_cmp used_polygon county.polygons is.ascending.polygons;
      landmarks = strict_part nat_cmp kept_landmark county.landmarks is.ascending.landmarks;
      bodies = all_filter (λ (entry : ℕ × List Body7). IsInOrder landmark_body_cmp entry.1) kept_landmark county.landmarks is.ascending.bodies;
      links = in_order-filter link_cmp kept_link county.links is.ascending.links;
    }

    abbrev IsAmong : List PolygonKey → Fields8 → Type 0
    IsAmong keys link = IsTrue (contains key_cmp (link_key link) keys)

    -- a polygon of a landmark that is on a chain of the part is in the part
    linked : AllByRecursion (IsAmong (polygons_along kept)) part_links
        → AllByRecursion (IsAmong (map (λ (e : PolygonKey × Option BodyP). e.0) (filter used_polygon county.polygons))) part_links
    linked on_sides = all_weaker (λ link. IsAmong (polygon_keys county) link × IsAmong (polygons_along kept) link)
        (IsAmong (map (λ (e : PolygonKey × Option BodyP). e.0) (filter used_polygon county.polygons)))
        (λ link both. used_contained key_keys county.polygons (polygons_along kept) (link_key link) both.0 both.1) part_links
        (all_both (IsAmong (polygon_keys county)) (IsAmong (polygons_along kept)) part_links
        (all_filter (IsAmong (polygon_keys county)) kept_link county.links is.closed.link_polygons) on_sides)

    -- the landmark of a link of the part is in the part
    link_lands : AllByRecursion (λ (link : Fields8). IsTrue (contains nat_cmp link.land
        (map (λ (e : ℕ × List Body7). e.0) (filter kept_landmark county.landmarks)))) part_links
    link_lands = all_weaker (λ (link : Fields8). IsTrue (contains nat_cmp link.land (lands county)) × (kept_link link ≡ true))
        (λ link. IsTrue (contains nat_cmp link.land (map (λ (e : ℕ × List Body7). e.0) (filter kept_landmark county.landmarks))))
        (λ link both. used_contained nat_keys county.landmarks with_lands link.land both.0 both.1) part_links
        (all_both (λ (link : Fields8). IsTrue (contains nat_cmp link.land (lands county))) (λ link. kept_link link ≡ true) part_links
        (all_filter (λ (link : Fields8). IsTrue (contains nat_cmp link.land (lands county))) kept_link county.links is.closed.link_lands)
        (all_pass kept_link county.links))

    -- If the polygons of its landmarks are on its chains, a part is a county.
    pub part_is : AllByRecursion (λ link. IsTrue (contains key_cmp (link_key link) (polygons_along kept))) part_links → IsCounty part
    unfolding part_of
    part_is on_sides = record {
      ascending = ascending;
      closed = record {
        names = used_along nat_keys county.names (λ (entry : ℕ × Chain). entry.1.feats) kept
            (all_filter (λ (entry : ℕ × Chain). AllContained (feats county) entry.1.feats) keeps county.chains is.closed.names);
        sides = used_along key_keys county.polygons (λ (entry : ℕ × Chain). chain_polygons entry.1) kept
            (all_filter (λ (entry : ℕ × Chain). AllKeysContained (polygon_keys county) (chain_polygons entry.1)) keeps county.chains is.closed.sides);
        link_lands = link_lands;
        link_polygons = linked on_sides;
      };
      whole = record {
        points = all_filter (λ (entry : ℕ × Chain). 2 ≤ length entry.1.points) keeps county.chains is.whole.points;
        bodies = all_filter (λ (entry : ℕ × List Body7). 1 ≤ length entry.1) kept_landmark county.landmarks is.whole.bodies;
        polygons = all_weaker (λ polygon. used_polygon polygon ≡ true) (λ (e : PolygonKey × Option BodyP). IsTrue (is_some e.1 || used_polygon e))
            (λ e h. or_right (is_some e.1) (used_polygon e) h) (filter used_polygon county.polygons) (all_pass used_polygon county.polygons);
      };
    }

    -- All polygons of a part are on sides.
    pub part_sides : AllKeysContained (polygons_along part.chains) (polygon_keys part)
    unfolding part_of
    part_sides = all_map (λ key. IsTrue (contains key_cmp key (polygons_along kept))) (λ (e : PolygonKey × Option BodyP). e.0)
        (filter used_polygon county.polygons) (all_pass used_polygon county.polygons)

  module _ (limit : ℕ) (within : IsWithinLimits limit county) where
    -- it has no more records of any type
    part_counts : HasAtMost limit (packed_by_type part)
    unfolding part_of
    part_counts =
        let counts = subst (HasAtMost limit) (by_type_of (packed_by_type county)) (by_type_within limit (packed county) within.counts) in
        let names = filter used_name county.names in
        let polygons = filter used_polygon county.polygons in
        record {
          of_type_1 = omega (arith, counts.of_type_1, few_filtered keeps county.chains, length-map kept packed_one, length-map county.chains packed_one);
          of_type_2 = omega (arith, counts.of_type_2, few_pieces packed_twos keeps county.chains);
          of_type_4 = omega (arith, counts.of_type_4, few_pieces packed_fours keeps county.chains);
          of_type_5 = omega (arith, counts.of_type_5, few_filtered used_name county.names, length-map names packed_five, length-map county.names packed_five);
          of_type_6 = omega (arith, counts.of_type_6, few_pieces packed_sixes keeps county.chains);
          of_type_7 = omega (arith, counts.of_type_7, few_pieces packed_sevens kept_landmark county.landmarks);
          of_type_8 = omega (arith, counts.of_type_8, few_filtered kept_link county.links);
          of_type_i = omega (arith, counts.of_type_i, few_filtered keeps county.chains, length-map kept packed_i, length-map county.chains packed_i);
          of_type_p = omega (
            arith,
            counts.of_type_p,
            few_selected packed_p used_polygon county.polygons,
            length-in_order (on p_polyid nat_cmp) (filter_map packed_p polygons),
            length-in_order (on p_polyid nat_cmp) (filter_map packed_p county.polygons),
          );
        }

    -- A part of a county within limits is within them.
    pub part_within : IsWithinLimits limit part
    unfolding part_of
    part_within = record {
      contents = record {
        chains = all_filter (λ (e : ℕ × Chain). FitsChain e.1) keeps county.chains within.contents.chains;
        names = all_filter (λ (e : ℕ × Body5). FitsNameBody e.1) used_name county.names within.contents.names;
        cenids = all_filter (λ (e : PolygonKey × Option BodyP). IsText 5 e.0.0) used_polygon county.polygons within.contents.cenids;
        polygons = all_filter (λ (e : PolygonKey × Option BodyP). IfSome e.1 (FitsPolygon e.0.0)) used_polygon county.polygons within.contents.polygons;
        landmarks = all_filter (λ (e : ℕ × List Body7). AllByRecursion FitsLandmark e.1) kept_landmark county.landmarks within.contents.landmarks;
        links = all_filter FitsLink kept_link county.links within.contents.links;
      };
      numbers = record {
        chains = all_filter (λ (e : ℕ × Chain). IsNumber 10 e.0) keeps county.chains within.numbers.chains;
        named = all_filter (λ (e : ℕ × Chain). FitsNumbers e.1) keeps county.chains within.numbers.named;
        names = all_filter (λ (e : ℕ × Body5). IsNumber 8 e.0) used_name county.names within.numbers.names;
        polygons = all_filter (λ (e : PolygonKey × Option BodyP). IsNumber 10 e.0.1) used_polygon county.polygons within.numbers.polygons;
        landmarks = all_filter (λ (e : ℕ × List Body7). IsNumber 10 e.0) kept_landmark county.landmarks within.numbers.landmarks;
        link_polygons = all_filter (λ (link : Fields8). IsNumber 10 link.polyid) kept_link county.links within.numbers.link_polygons;
        link_lands = all_filter (λ (link : Fields8). IsNumber 10 link.land) kept_link county.links within.numbers.link_lands;
      };
      lists = all_filter (λ (e : ℕ × Chain). ListsFit e.1) keeps county.chains within.lists;
      counts = packed_within limit part part_counts;
    }
