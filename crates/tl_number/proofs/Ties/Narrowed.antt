-- A county whose chains have only wanted names: it's a county within limits, and its chains have the same shapes, nodes and polygons.
use Rattle.tl_number.proofs.Common.{AllByRecursion, AllContained, AllKeysContained, Bool, Chain, County, DirectedChain, FitsChain, FitsNumbers, HasAtMost, IsCounty, IsInOrder, IsNumber, IsPermutation, IsShapeOrder, IsTrue, IsWithinLimits, LeavesChoices, List, ListsFit, None, Option, OrderOfShapes, Some, [], all_filter, all_map, all_weaker, along_shapes, ap, append-nil, arith, by_type_of, by_type_within, chain_at, chain_feats, chain_polygons, choices, choices_of_shapes, contains, directed_chain, directed_cmp, drop, false, feats, filter, flat_map, flat_map-map, group_at, in_pieces, is_either_way, is_some, key_cmp, keys_along, length, length-append, length-map, map, map-map, min, most_choices, most_records, nat_cmp, numbered_from, open_places, option_map, option_to_list, ordering_then, packed, packed_by_type, packed_fours, packed_i, packed_one, packed_sixes, packed_twos, packed_within, pieces, points_along, points_cmp, polygon_keys, polygons_along, range_with_len, refl, running, slice_get, slice_get-map, subst, suc, sym, tlids, true, turned_if, unwrap_or, zero, ℕ, ◌++◌, ◌||◌, ◌∙◌, ◌∷◌, ◌≡◌, ◌≤◌}
use Rattle.std.specs.Ordering.{is_lt}
use Rattle.std.specs.Prelude.{reverse}
use Rattle.std.proofs.lemmas.List.{length-drop}
use Rattle.std.specs.List.Sorted.{IsStrictlySortedBy}
use Rattle.tl_layout.specs.Coordinates.{Coordinates}
use Rattle.county_chart.proofs.Profile.Places.{along_from}
use Rattle.county_chart.specs.ChartWords.{points_of, ranges_of}
use Rattle.county_chart.specs.ShapeOrder.{along_shape}
use Rattle.county_chart.specs.Shapes.{least_points, points_at, points_from}
use Rattle.tl_number.proofs.Ties.CountyParts.{few_filtered}
use Rattle.tl_number.specs.CountyParts.{narrowed, with_names}

-- a shorter list has no more pieces
fewer : {X : Type 0} (n most more : ℕ) (xs ys : List X) → most ≤ more → length xs ≤ length ys → length (pieces n most xs) ≤ length (pieces n more ys)
fewer n zero more xs ys m l = omega arith
fewer n (suc most) more [] ys m l = omega arith
fewer n (suc most) more (x ∷ xs) [] m l = absurd (omega (arith, l))
fewer n (suc most) zero (x ∷ xs) (y ∷ ys) m l = absurd (omega (arith, m))
fewer n (suc most) (suc more) (x ∷ xs) (y ∷ ys) m l =
    let rest = fewer n most more (drop n (x ∷ xs)) (drop n (y ∷ ys)) (omega (arith, m))
    (omega (arith, l, length-drop n (x ∷ xs), length-drop n (y ∷ ys))) in
    omega (arith, rest)

-- the elements of a group that pass a test
pub group_filtered : {X : Type 0} (test : X → Bool) (groups : List (List X)) (place : ℕ) → group_at (map (filter test) groups) place ≡ filter test (group_at groups place)
group_filtered {X} test groups place = ap (λ (g : Option (List X)). unwrap_or g []) (slice_get-map (filter test) groups place) ∙ go (slice_get groups place)
  where
    go : (o : Option (List X)) → unwrap_or (option_map (filter test) o) [] ≡ filter test (unwrap_or o [])
    go None = refl
    go (Some group) = refl

module _ (wanted : ℕ → Bool) (county : County) where
  abbrev narrow : County
  narrow = narrowed wanted county

  abbrev pub narrow_chain : Chain → Chain
  narrow_chain = with_names wanted

  abbrev narrow_entry : ℕ × Chain → ℕ × Chain
  narrow_entry entry = (entry.0, narrow_chain entry.1)

  pub count_narrow : length narrow.chains ≡ length county.chains
  count_narrow = length-map county.chains narrow_entry

  pub tlids_narrow : tlids narrow ≡ tlids county
  tlids_narrow = map-map (λ (entry : ℕ × Chain). entry.0) narrow_entry county.chains

  sides_narrow : polygons_along narrow.chains ≡ polygons_along county.chains
  sides_narrow = flat_map-map (λ (entry : ℕ × Chain). chain_polygons entry.1) narrow_entry county.chains

  -- ---- a chain is read as in the county, except for its names

  pub chain_narrow : (place : ℕ) → chain_at narrow place ≡ option_map narrow_chain (chain_at county place)
  chain_narrow place =
      ap (λ chains. slice_get chains place) (map-map (λ (entry : ℕ × Chain). entry.1) narrow_entry county.chains
      ∙ sym (map-map narrow_chain (λ (entry : ℕ × Chain). entry.1) county.chains))
      ∙ slice_get-map narrow_chain (map (λ (entry : ℕ × Chain). entry.1) county.chains) place

  -- what doesn't depend on names is read from both counties alike
  read_narrow : {X : Type 0} (read : Option Chain → X) → ((chain : Option Chain) → read (option_map narrow_chain chain) ≡ read chain) → (place : ℕ)
      → read (chain_at narrow place) ≡ read (chain_at county place)
  read_narrow read same place = ap read (chain_narrow place) ∙ same (chain_at county place)

  pub points_narrow : (place : ℕ) → points_of (chain_at narrow place) ≡ points_of (chain_at county place)
  points_narrow = read_narrow points_of go
    where
      go : (chain : Option Chain) → points_of (option_map narrow_chain chain) ≡ points_of chain
      go None = refl
      go (Some chain) = refl

  pub ranges_narrow : (place : ℕ) → ranges_of (chain_at narrow place) ≡ ranges_of (chain_at county place)
  ranges_narrow = read_narrow ranges_of go
    where
      go : (chain : Option Chain) → ranges_of (option_map narrow_chain chain) ≡ ranges_of chain
      go None = refl
      go (Some chain) = refl

  pub field_narrow : {X : Type 0} (f : Chain → X) → ((chain : Chain) → f (narrow_chain chain) ≡ f chain) → (place : ℕ)
      → option_map f (chain_at narrow place) ≡ option_map f (chain_at county place)
  field_narrow f same = read_narrow (option_map f) go
    where
      go : (chain : Option Chain) → option_map f (option_map narrow_chain chain) ≡ option_map f chain
      go None = refl
      go (Some chain) = ap Some (same chain)

  pub directed_narrow : (directed : DirectedChain) → directed_chain narrow directed ≡ option_map narrow_chain (directed_chain county directed)
  directed_narrow directed = ap (option_map (turned_if directed.turned)) (chain_narrow directed.place) ∙ go directed.turned (chain_at county directed.place)
    where
      go : (turned : Bool) (chain : Option Chain) → option_map (turned_if turned) (option_map narrow_chain chain)
          ≡ option_map narrow_chain (option_map (turned_if turned) chain)
      go turned None = refl
      go true (Some chain) = refl
      go false (Some chain) = refl

  -- keys that aren't names
  pub keys_narrow : {K : Type 0} (keys : Chain → List K) → ((chain : Chain) → keys (narrow_chain chain) ≡ keys chain) → (arrangement : List DirectedChain)
      → keys_along keys narrow arrangement ≡ keys_along keys county arrangement
  keys_narrow {K} keys same arrangement = λ i. map (λ directed. each directed i) arrangement
    where
      go : (chain : Option Chain) → flat_map keys (option_to_list (option_map narrow_chain chain)) ≡ flat_map keys (option_to_list chain)
      go None = refl
      go (Some chain) = ap (λ ks. ks ++ []) (same chain)

      each : (directed : DirectedChain) → flat_map keys (option_to_list (directed_chain narrow directed)) ≡ flat_map keys (option_to_list (directed_chain county directed))
      each directed = ap (λ chain. flat_map keys (option_to_list chain)) (directed_narrow directed) ∙ go (directed_chain county directed)

  -- of the names, only the wanted ones
  pub feats_narrow : (arrangement : List DirectedChain) → keys_along chain_feats narrow arrangement ≡ map (filter wanted) (keys_along chain_feats county arrangement)
  feats_narrow arrangement = (λ i. map (λ directed. each directed i) arrangement) ∙ sym (map-map (filter wanted) feats_there arrangement)
    where
      feats_there : DirectedChain → List ℕ
      feats_there directed = flat_map chain_feats (option_to_list (directed_chain county directed))

      go : (chain : Option Chain) → flat_map chain_feats (option_to_list (option_map narrow_chain chain)) ≡ filter wanted (flat_map chain_feats (option_to_list chain))
      go None = refl
      go (Some chain) = append-nil (filter wanted chain.feats) ∙ ap (filter wanted) (sym (append-nil chain.feats))

      each : (directed : DirectedChain) → flat_map chain_feats (option_to_list (directed_chain narrow directed)) ≡ filter wanted (feats_there directed)
      each directed = ap (λ chain. flat_map chain_feats (option_to_list chain)) (directed_narrow directed) ∙ go (directed_chain county directed)

  pub names_narrow : (arrangement : List DirectedChain) (place : ℕ) → group_at (keys_along chain_feats narrow arrangement) place
      ≡ filter wanted (group_at (keys_along chain_feats county arrangement) place)
  names_narrow arrangement place = ap (λ along. group_at along place) (feats_narrow arrangement)
      ∙ group_filtered wanted (keys_along chain_feats county arrangement) place

  -- ---- it's a county within limits

  module _ (is : IsCounty county) where
    pub narrow_is : IsCounty narrow
    narrow_is = record {
      ascending = record {
        chains = subst (IsStrictlySortedBy nat_cmp) (sym tlids_narrow) is.ascending.chains;
        names = is.ascending.names;
        polygons = is.ascending.polygons;
        landmarks = is.ascending.landmarks;
        bodies = is.ascending.bodies;
        links = is.ascending.links;
      };
      closed = record {
        names = all_map (λ (entry : ℕ × Chain). AllContained (feats county) entry.1.feats) narrow_entry county.chains
            (all_weaker (λ (entry : ℕ × Chain). AllContained (feats county) entry.1.feats) (λ (entry : ℕ × Chain). AllContained (feats county) (filter wanted entry.1.feats))
            (λ entry. all_filter (λ feat. IsTrue (contains nat_cmp feat (feats county))) wanted entry.1.feats) county.chains is.closed.names);
        sides = all_map (λ (entry : ℕ × Chain). AllKeysContained (polygon_keys county) (chain_polygons entry.1)) narrow_entry county.chains is.closed.sides;
        link_lands = is.closed.link_lands;
        link_polygons = is.closed.link_polygons;
      };
      whole = record {
        points = all_map (λ (entry : ℕ × Chain). 2 ≤ length entry.1.points) narrow_entry county.chains is.whole.points;
        bodies = is.whole.bodies;
        polygons = subst (λ sides. AllByRecursion (λ entry. IsTrue (is_some entry.1 || contains key_cmp entry.0 sides)) county.polygons) (sym sides_narrow)
            is.whole.polygons;
      };
    }

  module _ (within : IsWithinLimits most_records county) where
    -- it has no more records of type 4, and as many of each other type
    few_fours : (entries : List (ℕ × Chain)) → length (flat_map packed_fours (map narrow_entry entries)) ≤ length (flat_map packed_fours entries)
    few_fours [] = omega arith
    few_fours (entry ∷ entries) =
        let own = few_filtered wanted entry.1.feats in
        let here = fewer 5 (length (filter wanted entry.1.feats)) (length entry.1.feats) (filter wanted entry.1.feats) entry.1.feats own own in
        let rest = few_fours entries in
        omega (
          arith,
          rest,
          here,
          packed_length (narrow_entry entry),
          packed_length entry,
          length-append (packed_fours (narrow_entry entry)) (flat_map packed_fours (map narrow_entry entries)),
          length-append (packed_fours entry) (flat_map packed_fours entries),
        )
      where
        numbered_length : {X : Type 0} (n : ℕ) (xs : List X) → length (numbered_from n xs) ≡ length xs
        numbered_length n [] = refl
        numbered_length n (x ∷ xs) = ap suc (numbered_length (suc n) xs)

        packed_length : (e : ℕ × Chain) → length (packed_fours e) ≡ length (in_pieces 5 e.1.feats)
        packed_length e = length-map (numbered_from 1 (in_pieces 5 e.1.feats)) _ ∙ numbered_length 1 (in_pieces 5 e.1.feats)

    counts_narrow : HasAtMost most_records (packed_by_type narrow)
    counts_narrow =
        let counts = subst (HasAtMost most_records) (by_type_of (packed_by_type county)) (by_type_within most_records (packed county) within.counts) in
        record {
          of_type_1 = omega (arith, counts.of_type_1, length-map narrow.chains packed_one, length-map county.chains packed_one, count_narrow);
          of_type_2 = subst (λ rs. length rs ≤ most_records) (sym (flat_map-map packed_twos narrow_entry county.chains)) counts.of_type_2;
          of_type_4 = omega (arith, counts.of_type_4, few_fours county.chains);
          of_type_5 = counts.of_type_5;
          of_type_6 = subst (λ rs. length rs ≤ most_records) (sym (flat_map-map packed_sixes narrow_entry county.chains)) counts.of_type_6;
          of_type_7 = counts.of_type_7;
          of_type_8 = counts.of_type_8;
          of_type_i = omega (arith, counts.of_type_i, length-map narrow.chains packed_i, length-map county.chains packed_i, count_narrow);
          of_type_p = counts.of_type_p;
        }

    pub narrow_within : IsWithinLimits most_records narrow
    narrow_within = record {
      contents = record {
        chains = all_map (λ (entry : ℕ × Chain). FitsChain entry.1) narrow_entry county.chains
            (all_weaker (λ (entry : ℕ × Chain). FitsChain entry.1) (λ (entry : ℕ × Chain). FitsChain (narrow_chain entry.1))
            (λ entry f. record { body = f.body; points = f.points; ranges = f.ranges; link = f.link }) county.chains within.contents.chains);
        names = within.contents.names;
        cenids = within.contents.cenids;
        polygons = within.contents.polygons;
        landmarks = within.contents.landmarks;
        links = within.contents.links;
      };
      numbers = record {
        chains = all_map (λ (entry : ℕ × Chain). IsNumber 10 entry.0) narrow_entry county.chains within.numbers.chains;
        named = all_map (λ (entry : ℕ × Chain). FitsNumbers entry.1) narrow_entry county.chains
            (all_weaker (λ (entry : ℕ × Chain). FitsNumbers entry.1) (λ (entry : ℕ × Chain). FitsNumbers (narrow_chain entry.1))
            (λ entry f. record {
              feats = all_filter (IsNumber 8) wanted entry.1.feats f.feats;
              start_node = f.start_node;
              end_node = f.end_node;
              left = f.left;
              right = f.right;
            }) county.chains within.numbers.named);
        names = within.numbers.names;
        polygons = within.numbers.polygons;
        landmarks = within.numbers.landmarks;
        link_polygons = within.numbers.link_polygons;
        link_lands = within.numbers.link_lands;
      };
      lists = all_map (λ (entry : ℕ × Chain). ListsFit entry.1) narrow_entry county.chains
          (all_weaker (λ (entry : ℕ × Chain). ListsFit entry.1) (λ (entry : ℕ × Chain). ListsFit (narrow_chain entry.1))
          (λ entry f. record {
            points = f.points;
            feats = (let most = f.feats in omega (arith, most, few_filtered wanted entry.1.feats));
            ranges = f.ranges;
          }) county.chains within.lists);
      counts = packed_within most_records narrow counts_narrow;
    }

  -- ---- an order of the county's shapes is an order of its own shapes too, and leaves as many choices

  pub choices_narrow : choices narrow ≡ choices county
  choices_narrow =
      sym (choices_of_shapes narrow)
      ∙ ap (running points_cmp is_either_way) (map-map (λ (entry : ℕ × Chain). least_points entry.1.points) narrow_entry county.chains)
      ∙ choices_of_shapes county

  points_kept : points_at narrow ≡ points_at county
  points_kept = λ i place. points_narrow place i

  by_shape_kept : along_shapes narrow ≡ along_shapes county
  by_shape_kept =
      ap (λ (points : ℕ → List Coordinates). map (λ (place : ℕ). let w : DirectedChain = record {
        place = place;
        turned = is_lt (points_cmp (reverse (points place)) (points place));
      } in w) (range_with_len 0 (length narrow.chains))) points_kept
      ∙ ap (λ count. map (along_shape county) (range_with_len 0 count)) count_narrow

  along_kept : points_along narrow ≡ points_along county
  along_kept = λ i directed. (along_from narrow directed ∙ ap (points_from directed.turned) (λ j. points_kept j directed.place)
      ∙ sym (along_from county directed)) i

  order_kept : directed_cmp narrow ≡ directed_cmp county
  order_kept = λ i a b. ordering_then (points_cmp (along_kept i a) (along_kept i b)) (nat_cmp a.place b.place)

  narrow_order : (order : OrderOfShapes) → IsShapeOrder county order → IsShapeOrder narrow order
  narrow_order order h = record {
    by_shape = record {
      all = subst (λ ws. IsPermutation ws order.by_shape) (sym by_shape_kept) h.by_shape.all;
      in_order = subst (λ cmp. IsInOrder cmp order.by_shape) (sym order_kept) h.by_shape.in_order;
    };
    count = h.count ∙ ap (λ n. min n (suc most_choices)) (sym choices_narrow);
    places = λ few. h.places (subst (λ n. n ≤ most_choices) choices_narrow few)
        ∙ ap (λ (along : DirectedChain → List Coordinates). open_places points_cmp is_either_way 0 (map along order.by_shape)) (sym along_kept);
  }

  pub narrow_leaves : (order : OrderOfShapes) → LeavesChoices county order → LeavesChoices narrow order
  narrow_leaves order known = record {
    order = narrow_order order known.order;
    few = subst (λ n. n ≤ most_choices) (sym choices_narrow) known.few;
    within = known.within;
    sides = subst (λ sides. AllKeysContained sides (polygon_keys county)) (sym sides_narrow) known.sides;
  }
