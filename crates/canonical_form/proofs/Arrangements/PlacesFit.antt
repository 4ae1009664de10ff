-- A county within its limits is small enough for places of 32 bits.
use Rattle.canonical_form.proofs.Common.{AllByRecursion, AllKeysContained, Among, BodyP, Chain, County, HasAtMost, IsApart, IsCounty, IsKeyOrder, IsTrue, IsWithinLimits, List, Option, Ordering, PolygonKey, [], all_weaker, apart_from_sorted, arith, by_type_of, by_type_within, chain_polygons, contains, few_in_groups, filter, flat_map, is_eq, key_keys, known_is_among, length, length-map, ltb-true, map, most_records, packed, packed_by_type, packed_five, packed_one, packed_sevens, polygon_keys, polygons_along, same-itself, subst, times, to_filter, ℕ, ◌*◌, ◌<◌, ◌^◌, ◌∷◌, ◌≡◌, ◌≤◌}
use Rattle.canonical_form.proofs.Arrangements.ArrangedNumbers.{few_landmarks, long_joined, short_joined, two_polygons}

-- the places of chains, names, polygons and landmarks fit into 32 bits
pub record FitsPlaces (county : County) : Type 0 where
  pub chains : length county.chains < 2 ^ 32
  pub names : length county.names < 2 ^ 32
  pub polygons : length county.polygons < 2 ^ 32
  pub landmarks : length county.landmarks < 2 ^ 32

some_there : {X : Type 0} (x : X) (xs : List X) → Among x xs → 1 ≤ length xs
some_there x [] m = absurd m
some_there x (y ∷ ys) m = omega arith

-- distinct keys that are in a list are at most as many as its elements
few_known : {K : Type 0} {cmp : K → K → Ordering} → IsKeyOrder cmp → (ks xs : List K) → IsApart cmp ks
    → AllByRecursion (λ k. IsTrue (contains cmp k xs)) ks → length ks ≤ length xs
few_known {K} {cmp} o ks xs apart known =
    let groups : length (flat_map (λ k. filter (λ x. is_eq (cmp x k)) xs) ks) ≤ length xs =
    few_in_groups (λ k x. is_eq (cmp x k)) ks apart xs in
    let filled : AllByRecursion (λ k. 1 ≤ length (filter (λ x. is_eq (cmp x k)) xs)) ks =
    all_weaker (λ k. IsTrue (contains cmp k xs)) (λ k. 1 ≤ length (filter (λ x. is_eq (cmp x k)) xs))
    (λ k t. some_there k (filter (λ x. is_eq (cmp x k)) xs)
    (to_filter (λ x. is_eq (cmp x k)) k xs (known_is_among o k xs (ltb-true 0 (times cmp k xs) t)) (same-itself o k))) ks known in
    omega (arith, groups, long_joined (λ k. filter (λ x. is_eq (cmp x k)) xs) ks filled)

-- a county has at most as many names as records of one type
pub few_names : (county : County) → IsWithinLimits most_records county → length county.names ≤ most_records
few_names county within =
    let counts : HasAtMost most_records (packed_by_type county) =
    subst (HasAtMost most_records) (by_type_of (packed_by_type county)) (by_type_within most_records (packed county) within.counts) in
    let fives : length (map packed_five county.names) ≤ most_records = counts.of_type_5 in
    omega (arith, fives, length-map county.names packed_five)

pub places_fit : (county : County) → IsCounty county → IsWithinLimits most_records county
    → AllKeysContained (polygons_along county.chains) (polygon_keys county) → FitsPlaces county
places_fit county is within sides =
    let counts : HasAtMost most_records (packed_by_type county) =
    subst (HasAtMost most_records) (by_type_of (packed_by_type county)) (by_type_within most_records (packed county) within.counts) in
    let ones : length (map packed_one county.chains) ≤ most_records = counts.of_type_1 in
    let sevens : length (flat_map packed_sevens county.landmarks) ≤ most_records = counts.of_type_7 in
    let lands = few_landmarks county is in
    let along : length (polygons_along county.chains) ≤ 2 * length county.chains =
    short_joined (λ (e : ℕ × Chain). chain_polygons e.1) two_polygons county.chains in
    let keys : length (polygon_keys county) ≤ length (polygons_along county.chains) =
    few_known key_keys (polygon_keys county) (polygons_along county.chains)
    (apart_from_sorted key_keys (polygon_keys county) is.ascending.polygons) sides in
    let same : length (polygon_keys county) ≡ length county.polygons =
    length-map county.polygons (λ (e : PolygonKey × Option BodyP). e.0) in
    record {
      chains = omega (arith, ones, length-map county.chains packed_one);
      names = (let few = few_names county within in omega (arith, few));
      polygons = omega (arith, keys, same, along, ones, length-map county.chains packed_one);
      landmarks = omega (arith, sevens, lands);
    }
