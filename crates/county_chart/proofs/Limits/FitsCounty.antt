-- Linked records that fit, and aren't too many of any type, have a county within its limits.
use Rattle.county_chart.proofs.Common.{AllByRecursion, Body5, Body7, BodyP, Bool, Chain, ContentsFit, Coordinates, Fields1, Fields2, Fields4, Fields5, Fields6, Fields7, FieldsI, FieldsP, FitsChain, FitsLandmark, FitsLink, FitsNameBody, FitsNumbers, FitsPolygon, FitsRanges, FitsRecord, HasWithin, IfSome, IsApart, IsLinked, IsNumber, IsNumberOrNone, IsOnMap, IsText, IsWithinLimit, IsWithinLimits, Known, List, ListsFit, None, NumbersFit, Option, Ordering, PolygonKey, Record, RecordType, SequenceBroken, Some, Type1, Type2, Type4, Type5, Type6, Type7, Type8, TypeI, TypeP, [], all-in_order, all_among, all_append, all_everywhere, all_filter, all_joined, all_known, all_map, all_selected, all_weaker, among-map, among_known, ap, apart-distinct, apart_from_no_repeat, apart_from_sorted, arith, as_type, by_type, by_type_within, chain_of, chain_tlids, chains_of, cond, cons_option, count-map, county_of, differ, differ_apart, distinct, false, few_in_groups, few_numbers, filter, filter-agree, filter_map, first, five_feat, flat_map, flat_map-map, four_rtsq, four_tlid, further_names, further_ranges, greatest_rtsq, has_repeat, hits_once, i_tlid, in_order, inl, inr, is_eq, key_cmp, key_keys, key_under, known_all, known_from_distinct, landmark_body_cmp, length, length-append, length-in_order, length-map, link_cmp, map, nat_cmp, nat_keys, of_number, of_type, of_type_1, of_type_2, of_type_4, of_type_5, of_type_6, of_type_7, of_type_8, of_type_i, of_type_p, on, one_tlid, p_key, packed_within, polygon_body, refl, rules, same-true, same_or_not, seven_land, shape_points, shorter_pieces, side_keys, six_rtsq, six_tlid, subst, sym, tlids, true, two_rtsq, two_tlid, ℕ, ◌*◌, ◌++◌, ◌+◌, ◌-◌, ◌<◌, ◌==◌, ◌∙◌, ◌∷◌, ◌≡◌, ◌≤◌, ◌⊎◌}
use Rattle.county_chart.proofs.Packing.Pieces.{few_pieces, length-numbered_from}
use Rattle.county_chart.proofs.Limits.FieldsFit.{Fit, Fit1, Fit2, Fit4, Fit5, Fit6, Fit7, Fit8, FitI, FitP, left_cenid_fits, polygon_cenid_fits, right_cenid_fits, selected_fit}
use Rattle.county_chart.proofs.Rules.LinkedCounty.{chains_all, county-is_county, the_link, tlids-county}
use Rattle.county_chart.specs.Packing.{in_pieces, inner_points, numbered_from, p_polyid, packed_body, packed_by_type, packed_five, packed_fours, packed_i, packed_one, packed_p, packed_sevens, packed_sixes, packed_twos, without_last}
use Rattle.county_chart.specs.declared.fault.SequencedType.TheVariants as sequenced

flat_map-one : {X Y : Type 0} (f : X → Y) (xs : List X) → flat_map (λ x. f x ∷ []) xs ≡ map f xs
flat_map-one f [] = refl
flat_map-one f (x ∷ xs) = ap (λ ys. f x ∷ ys) (flat_map-one f xs)

-- a property of each content is a property of the contents joined in the order of their RTSQs
all_joined_in_order : {X Y : Type 0} (Q : Y → Type 0) (content : X → List Y) (by : X → X → Ordering) (test : X → Bool) (xs : List X)
    → AllByRecursion (λ x. AllByRecursion Q (content x)) xs → AllByRecursion Q (flat_map content (in_order by (filter test xs)))
all_joined_in_order Q content by test xs a = search (rules, all_joined, all-in_order, all_filter)

-- contents of at most `width` elements each have at most `width` times as many elements together
length-joined : {X Y : Type 0} (width : ℕ) (content : X → List Y) (xs : List X) → AllByRecursion (λ x. length (content x) ≤ width) xs
    → length (flat_map content xs) ≤ width * length xs
length-joined width content [] a = omega arith
length-joined width content (x ∷ xs) a = search (rules, length-append, length-joined width content xs a.1)

inner_back : (points : List Coordinates) (e : Coordinates) → without_last (points ++ (e ∷ [])) ≡ points
inner_back [] e = refl
inner_back (p ∷ []) e = refl
inner_back (p ∷ q ∷ points) e = ap (λ rest. p ∷ rest) (inner_back (q ∷ points) e)

-- the polygon on a side that fits
key_fits : (cenid : List ℕ) (polyid : Option ℕ) → IsText 5 cenid → IsNumberOrNone 10 polyid
    → AllByRecursion (λ (key : PolygonKey). IsText 5 key.0 × IsNumber 10 key.1) (key_under cenid polyid)
key_fits cenid None t n = tt
key_fits cenid (Some polyid) t n = ((t, n), tt)

first_of : {X : Type 0} (Q : X → Type 0) (xs : List X) → AllByRecursion Q xs → IfSome (first xs) Q
first_of Q [] a = tt
first_of Q (x ∷ xs) a = a.0

-- at most one of several distinct keys belongs to a record
once : (found : List PolygonKey) → IsApart key_cmp found → (r : FieldsP) → length (filter (λ key. is_eq (key_cmp key (p_key r))) found) ≤ 1
once found apart r = subst (λ ls. length ls ≤ 1) (filter-agree (λ key. is_eq (key_cmp (p_key r) key)) (λ key. is_eq (key_cmp key (p_key r)))
    (λ key. either_way (p_key r) key) found) (apart (p_key r))
  where
    either_way : (k j : PolygonKey) → is_eq (key_cmp k j) ≡ is_eq (key_cmp j k)
    either_way k j = go (same_or_not key_keys k j)
      where
        go : (k ≡ j) ⊎ (is_eq (key_cmp k j) ≡ false) → is_eq (key_cmp k j) ≡ is_eq (key_cmp j k)
        go (inl e) = λ i. is_eq (key_cmp (e i) (sym e i))
        go (inr ne) = ne ∙ sym (differ key_keys j k (λ e. differ_apart key_keys k j ne (sym e)))

-- a polygon takes a packed record only if it has a record
few_packed : (key : PolygonKey) (bodies : List BodyP) (rest : List FieldsP) (n : ℕ) → length rest ≤ n
    → length (cons_option (packed_body key (first bodies)) rest) ≤ length bodies + n
few_packed key [] rest n h = omega arith
few_packed key (body ∷ bodies) rest n h = omega arith

-- the contents of a polygon's records fit with its CENID
bodies_of_key : (key : PolygonKey) (rs : List FieldsP) → AllByRecursion FitP rs
    → AllByRecursion (λ r. FitsPolygon key.0 r.body) (filter (λ r. is_eq (key_cmp key (p_key r))) rs)
bodies_of_key key [] a = tt
bodies_of_key key (r ∷ rs) a = go (is_eq (key_cmp key (p_key r))) refl (bodies_of_key key rs a.1)
  where
    go : (b : Bool) → is_eq (key_cmp key (p_key r)) ≡ b
        → AllByRecursion (λ q. FitsPolygon key.0 q.body) (filter (λ q. is_eq (key_cmp key (p_key q))) rs)
        → AllByRecursion (λ q. FitsPolygon key.0 q.body)
        (cond b (r ∷ filter (λ q. is_eq (key_cmp key (p_key q))) rs) (filter (λ q. is_eq (key_cmp key (p_key q))) rs))
    go true e ih = (subst (λ (k : PolygonKey). FitsPolygon k.0 r.body) (sym (same-true key_keys key (p_key r) e)) a.0.body, ih)
    go false e ih = ih

module _ (records : List Record) (linked : IsLinked records) (fits : AllByRecursion FitsRecord records) where
  -- the records of each type fit
  fit : (t : RecordType) → AllByRecursion (Fit t) (of_type t records)
  fit t = all_selected FitsRecord (Fit t) (as_type t) (selected_fit t) records fits

  shape_points_fit : (tlid : ℕ) → AllByRecursion IsOnMap (shape_points records tlid)
  shape_points_fit tlid =
      all_joined_in_order IsOnMap (λ (r : Fields2). r.points) (on two_rtsq nat_cmp) (λ r. two_tlid r == tlid) (of_type_2 records)
      (all_weaker Fit2 (λ r. AllByRecursion IsOnMap r.points) (λ r f. f.points) (of_type_2 records) (fit Type2))

  names_fit : (tlid : ℕ) → AllByRecursion (IsNumber 8) (further_names records tlid)
  names_fit tlid = all_joined_in_order (IsNumber 8) (λ (r : Fields4). r.feats) (on four_rtsq nat_cmp) (λ r. four_tlid r == tlid)
      (of_type_4 records) (all_weaker Fit4 (λ r. AllByRecursion (IsNumber 8) r.feats) (λ r f. f.feats) (of_type_4 records) (fit Type4))

  ranges_fit : (tlid : ℕ) → AllByRecursion FitsRanges (further_ranges records tlid)
  ranges_fit tlid = all_map FitsRanges (λ (r : Fields6). r.ranges)
      (in_order (on six_rtsq nat_cmp) (of_number six_tlid tlid (of_type_6 records)))
      (all-in_order (λ r. FitsRanges r.ranges) (on six_rtsq nat_cmp) (of_number six_tlid tlid (of_type_6 records))
      (all_filter (λ r. FitsRanges r.ranges) (λ r. six_tlid r == tlid) (of_type_6 records)
      (all_weaker Fit6 (λ r. FitsRanges r.ranges) (λ r f. f.ranges) (of_type_6 records) (fit Type6))))

  chain_fits : (r : Fields1) (link : FieldsI) → Fit1 r → FitI link → FitsChain (chain_of records r link)
  chain_fits r link f l = search (rules, all_append, shape_points_fit, ranges_fit)

  numbers_fit : (r : Fields1) (link : FieldsI) → FitI link → FitsNumbers (chain_of records r link)
  numbers_fit r link l = search (rules, names_fit)

  -- each polygon's key fits
  keys_fit : (key : PolygonKey) → Known key_cmp (flat_map side_keys (of_type_i records) ++ map p_key (of_type_p records)) key
      → IsText 5 key.0 × IsNumber 10 key.1
  keys_fit = known_all key_keys (λ (key : PolygonKey). IsText 5 key.0 × IsNumber 10 key.1)
      (flat_map side_keys (of_type_i records) ++ map p_key (of_type_p records))
      (all_append (λ (key : PolygonKey). IsText 5 key.0 × IsNumber 10 key.1) (flat_map side_keys (of_type_i records))
      (map p_key (of_type_p records))
      (all_joined (λ (key : PolygonKey). IsText 5 key.0 × IsNumber 10 key.1) side_keys (of_type_i records)
      (all_weaker FitI (λ link. AllByRecursion (λ (key : PolygonKey). IsText 5 key.0 × IsNumber 10 key.1) (side_keys link))
      (λ link f. all_append (λ (key : PolygonKey). IsText 5 key.0 × IsNumber 10 key.1) (key_under link.left.cenid link.left.polyid)
      (key_under link.right.cenid link.right.polyid)
      (key_fits link.left.cenid link.left.polyid (left_cenid_fits link.body link.left.cenid link.right.cenid f.content) f.left_polyid)
      (key_fits link.right.cenid link.right.polyid
      (right_cenid_fits link.body link.left.cenid link.right.cenid f.content) f.right_polyid))
      (of_type_i records) (fit TypeI)))
      (all_map (λ (key : PolygonKey). IsText 5 key.0 × IsNumber 10 key.1) p_key (of_type_p records)
      (all_weaker FitP (λ r. IsText 5 r.cenid × IsNumber 10 r.polyid) (λ r f. (polygon_cenid_fits r.cenid r.body f.body, f.polyid))
      (of_type_p records) (fit TypeP))))

  abbrev keys : List PolygonKey
  keys = flat_map side_keys (of_type_i records) ++ map p_key (of_type_p records)

  all_keys_fit : AllByRecursion (λ key. IsText 5 key.0 × IsNumber 10 key.1) (distinct key_cmp keys)
  all_keys_fit = all_known key_keys (λ key. IsText 5 key.0 × IsNumber 10 key.1) (distinct key_cmp keys)
      (λ key k. keys_fit key (known_from_distinct key_keys keys key k))

  polygon_body_fits : (key : PolygonKey) → IfSome (polygon_body records key) (FitsPolygon key.0)
  polygon_body_fits key =
      first_of (FitsPolygon key.0) (map (λ (r : FieldsP). r.body) (filter (λ r. is_eq (key_cmp key (p_key r))) (of_type_p records)))
      (all_map (FitsPolygon key.0) (λ (r : FieldsP). r.body) (filter (λ r. is_eq (key_cmp key (p_key r))) (of_type_p records))
      (bodies_of_key key (of_type_p records) (fit TypeP)))

  bodies_fit : (land : ℕ) → AllByRecursion FitsLandmark (in_order landmark_body_cmp
      (map (λ (r : Fields7). r.body) (of_number seven_land land (of_type_7 records))))
  bodies_fit land = all-in_order FitsLandmark landmark_body_cmp
      (map (λ (r : Fields7). r.body) (of_number seven_land land (of_type_7 records)))
      (all_map FitsLandmark (λ (r : Fields7). r.body) (of_number seven_land land (of_type_7 records))
      (all_filter (λ r. FitsLandmark r.body) (λ r. seven_land r == land) (of_type_7 records)
      (all_weaker Fit7 (λ r. FitsLandmark r.body) (λ r f. f.body) (of_type_7 records) (fit Type7))))

  land_fits : (land : ℕ) → Known nat_cmp (distinct nat_cmp (map seven_land (of_type_7 records))) land → IsNumber 10 land
  land_fits land k = known_all nat_keys (IsNumber 10) (map seven_land (of_type_7 records))
      (all_map (IsNumber 10) seven_land (of_type_7 records)
      (all_weaker Fit7 (λ r. IsNumber 10 r.land) (λ r f. f.land) (of_type_7 records) (fit Type7))) land
      (known_from_distinct nat_keys (map seven_land (of_type_7 records)) land k)

  abbrev landmark_at : ℕ → ℕ × List Body7
  landmark_at land = (land, in_order landmark_body_cmp (map (λ (r : Fields7). r.body) (of_number seven_land land (of_type_7 records))))

  -- the known facts about a type 1 record and the type I record of its chain
  all_chains : (Q : ℕ × Chain → Type 0) → ((r : Fields1) (link : FieldsI) → Fit1 r → FitI link → Q (r.tlid, chain_of records r link))
      → AllByRecursion Q (chains_of records)
  all_chains Q h = chains_all records linked Q (λ r link m n. h r link (all_among Fit1 r (of_type_1 records) (fit Type1) m)
      (all_among FitI link (of_type_i records) (fit TypeI) n))

  contents : ContentsFit (county_of records)
  contents = record {
    chains = all_chains (λ entry. FitsChain entry.1) chain_fits;
    names = all_map (λ (entry : ℕ × Body5). FitsNameBody entry.1) (λ (r : Fields5). (r.feat, r.body))
        (in_order (on five_feat nat_cmp) (of_type_5 records))
        (all-in_order (λ r. FitsNameBody r.body) (on five_feat nat_cmp) (of_type_5 records)
        (all_weaker Fit5 (λ r. FitsNameBody r.body) (λ r f. f.body) (of_type_5 records) (fit Type5)));
    cenids = search (rules, all_map, all_weaker, all_keys_fit);
    polygons = search (rules, all_map, all_everywhere, polygon_body_fits);
    landmarks = search (rules, all_map, all_everywhere, bodies_fit);
    links = all-in_order FitsLink link_cmp (of_type_8 records)
        (all_weaker Fit8 FitsLink (λ link f. record { file = f.file; cenid = f.cenid }) (of_type_8 records) (fit Type8));
  }

  numbers : NumbersFit (county_of records)
  numbers = record {
    chains = all_chains (λ entry. IsNumber 10 entry.0) (λ r link f l. f.tlid);
    named = all_chains (λ entry. FitsNumbers entry.1) (λ r link f l. numbers_fit r link l);
    names = all_map (λ (entry : ℕ × Body5). IsNumber 8 entry.0) (λ (r : Fields5). (r.feat, r.body))
        (in_order (on five_feat nat_cmp) (of_type_5 records))
        (all-in_order (λ r. IsNumber 8 r.feat) (on five_feat nat_cmp) (of_type_5 records)
        (all_weaker Fit5 (λ r. IsNumber 8 r.feat) (λ r f. f.feat) (of_type_5 records) (fit Type5)));
    polygons = search (rules, all_map, all_weaker, all_keys_fit);
    landmarks = search (rules, all_map, all_known, nat_keys, land_fits);
    link_polygons = all-in_order (λ link. IsNumber 10 link.polyid) link_cmp (of_type_8 records)
        (all_weaker Fit8 (λ link. IsNumber 10 link.polyid) (λ link f. f.polyid) (of_type_8 records) (fit Type8));
    link_lands = all-in_order (λ link. IsNumber 10 link.land) link_cmp (of_type_8 records)
        (all_weaker Fit8 (λ link. IsNumber 10 link.land) (λ link f. f.land) (of_type_8 records) (fit Type8));
  }

  -- a chain has at most as many records of a type as there are RTSQs
  few_records : {X : Type 0} (tlid rtsq : X → ℕ) (n : ℕ) (xs : List X) → AllByRecursion (λ x. IsNumber 3 (rtsq x)) xs
      → has_repeat nat_cmp (map rtsq (of_number tlid n xs)) ≡ false → length (of_number tlid n xs) ≤ greatest_rtsq
  few_records {X} tlid rtsq n xs a e =
      let bounds : AllByRecursion (λ k. (1 ≤ k) × (k < 1000)) (map rtsq (of_number tlid n xs)) =
      search (rules, all_map, all_filter, all_weaker) in
      let few : length (map rtsq (of_number tlid n xs)) ≤ 1000 - 1 = search (rules, few_numbers, apart_from_no_repeat, nat_keys) in
      let mapped : length (map rtsq (of_number tlid n xs)) ≡ length (of_number tlid n xs) = length-map (of_number tlid n xs) rtsq in
      omega arith

  few_twos : (n : ℕ) → length (of_number two_tlid n (of_type_2 records)) ≤ greatest_rtsq
  few_twos n = few_records two_tlid two_rtsq n (of_type_2 records)
      (all_weaker Fit2 (λ r. IsNumber 3 r.rtsq) (λ r f. f.rtsq) (of_type_2 records) (fit Type2)) (linked (SequenceBroken sequenced.Two n))

  few_fours : (n : ℕ) → length (of_number four_tlid n (of_type_4 records)) ≤ greatest_rtsq
  few_fours n = few_records four_tlid four_rtsq n (of_type_4 records)
      (all_weaker Fit4 (λ r. IsNumber 3 r.rtsq) (λ r f. f.rtsq) (of_type_4 records) (fit Type4)) (linked (SequenceBroken sequenced.Four n))

  few_sixes : (n : ℕ) → length (of_number six_tlid n (of_type_6 records)) ≤ greatest_rtsq
  few_sixes n = few_records six_tlid six_rtsq n (of_type_6 records)
      (all_weaker Fit6 (λ r. IsNumber 3 r.rtsq) (λ r f. f.rtsq) (of_type_6 records) (fit Type6)) (linked (SequenceBroken sequenced.Six n))

  -- the records of a chain hold its lists
  held : {X Y : Type 0} (width : ℕ) (tlid rtsq : X → ℕ) (content : X → List Y) (n : ℕ) (xs : List X)
      → AllByRecursion (λ x. length (content x) ≤ width) xs
      → length (flat_map content (in_order (on rtsq nat_cmp) (of_number tlid n xs))) ≤ width * length (of_number tlid n xs)
  held width tlid rtsq content n xs a = search (rules, length-in_order, length-joined, all-in_order, all_filter)

  points_held : (n : ℕ) → length (shape_points records n) ≤ 10 * length (of_number two_tlid n (of_type_2 records))
  points_held n = held 10 two_tlid two_rtsq (λ (r : Fields2). r.points) n (of_type_2 records)
      (all_weaker Fit2 (λ r. length r.points ≤ 10) (λ r f. f.len) (of_type_2 records) (fit Type2))

  feats_held : (n : ℕ) → length (further_names records n) ≤ 5 * length (of_number four_tlid n (of_type_4 records))
  feats_held n = held 5 four_tlid four_rtsq (λ (r : Fields4). r.feats) n (of_type_4 records)
      (all_weaker Fit4 (λ r. length r.feats ≤ 5) (λ r f. f.len) (of_type_4 records) (fit Type4))

  ranges_held : (n : ℕ) → length (further_ranges records n) ≡ length (of_number six_tlid n (of_type_6 records))
  ranges_held n = search (rules, length-map, length-in_order)

  inner_held : (r : Fields1) → length (inner_points (r.start ∷ (shape_points records r.tlid ++ (r.end ∷ [])))) ≤ 10 * length
      (of_number two_tlid r.tlid (of_type_2 records))
  inner_held r = search (rules, inner_back, points_held)

  lists : AllByRecursion (λ entry. ListsFit entry.1) (chains_of records)
  lists = all_chains (λ entry. ListsFit entry.1) (λ r link f l. record {
    points = search (rules, held, inner_held, few_twos);
    feats = (let held : length (further_names records r.tlid) ≤ 5 * length (of_number four_tlid r.tlid (of_type_4 records)) =
        search (rules, feats_held) in let few : length (of_number four_tlid r.tlid (of_type_4 records)) ≤ 999 = few_fours r.tlid in
        omega arith);
    ranges = subst (λ n. n ≤ greatest_rtsq) (sym (ranges_held r.tlid)) (few_sixes r.tlid);
  })

  -- no chain needs more records of a type than it has, so neither do all chains together
  few_of_chains : {X Y : Type 0} (tlid : X → ℕ) (pack : ℕ × Chain → List Y) (xs : List X)
      → AllByRecursion (λ entry. length (pack entry) ≤ length (of_number tlid entry.0 xs)) (chains_of records)
      → length (flat_map pack (chains_of records)) ≤ length xs
  few_of_chains {X} tlid pack xs a =
      let groups : length (flat_map (λ (entry : ℕ × Chain). of_number tlid entry.0 xs) (chains_of records)) ≤ length xs =
      few_in_groups (λ (entry : ℕ × Chain) x. tlid x == entry.0) (chains_of records)
      (λ x. subst (λ n. n ≤ 1) (count-map (λ k. tlid x == k) (λ (entry : ℕ × Chain). entry.0) (chains_of records))
      (hits_once tlid (tlids (county_of records))
      (apart_from_sorted nat_keys (tlids (county_of records)) (county-is_county records linked).ascending.chains) x)) xs in
      let one_by_one : length (flat_map pack (chains_of records)) ≤ length
      (flat_map (λ (entry : ℕ × Chain). of_number tlid entry.0 xs) (chains_of records)) = search (rules, shorter_pieces) in
      omega arith

  -- a list cut into pieces with RTSQs needs at most as many records as hold it
  few_in_pieces : {X Y : Type 0} (width count : ℕ) (make : ℕ × List X → Y) (xs : List X) → length xs ≤ width * count
      → length (map make (numbered_from 1 (in_pieces width xs))) ≤ count
  few_in_pieces width count make xs h = search (rules, few_pieces, length-map, length-numbered_from)

  chain_count : length (chains_of records) ≡ length (of_type_1 records)
  chain_count = sym (length-map (chains_of records) (λ (entry : ℕ × Chain). entry.0)) ∙ ap length (tlids-county records linked)
      ∙ length-map (in_order (on one_tlid nat_cmp) (of_type_1 records)) one_tlid ∙ length-in_order (on one_tlid nat_cmp) (of_type_1 records)

  few_sevens : length (flat_map packed_sevens (county_of records).landmarks) ≤ length (of_type_7 records)
  few_sevens =
      let lands : List ℕ = distinct nat_cmp (map seven_land (of_type_7 records)) in
      let groups : length (flat_map (λ land. of_number seven_land land (of_type_7 records)) lands) ≤ length (of_type_7 records) =
      search (rules, few_in_groups, hits_once, apart-distinct, nat_keys) in
      let packs : flat_map packed_sevens (map landmark_at lands) ≡ flat_map (λ land. packed_sevens (landmark_at land)) lands =
      search (rules, flat_map-map) in
      let one_by_one : length (flat_map (λ land. packed_sevens (landmark_at land)) lands) ≤ length
      (flat_map (λ land. of_number seven_land land (of_type_7 records)) lands) =
      search (rules, shorter_pieces, all_everywhere, length-map, length-in_order) in
      omega (arith, groups, one_by_one, ap length packs)

  few_bodies : (found : List PolygonKey) → length (filter_map packed_p (map (λ key. (key, polygon_body records key)) found)) ≤ length
      (flat_map (λ key. filter (λ r. is_eq (key_cmp key (p_key r))) (of_type_p records)) found)
  few_bodies [] = omega arith
  few_bodies (key ∷ found) = search (rules, few_packed, length-map, length-append, few_bodies found)

  few_ps : length (filter_map packed_p (county_of records).polygons) ≤ length (of_type_p records)
  few_ps =
      let found : List PolygonKey = distinct key_cmp keys in
      let groups : length (flat_map (λ key. filter (λ r. is_eq (key_cmp key (p_key r))) (of_type_p records)) found) ≤ length
      (of_type_p records) = search (rules, few_in_groups, once, apart-distinct, key_keys) in
      let packs : length (filter_map packed_p (map (λ key. (key, polygon_body records key)) found)) ≤ length
      (flat_map (λ key. filter (λ r. is_eq (key_cmp key (p_key r))) (of_type_p records)) found) = few_bodies found in
      omega arith

  -- each chain has a record of type I
  linked_once : AllByRecursion (λ entry. 1 ≤ length (of_number i_tlid entry.0 (of_type_i records))) (chains_of records)
  linked_once = chains_all records linked (λ entry. 1 ≤ length (of_number i_tlid entry.0 (of_type_i records)))
      (λ r link m n. let own = the_link records linked r.tlid
      (among_known nat_keys r.tlid (chain_tlids records) (among-map one_tlid r (of_type_1 records) m)) in
      subst (λ (links : List FieldsI). 1 ≤ length links) (sym own.1) (omega arith))

  pub county_counts : (limits : ℕ → ℕ) → HasWithin limits (by_type records) → HasWithin limits (packed_by_type (county_of records))
  county_counts limits h = record {
    of_type_1 = (let same : length (map packed_one (chains_of records)) ≡ length (of_type_1 records) =
        search (rules, length-map, chain_count) in let few : length (of_type_1 records) ≤ limits 49 = h.of_type_1 in
        omega arith);
    of_type_2 = (let few : length (of_type_2 records) ≤ limits 50 = h.of_type_2 in
        let own : length (flat_map packed_twos (chains_of records)) ≤ length (of_type_2 records) =
        few_of_chains two_tlid packed_twos (of_type_2 records)
        (all_chains (λ entry. length (packed_twos entry) ≤ length (of_number two_tlid entry.0 (of_type_2 records)))
        (λ r link f l. few_in_pieces 10 (length (of_number two_tlid r.tlid (of_type_2 records)))
        (λ piece. record { tlid = r.tlid; rtsq = piece.0; points = piece.1 })
        (inner_points (r.start ∷ (shape_points records r.tlid ++ (r.end ∷ [])))) (inner_held r))) in omega arith);
    of_type_4 = (let few : length (of_type_4 records) ≤ limits 52 = h.of_type_4 in
        let own : length (flat_map packed_fours (chains_of records)) ≤ length (of_type_4 records) =
        few_of_chains four_tlid packed_fours (of_type_4 records)
        (all_chains (λ entry. length (packed_fours entry) ≤ length (of_number four_tlid entry.0 (of_type_4 records)))
        (λ r link f l. few_in_pieces 5 (length (of_number four_tlid r.tlid (of_type_4 records)))
        (λ piece. record { tlid = r.tlid; rtsq = piece.0; feats = piece.1 }) (further_names records r.tlid) (feats_held r.tlid))) in
        omega arith);
    of_type_5 = (let few : length (of_type_5 records) ≤ limits 53 = h.of_type_5 in
        let same : length (map packed_five (county_of records).names) ≡ length (of_type_5 records) =
        search (rules, length-map, length-in_order) in omega arith);
    of_type_6 = (let few : length (of_type_6 records) ≤ limits 54 = h.of_type_6 in
        let own : length (flat_map packed_sixes (chains_of records)) ≤ length (of_type_6 records) =
        few_of_chains six_tlid packed_sixes (of_type_6 records)
        (all_chains (λ entry. length (packed_sixes entry) ≤ length (of_number six_tlid entry.0 (of_type_6 records)))
        (λ r link f l. let same : length (packed_sixes (r.tlid, chain_of records r link)) ≡ length
        (of_number six_tlid r.tlid (of_type_6 records)) = search (rules, length-map, length-numbered_from, ranges_held) in omega arith)) in
        omega arith);
    of_type_7 = (let few : length (of_type_7 records) ≤ limits 55 = h.of_type_7 in
        let own : length (flat_map packed_sevens (county_of records).landmarks) ≤ length (of_type_7 records) = few_sevens in omega arith);
    of_type_8 = (let few : length (of_type_8 records) ≤ limits 56 = h.of_type_8 in
        let same : length (in_order link_cmp (of_type_8 records)) ≡ length (of_type_8 records) = search (rules, length-in_order) in
        omega arith);
    of_type_i = (let few : length (of_type_i records) ≤ limits 73 = h.of_type_i in
        let own : length (flat_map (λ entry. packed_i entry ∷ []) (chains_of records)) ≤ length (of_type_i records) =
        few_of_chains i_tlid (λ entry. packed_i entry ∷ []) (of_type_i records)
        linked_once in
        let same : length (flat_map (λ entry. packed_i entry ∷ []) (chains_of records)) ≡ length (map packed_i (chains_of records)) =
        search (rules, flat_map-one) in omega arith);
    of_type_p = (let few : length (of_type_p records) ≤ limits 80 = h.of_type_p in
        let own : length (filter_map packed_p (county_of records).polygons) ≤ length (of_type_p records) = few_ps in
        let same : length (in_order (on p_polyid nat_cmp) (filter_map packed_p (county_of records).polygons)) ≡ length
        (filter_map packed_p (county_of records).polygons) = search (rules, length-in_order) in omega arith);
  }

  pub county-within_limits : (limit : ℕ) → IsWithinLimit limit records → IsWithinLimits limit (county_of records)
  county-within_limits limit h = search (rules, contents, numbers, lists, packed_within, county_counts, by_type_within)
