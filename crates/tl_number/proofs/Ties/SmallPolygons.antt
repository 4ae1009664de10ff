-- The records of type P in two choices of a county and of its small county compare alike.
use Rattle.tl_number.proofs.Common.{AllByRecursion, Among, BodyP, Bool, FieldsP, FitsRecord, IsApart, Known, List, None, Option, P, PolygonKey, Some, TypeP, [], all_filter, all_map, all_unmap, among_known, ap, ap₂, by_number, chain_polygons, cond, cons_option, contains, each_from, false, filter, filter-agree_all, filter_map, first_seen-apart, grouped, grouped_selected, groups_cmp, image, images-lefts, is_some, key_cmp, key_keys, lefts-numbered, map, map-equal_all, map-map, nat_list_cmp_total, numbered, option_and_then, packed_body, packed_p, placed, polygon_lefts, polygon_under, polygons_along, polygons_by_number, polygons_fit, polygons_in_order, polygons_renamed, records_cmp, refl, slice_cmp, spelling_cmp, spelling_of, subst, sym, table_p, tied_itself, true, type_p_by_number, under_cenid, under_number, unwrap_or, ℕ, ◌∙◌, ◌∷◌, ◌≡◌}
use Rattle.tl_number.proofs.Ties.Columns.{columns_alike, fields_cmp, lists_decide}
use Rattle.tl_number.proofs.Ties.KeyKinds.{AreSeenAlike, polygon_kind, polygon_number, polygons_seen, seen_in}
use Rattle.tl_number.proofs.Ties.ListsAlike.{among_filtered, filters_swap}
use Rattle.tl_number.proofs.Ties.ComparedChoices.{ComparedChoices, arranges_in, choice, new_in, order_in, whole_in}
use Rattle.tl_number.proofs.Ties.Ranks.{masked_by, wanted_decide}
use Rattle.tl_number.proofs.Ties.SmallKeys.{AreWanted}
use Rattle.tl_number.proofs.Ties.SmallRecords.{images_in_order}

-- ---- the records of type P in two choices of a county and of its small county compare alike

-- a content for polygons without a record, which is never read
abbrev no_body : BodyP
no_body = record { file = []; point = None; water = [] }

-- The records of type P of a choice.
module _ (c : ComparedChoices) where
  -- the content of a polygon's record, if it has one
  abbrev pub body_of : PolygonKey → Option BodyP
  body_of key = option_and_then (λ body. body) (polygon_under c.county key)

  abbrev pub has_record : PolygonKey → Bool
  has_record key = is_some (body_of key)

  -- the record of a polygon with this content under its number
  abbrev record_of : ℕ → PolygonKey → Option BodyP → FieldsP
  record_of i key body = record { cenid = key.0; polyid = polygon_number (new_in c i) key; body = unwrap_or body no_body }

  abbrev pub record_in : ℕ → PolygonKey → FieldsP
  record_in i key = record_of i key (body_of key)

  -- the polygons of chains by first appearance, and those that have a record
  abbrev pub polygons_at : ℕ → List PolygonKey
  polygons_at = seen_in key_cmp chain_polygons c

  abbrev pub with_record : ℕ → List PolygonKey
  with_record i = filter has_record (polygons_at i)

  -- records are made of polygons that have one
  selected : (i : ℕ) (pairs : List (PolygonKey × ℕ)) → AllByRecursion (λ (p : PolygonKey × ℕ). image key_cmp (new_in c i).polygons p.0 ≡ (p.0.0, p.1)) pairs
      → filter_map packed_p (map (under_number c.county) pairs) ≡ map (record_in i) (filter has_record (map (λ (p : PolygonKey × ℕ). p.0) pairs))
  selected i [] h = refl
  selected i (pair ∷ pairs) h = go (body_of pair.0) refl (selected i pairs h.1)
    where
      rest : List FieldsP
      rest = filter_map packed_p (map (under_number c.county) pairs)

      later : List PolygonKey
      later = filter has_record (map (λ (p : PolygonKey × ℕ). p.0) pairs)

      go : (o : Option BodyP) → body_of pair.0 ≡ o → rest ≡ map (record_in i) later
          → cons_option (packed_body (pair.0.0, pair.1) o) rest ≡ map (record_in i) (cond (is_some o) (pair.0 ∷ later) later)
      go None e same = same
      go (Some body) e same = ap₂ (λ (r : FieldsP) rs. r ∷ rs)
          (λ j. record { cenid = pair.0.0; polyid = (sym h.0 j).1; body = unwrap_or (sym e j) no_body }) same

  records_are : (i : ℕ) → grouped (type_p_by_number (choice c i)) ≡ map (record_in i) (with_record i)
  records_are i =
      let order = order_in c i in
      let seen : List PolygonKey = polygons_in_order c.county order in
      let pairs : List (PolygonKey × PolygonKey) = (new_in c i).polygons in
      let left : map (λ (p : PolygonKey × PolygonKey). p.0) pairs ≡ seen = polygon_lefts c.county order c.is (arranges_in c i) c.known.sides in
      let apart : IsApart key_cmp (map (λ (p : PolygonKey × PolygonKey). p.0) pairs) =
      subst (IsApart key_cmp) (sym left) (first_seen-apart key_keys (polygons_along (placed c.county order))) in
      let numbers : AllByRecursion (λ (p : PolygonKey × ℕ). image key_cmp pairs p.0 ≡ (p.0.0, p.1)) (numbered seen) =
      map-equal_all (λ (p : PolygonKey × ℕ). image key_cmp pairs p.0) (λ p. (p.0.0, p.1)) (numbered seen)
      (sym (map-map (image key_cmp pairs) (λ (p : PolygonKey × ℕ). p.0) (numbered seen))
      ∙ ap (map (image key_cmp pairs)) (lefts-numbered seen ∙ sym left) ∙ images-lefts key_keys pairs apart
      ∙ ap (map (λ (p : PolygonKey × PolygonKey). p.1)) (polygons_renamed c.county order c.is (arranges_in c i))
      ∙ map-map (λ (q : PolygonKey × PolygonKey). q.1) under_cenid (numbered seen)) in
      grouped_selected packed_p (polygons_by_number (choice c i))
      ∙ ap (filter_map packed_p) (sym (by_number c.county order c.is (arranges_in c i) c.known.sides))
      ∙ selected i (numbered seen) numbers
      ∙ ap (λ ks. map (record_in i) (filter has_record ks)) (lefts-numbered seen ∙ sym (polygons_seen c i))

  -- they fit
  records_fit : (i : ℕ) → AllByRecursion (λ r. FitsRecord (P r)) (map (record_in i) (with_record i))
  records_fit i = let whole = whole_in c i in
      subst (AllByRecursion (λ r. FitsRecord (P r))) (records_are i) (polygons_fit (choice c i) whole.is_county whole.within_limits)

  -- the polygons are on sides
  on_side : (i : ℕ) (key : PolygonKey) → Among key (polygons_at i) → Known key_cmp (polygons_along c.county.chains) key
  on_side i key there = polygon_kind.in_all c i key (among_known key_keys key (polygons_at i) there)

  -- If two choices differ in wanted polygons alone, their records decide.
  wanted_records : (wanted : PolygonKey → Bool) (n k : ℕ) → masked_by wanted (with_record n) ≡ masked_by wanted (with_record k)
      → ((key : PolygonKey) → wanted key ≡ false → Known key_cmp (polygons_along c.county.chains) key
      → polygon_number (new_in c n) key ≡ polygon_number (new_in c k) key)
      → groups_cmp P (type_p_by_number (choice c n)) (type_p_by_number (choice c k))
      ≡ slice_cmp (fields_cmp TypeP) (map (record_in n) (filter wanted (with_record n))) (map (record_in k) (filter wanted (with_record k)))
  wanted_records wanted n k masked stay =
      ap₂ records_cmp (ap (map P) (records_are n) ∙ map-map P (record_in n) (with_record n)) (ap (map P) (records_are k) ∙ map-map P (record_in k) (with_record k))
      ∙ wanted_decide wanted spelling_cmp (λ key. P (record_in n key)) (λ key. P (record_in k key)) (with_record n) (with_record k) masked
      (λ key there out. ap (λ number. spelling_cmp (P (record_in n key)) (P (record { cenid = key.0; polyid = number; body = unwrap_or (body_of key) no_body })))
      (sym (stay key out (on_side n key (among_filtered has_record key (polygons_at n) there).0)))
      ∙ tied_itself nat_list_cmp_total (spelling_of (P (record_in n key))))
      ∙ sym (ap₂ records_cmp (map-map P (record_in n) (filter wanted (with_record n))) (map-map P (record_in k) (filter wanted (with_record k))))
      ∙ lists_decide TypeP (map (record_in n) (filter wanted (with_record n))) (map (record_in k) (filter wanted (with_record k))) (fit n) (fit k)
    where
      fit : (i : ℕ) → AllByRecursion (λ r. FitsRecord (P r)) (map (record_in i) (filter wanted (with_record i)))
      fit i = all_map (λ r. FitsRecord (P r)) (record_in i) (filter wanted (with_record i))
          (all_filter (λ key. FitsRecord (P (record_in i key))) wanted (with_record i)
          (all_unmap (λ r. FitsRecord (P r)) (record_in i) (with_record i) (records_fit i)))

-- A small county, in which polygons keep their content, and wanted ones their order.
module _ {whole small : ComparedChoices} {is_in : ℕ → Bool} (polygons : AreWanted polygon_kind whole small is_in)
    (seen : AreSeenAlike polygon_kind polygons.wanted whole small)
    (contents : (key : PolygonKey) → Known key_cmp (polygons_along small.county.chains) key
    → polygon_under small.county key ≡ polygon_under whole.county key) where
  abbrev pub is_wanted : PolygonKey → Bool
  is_wanted key = contains key_cmp key polygons.wanted

  bodies : (i : ℕ) (key : PolygonKey) → Among key (polygons_at small i) → body_of small key ≡ body_of whole key
  bodies i key there = ap (option_and_then (λ body. body)) (contents key (on_side small i key there))

  -- the wanted polygons with a record are the same
  same_keys : (i : ℕ) → filter is_wanted (with_record whole i) ≡ filter is_wanted (with_record small i)
  same_keys i =
      filters_swap is_wanted (has_record whole) (polygons_at whole i)
      ∙ ap (filter (has_record whole)) (seen.same i)
      ∙ filters_swap (has_record whole) is_wanted (polygons_at small i)
      ∙ ap (filter is_wanted) (filter-agree_all (has_record whole) (has_record small) (polygons_at small i)
      (each_from (λ key. has_record whole key ≡ has_record small key) (polygons_at small i)
      (λ key there. ap is_some (sym (bodies i key there)))))

  -- The records of type P are in one order in both counties.
  pub polygon_records_small : (n k : ℕ) → groups_cmp P (type_p_by_number (choice whole n)) (type_p_by_number (choice whole k))
      ≡ groups_cmp P (type_p_by_number (choice small n)) (type_p_by_number (choice small k))
  polygon_records_small n k =
      wanted_records whole is_wanted n k ((seen.reordered n k).masked (has_record whole)) (polygons.alike n k).stay
      ∙ ap₂ (λ xs ys. slice_cmp (fields_cmp TypeP) (map (record_in whole n) xs) (map (record_in whole k) ys)) (same_keys n) (same_keys k)
      ∙ images_in_order (fields_cmp TypeP) (record_in whole n) (record_in small n) (record_in whole k) (record_in small k) (wanted_in n) (wanted_in k) pair
      ∙ sym (wanted_records small is_wanted n k ((seen.small_reordered n k).masked (has_record small)) (polygons.alike n k).small_stay)
    where
      wanted_in : ℕ → List PolygonKey
      wanted_in i = filter is_wanted (with_record small i)

      there : (i : ℕ) (key : PolygonKey) → Among key (wanted_in i) → (is_wanted key ≡ true) × Among key (polygons_at small i)
      there i key h = let found = among_filtered is_wanted key (with_record small i) h in
          (found.1, (among_filtered (has_record small) key (polygons_at small i) found.0).0)

      pair : (x y : PolygonKey) → Among x (wanted_in n) → Among y (wanted_in k)
          → fields_cmp TypeP (record_in whole n x) (record_in whole k y) ≡ fields_cmp TypeP (record_in small n x) (record_in small k y)
      pair x y h l =
          let one = there n x h in
          let other = there k y l in
          columns_alike 3 table_p (record_in whole n x) (record_in whole k y) (record_of small n x (body_of whole x)) (record_of small k y (body_of whole y))
          (refl, λ _. (refl, λ _. ((polygons.alike n k).wanted_alike x y one.0 other.0 (on_side small n x one.1) (on_side small k y other.1), λ _. refl)))
          ∙ ap₂ (λ a b. fields_cmp TypeP (record_of small n x a) (record_of small k y b)) (sym (bodies n x one.1)) (sym (bodies k y other.1))
