-- The type P records of an arranged list are its county's polygons, packed; so the whole list is the packing of its county.
use Rattle.canonical_form.proofs.Common.{AllByRecursion, Among, AreRecordsInOrder, BodyP, Equal, FieldsP, Greater, IsApart, IsArranged, IsArrangedList, IsInOrder, IsKeyOrder, IsLinked, IsPacked, IsTrue, Known, Less, List, None, Option, Ordering, PolygonKey, PolygonTwice, Record, Some, [], all_among, among-map, among-unmap, among_known, ap, apart-distinct, apart_tail, arith, by_type, contains, county_of, distinct, false, filter_map, flat_map, from_in_order, in_filter_map, in_order, in_order-in_order, in_order-itself, inl, inr, is_gt, key_cmp, key_keys, keys-county, known-distinct, known-right, known_all, known_is_among, link_cmp, ltb-false, ltb-true, map, map-id, map-map, nat_cmp, nat_cmp_total, nat_keys, of_type_8, of_type_i, of_type_p, on, on_total, p_key, p_polyid, packed, packed_body, packed_by_type, packed_p, polygon_body, polygon_keys, polygons_along, polygons_of, refl, side_keys, strict-equal, subst, suc, sym, times, times-in_order, times-yes, to_filter_map, to_in_order, true≢false, type_after_type, ℕ, ◌++◌, ◌∙◌, ◌∷◌, ◌≡◌, ◌≤◌}
use Rattle.canonical_form.proofs.Arrangements.Repacked.{fives_back, fours_back, is_back, ones_back, sevens_back, sixes_back, twos_back}
use Rattle.canonical_form.proofs.Packing.PackedNamed.{few_packed_keys}
use Rattle.canonical_form.proofs.Packing.PolygonBodies.{body_found, first_body}
use Rattle.canonical_form.proofs.Packing.TypeOrder.{type_by_type}
use Rattle.std.specs.List.Sorted.{IsStrictlySortedBy}

-- in order by a number, if equal numbers mean equal keys and no key occurs twice
strict_from_keys : {X K : Type 0} {cmp : K → K → Ordering} (o : IsKeyOrder cmp) (f : X → ℕ) (key : X → K) (xs : List X)
    → IsInOrder (on f nat_cmp) xs → IsApart cmp (map key xs) → ((x y : X) → Among x xs → Among y xs → f x ≡ f y → key x ≡ key y)
    → IsStrictlySortedBy (on f nat_cmp) xs
unfolding IsStrictlySortedBy
strict_from_keys o f key [] h a one = tt
strict_from_keys {X} {K} {cmp} o f key (x ∷ xs) h a one =
    (each xs h.0 (λ y m. m), strict_from_keys o f key xs h.1 (apart_tail o (key x) (map key xs) a) (λ y z m n. one y z (inr m) (inr n)))
  where
    lower : (c : Ordering) → is_gt c ≡ false → (c ≡ Equal → ⊥) → c ≡ Less
    lower Less g n = refl
    lower Equal g n = absurd (n refl)
    lower Greater g n = absurd (true≢false g)

    differ : (y : X) → Among y xs → nat_cmp (f x) (f y) ≡ Equal → ⊥
    differ y m e =
        let same : key x ≡ key y = one x y (inl refl) (inr m) (nat_keys.exact (f x) (f y) e) in
        let l : Known cmp (map key xs) (key y) = among_known o (key y) (map key xs) (among-map key y xs m) in
        let t : times cmp (key y) (key x ∷ map key xs) ≡ suc (times cmp (key y) (map key xs)) =
        times-yes o (key y) (key x) (map key xs) (sym same) in
        let u : times cmp (key y) (map key (x ∷ xs)) ≤ 1 = a (key y) in
        omega arith

    each : (ys : List X) → AllByRecursion (λ y. is_gt (nat_cmp (f x) (f y)) ≡ false) ys → ((y : X) → Among y ys → Among y xs)
        → AllByRecursion (λ y. nat_cmp (f x) (f y) ≡ Less) ys
    each [] g i = tt
    each (y ∷ ys) g i = (lower (nat_cmp (f x) (f y)) g.0 (differ y (i y (inl refl))), each ys g.1 (λ z m. i z (inr m)))

-- the content found for a key comes from a record of the key
packed_key : (key : PolygonKey) (o : Option BodyP) (z : FieldsP) → packed_body key o ≡ Some z
    → (b : BodyP) × (o ≡ Some b) × (z ≡ record { cenid = key.0; polyid = key.1; body = b })
packed_key key None z e = cc
packed_key key (Some b) z e = (b, refl, (let same : z ≡ record { cenid = key.0; polyid = key.1; body = b } = cc in same))

few_keys : (g : PolygonKey → Option BodyP) (k : PolygonKey) (ds : List PolygonKey)
    → times key_cmp k (map p_key (filter_map packed_p (map (λ key. (key, g key)) ds))) ≤ times key_cmp k ds
few_keys g k ds = subst (λ ks. times key_cmp k (map p_key (filter_map packed_p (map (λ key. (key, g key)) ds))) ≤ times key_cmp k ks)
    (map-map (λ (e : PolygonKey × Option BodyP). e.0) (λ key. (key, g key)) ds ∙ map-id ds) (few_packed_keys k (map (λ key. (key, g key)) ds))

module _ (records : List Record) (linked : IsLinked records) (order : AreRecordsInOrder records) (in_form : IsArranged (county_of records))
  where
    abbrev all_keys : List PolygonKey
    all_keys = flat_map side_keys (of_type_i records) ++ map p_key (of_type_p records)

    abbrev packed_ps : List FieldsP
    packed_ps = filter_map packed_p (polygons_of records)

    ps_apart : IsApart key_cmp (map p_key (of_type_p records))
    ps_apart k = ltb-false 1 (times key_cmp k (map p_key (of_type_p records))) (linked (PolygonTwice k.0 k.1))

    -- a listed polygon has the content that is found for its key
    listed_body : (key : PolygonKey) (e : PolygonKey × Option BodyP) → e ≡ (key, polygon_body records key) → polygon_body records e.0 ≡ e.1
    listed_body key e h = ap (λ (x : PolygonKey × Option BodyP). polygon_body records x.0) h
        ∙ sym (ap (λ (x : PolygonKey × Option BodyP). x.1) h)

    from_packed : (z : FieldsP) → Among z packed_ps → Among z (of_type_p records)
    from_packed z m =
        let e = in_filter_map packed_p z (polygons_of records) m in
        let d = among-unmap (λ key. (key, polygon_body records key)) e.0 (distinct key_cmp all_keys) e.1 in
        let p = packed_key e.0.0 e.0.1 z e.2 in
        let found : polygon_body records e.0.0 ≡ Some p.0 = listed_body d.0 e.0 d.2 ∙ p.1 in
        let r = first_body e.0.0 p.0 (of_type_p records) found in
        let same : z ≡ r.0 = p.2 ∙ (λ i. record { cenid = (r.2 i).0; polyid = (r.2 i).1; body = sym r.3 i }) in
        subst (λ y. Among y (of_type_p records)) (sym same) r.1

    to_packed : (r : FieldsP) → Among r (of_type_p records) → Among r packed_ps
    to_packed r m =
        let known : Known key_cmp all_keys (p_key r) =
        known-right key_keys (p_key r) (flat_map side_keys (of_type_i records)) (map p_key (of_type_p records))
        (among_known key_keys (p_key r) (map p_key (of_type_p records)) (among-map p_key r (of_type_p records) m)) in
        let there : Among (p_key r) (distinct key_cmp all_keys) =
        known_is_among key_keys (p_key r) (distinct key_cmp all_keys) (known-distinct key_keys all_keys (p_key r) known) in
        to_filter_map packed_p (p_key r, polygon_body records (p_key r)) r (polygons_of records)
        (among-map (λ key. (key, polygon_body records key)) (p_key r) (distinct key_cmp all_keys) there)
        (ap (packed_body (p_key r)) (body_found r (of_type_p records) ps_apart m))

    -- a POLYID of type P is under one CENID
    one_cenid : (x y : FieldsP) → Among x (of_type_p records) → Among y (of_type_p records) → x.polyid ≡ y.polyid → p_key x ≡ p_key y
    one_cenid x y m n e =
        let side : (z : FieldsP) → Among z (of_type_p records) → Among (p_key z) (polygons_along (county_of records).chains) =
        λ z l. let known : Known key_cmp all_keys (p_key z) =
        known-right key_keys (p_key z) (flat_map side_keys (of_type_i records)) (map p_key (of_type_p records))
        (among_known key_keys (p_key z) (map p_key (of_type_p records)) (among-map p_key z (of_type_p records) l)) in
        let listed : Known key_cmp (polygon_keys (county_of records)) (p_key z) =
        subst (λ ks. Known key_cmp ks (p_key z)) (sym (keys-county records linked)) (known-distinct key_keys all_keys (p_key z) known) in
        known_is_among key_keys (p_key z) (polygons_along (county_of records).chains)
        (ltb-true 0 (times key_cmp (p_key z) (polygons_along (county_of records).chains))
        (known_all key_keys (λ k. IsTrue (contains key_cmp k (polygons_along (county_of records).chains)))
        (polygon_keys (county_of records)) in_form.on_sides (p_key z) listed)) in
        all_among (λ other. (p_key x).1 ≡ other.1 → p_key x ≡ other) (p_key y) (polygons_along (county_of records).chains)
        (all_among (λ key. AllByRecursion (λ other. key.1 ≡ other.1 → key ≡ other) (polygons_along (county_of records).chains)) (p_key x)
        (polygons_along (county_of records).chains) in_form.one_cenid (side x m))
        (side y n) e

    packed_apart : IsApart key_cmp (map p_key (in_order (on p_polyid nat_cmp) packed_ps))
    packed_apart k =
        let s : times key_cmp k (map p_key (in_order (on p_polyid nat_cmp) packed_ps)) ≡ times key_cmp k (map p_key packed_ps) =
        times-in_order key_cmp p_key (on p_polyid nat_cmp) packed_ps k in
        let t : times key_cmp k (map p_key packed_ps) ≤ times key_cmp k (distinct key_cmp all_keys) =
        few_keys (polygon_body records) k (distinct key_cmp all_keys) in
        let u : times key_cmp k (distinct key_cmp all_keys) ≤ 1 = apart-distinct key_keys all_keys k in
        omega arith

    pub ps_back : in_order (on p_polyid nat_cmp) packed_ps ≡ of_type_p records
    ps_back =
        let sorted : List FieldsP = in_order (on p_polyid nat_cmp) packed_ps in
        let inside : (z : FieldsP) → Among z (in_order (on p_polyid nat_cmp) packed_ps) → Among z (of_type_p records) =
        λ z m. from_packed z (from_in_order (on p_polyid nat_cmp) packed_ps z m) in
        strict-equal nat_cmp_total p_polyid (in_order (on p_polyid nat_cmp) packed_ps) (of_type_p records)
        (strict_from_keys key_keys p_polyid p_key (in_order (on p_polyid nat_cmp) packed_ps)
        (in_order-in_order (on_total p_polyid nat_cmp_total) packed_ps) packed_apart (λ x y m n. one_cenid x y (inside x m) (inside y n)))
        (strict_from_keys key_keys p_polyid p_key (of_type_p records) order.of_type_p ps_apart one_cenid)
        inside
        (λ z m. to_in_order (on p_polyid nat_cmp) packed_ps z (to_packed z m))

-- Whatever its choice of TLIDs and directions, an arranged list is the packing of its county.
pub arranged_is_packed : (records : List Record) → IsLinked records → AreRecordsInOrder records → IsPacked records → IsArranged
    (county_of records)
    → records ≡ packed (county_of records)
arranged_is_packed records linked order full in_form = order.types ∙ sym (type_by_type records) ∙ ap type_after_type same
  where
    same : by_type records ≡ packed_by_type (county_of records)
    same = λ i. record {
      of_type_1 = sym (ones_back records linked order full) i;
      of_type_2 = sym (twos_back records linked order full) i;
      of_type_4 = sym (fours_back records linked order full) i;
      of_type_5 = sym (fives_back records linked order full) i;
      of_type_6 = sym (sixes_back records linked order full) i;
      of_type_7 = sym (sevens_back records linked order full) i;
      of_type_8 = sym (in_order-itself link_cmp (of_type_8 records) order.of_type_8) i;
      of_type_i = sym (is_back records linked order full) i;
      of_type_p = sym (ps_back records linked order in_form) i;
    }

pub arranged_list_is_packed : (records : List Record) → IsArrangedList records → records ≡ packed (county_of records)
arranged_list_is_packed records h = arranged_is_packed records h.linked h.order h.packed h.numbers
