-- Polygons with a type P record that are on no side: in the tables of linked records, and in their county.
use Rattle.tl_county.proofs.Common.{AllByRecursion, Among, Bool, Chain, Fields1, FieldsI, IsKeyOrder, IsLeastPassing, IsLinked, Known, List, None, Option, Ordering, PolygonKey, Record, Some, [], all_among, among-pieces, among-unpieces, among_known, ap, ap₂, arith, chain_of, chain_polygons, chains_all, chains_of, cond, contains, contains-distinct, contains_alike, count-map, county_of, distinct, distinct_same, each_from, false, false≢true, filter, first, flat_map, has_body, is_eq, is_some, is_unknown, is_without_chain, key_cmp, key_keys, known-append, known-left, known-right, known_is_among, length, linked_chain, list_any, lt-ltb, ltb-true, map, map-id, nat_lt, needed, not, of_type_1, of_type_i, of_type_p, p_key, polygon_body, polygons_along, refl, rules, same-true, side_keys, suc, sym, true, ℕ, ◌&&◌, ◌++◌, ◌||◌, ◌∙◌, ◌∷◌, ◌≡◌}

-- a list has a first element exactly if it isn't empty
first_there : {X Y : Type 0} (f : X → Y) (xs : List X) → is_some (first (map f xs)) ≡ nat_lt 0 (length xs)
first_there f [] = refl
first_there f (x ∷ xs) = sym (lt-ltb 0 (suc (length xs)) (omega arith))

-- if keys are listed with their contents, a key has content exactly if it is listed and has content
content_under : {K V : Type 0} {cmp : K → K → Ordering} (o : IsKeyOrder cmp) (content : K → Option V) (key : K) (keys : List K)
    → list_any (λ (entry : K × Option V). is_eq (cmp key entry.0) && is_some entry.1) (map (λ k. (k, content k)) keys)
    ≡ (contains cmp key keys && is_some (content key))
content_under o content key [] = refl
content_under {K} {V} {cmp} o content key (k ∷ keys) = go (is_eq (cmp key k)) refl (content_under o content key keys)
  where
    rest : Bool
    rest = list_any (λ (entry : K × Option V). is_eq (cmp key entry.0) && is_some entry.1) (map (λ j. (j, content j)) keys)

    others : List K
    others = filter (λ j. is_eq (cmp key j)) keys

    either : (b c : Bool) → (b || (c && b)) ≡ b
    either true c = refl
    either false true = refl
    either false false = refl

    go : (b : Bool) → is_eq (cmp key k) ≡ b → rest ≡ (contains cmp key keys && is_some (content key))
        → ((b && is_some (content k)) || rest) ≡ (nat_lt 0 (length (cond b (k ∷ others) others)) && is_some (content key))
    go true e ih = search (rules, same-true, rest, either, lt-ltb, others)
    go false e ih = ih

-- if the search for a passing key finds none, no key passes
pub none_passes : {K : Type 0} (cmp : K → K → Ordering) (test : K → Bool) (found : Option K) → is_some found ≡ false
    → IsLeastPassing cmp test found → (k : K) → test k ≡ false
none_passes cmp test None e h = h
none_passes cmp test (Some k) e h = absurd (false≢true (sym e))

module _ {K : Type 0} {cmp : K → K → Ordering} (o : IsKeyOrder cmp) where
  -- if all added keys are known already, they add nothing
  pub distinct-all_known : (known more : List K) → ((k : K) → is_unknown cmp more known k ≡ false)
      → distinct cmp known ≡ distinct cmp (known ++ more)
  distinct-all_known known more h = search (rules, distinct_same, contains_alike, known-left, known-append, ltb-true, needed, lt-ltb)

  -- a key that is unknown among the keys in order is unknown among the keys
  pub unknown-distinct : (asked known ordered : List K) → ordered ≡ distinct cmp known → (k : K)
      → is_unknown cmp asked (map (λ j. j) ordered) k ≡ is_unknown cmp asked known k
  unknown-distinct asked known ordered e k = search (rules, map-id, contains-distinct)

module _ (records : List Record) (linked : IsLinked records) where
  abbrev on_sides : List PolygonKey
  on_sides = flat_map side_keys (of_type_i records)

  abbrev along : List PolygonKey
  along = polygons_along (chains_of records)

  side_along : (key : PolygonKey) → Known key_cmp on_sides key → Known key_cmp along key
  side_along key known =
      let link = among-unpieces side_keys key (of_type_i records) (known_is_among key_keys key on_sides known) in
      let chain = linked_chain records linked link.0 link.1 in
      among_known key_keys key along
      (among-pieces (λ (entry : ℕ × Chain). chain_polygons entry.1) (chain.0.tlid, chain_of records chain.0 link.0) key
      (chains_of records) chain.1 link.2)

  along_side : (key : PolygonKey) → Known key_cmp along key → Known key_cmp on_sides key
  along_side key known =
      let entry = among-unpieces (λ (entry : ℕ × Chain). chain_polygons entry.1) key (chains_of records)
      (known_is_among key_keys key along known) in
      all_among (Known key_cmp on_sides) key (chain_polygons entry.0.1)
      (all_among (λ (e : ℕ × Chain). AllByRecursion (Known key_cmp on_sides) (chain_polygons e.1)) entry.0 (chains_of records)
      (chains_all records linked (λ (e : ℕ × Chain). AllByRecursion (Known key_cmp on_sides) (chain_polygons e.1)) each) entry.1) entry.2
    where
      each : (r : Fields1) (link : FieldsI) → Among r (of_type_1 records) → Among link (of_type_i records)
          → AllByRecursion (Known key_cmp on_sides) (side_keys link)
      each r link n m = search (rules, each_from, among_known, key_keys, among-pieces)

  -- a polygon is on a side in a type I record exactly if it is on a side of a chain
  same_sides : (key : PolygonKey) → contains key_cmp key on_sides ≡ contains key_cmp key along
  same_sides key = contains_alike key_keys on_sides along key (side_along key) (along_side key)

  -- it has a type P record exactly if the county has content for it
  same_body : (key : PolygonKey) → contains key_cmp key (map p_key (of_type_p records)) ≡ has_body (county_of records) key
  same_body key =
      let there : contains key_cmp key (map p_key (of_type_p records)) ≡ is_some (polygon_body records key) =
      search (rules, count-map, first_there) in
      sym
      (content_under key_keys (polygon_body records) key (distinct key_cmp (on_sides ++ map p_key (of_type_p records)))
      ∙ ap (λ b. b && is_some (polygon_body records key))
      (contains-distinct key_keys key (on_sides ++ map p_key (of_type_p records)))
      ∙ within (contains key_cmp key (map p_key (of_type_p records))) refl (is_some (polygon_body records key)) there
      ∙ sym there)
    where
      within : (b : Bool) → contains key_cmp key (map p_key (of_type_p records)) ≡ b → (c : Bool) → b ≡ c
          → (contains key_cmp key (on_sides ++ map p_key (of_type_p records)) && c) ≡ c
      within true e true d = search (rules, lt-ltb, known-right, key_keys, ltb-true)
      within b e false d = never (contains key_cmp key (on_sides ++ map p_key (of_type_p records)))
        where
          never : (a : Bool) → (a && false) ≡ false
          never true = refl
          never false = refl
      within false e true d = absurd (cc)

  -- so both searches look for the same polygons
  pub same_without_chain : (key : PolygonKey) → is_unknown key_cmp (map p_key (of_type_p records)) on_sides key
      ≡ is_without_chain (county_of records) key
  same_without_chain key = ap₂ (λ a b. a && not b) (same_body key) (same_sides key)
