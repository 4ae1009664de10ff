-- The parts that linking builds from tables in order are the county of their records.
use Rattle.tl_county.proofs.Common.{AreInOrder, ArePermuted, Body5, Chain, Fields1, Fields2, Fields4, Fields5, Fields6, FieldsI, FitsRecord, HoldsByType, HoldsWithinLimits, IsCounty, IsFirstBrokenRule, IsLinked, IsPermutation, IsPermutation-trans, IsStrictlySortedBy, IsWithinLimits, LinkFault, LinksUnderLands, List, Record, SameElements, Tables, Typed, [], all_places, ap, arith, by_type, by_type_of, chain_nodes, chains_along, common_steps, county-is_county, county-within_limits, county_along, county_of, distinct, eight_land, entries-equal, entry_keys, entry_values, five_feat, flat_map, flat_map-map, from_permutation, i_tlid, keys-map_values, landmark_of, landmarks_along, length, map, map-map, map_values, most_records, nat_cmp, nodes, of_number-all, one_tlid, refl, rules, seven_land, subst, sym, topology_nodes, type_after_type, typed_of, values-map_values, values-zip, zip, ℕ, ◌++◌, ◌∙◌, ◌∷◌, ◌≡◌}
use Rattle.tl_county.proofs.Rules.LinkedTables.{county-built, feats-strict, side_by_side, tlids-strict}
use Rattle.tl_county.proofs.Sameness.SameRules.{same-first, same-linked, same-sym}
use Rattle.tl_county.proofs.Rules.TypedRecords.{grouped, permuted-after}
use Rattle.tl_county.proofs.Sameness.SameCounty.{reordered-county}

pub length-chains_along : (twos : List Fields2) (fours : List Fields4) (sixes : List Fields6) (rs : List Fields1) (ls : List FieldsI)
    → map one_tlid rs ≡ map i_tlid ls → length (map one_tlid rs) ≡ length (chains_along twos fours sixes rs ls)
length-chains_along twos fours sixes [] ls e = refl
length-chains_along twos fours sixes (r ∷ rs) [] e = cc
length-chains_along twos fours sixes (r ∷ rs) (l ∷ ls) e = let rest : map one_tlid rs ≡ map i_tlid ls = cc in
    omega (arith, length-chains_along twos fours sixes rs ls rest)

-- the nodes of chains are the nodes of their type I records
nodes-chains_along : (twos : List Fields2) (fours : List Fields4) (sixes : List Fields6) (rs : List Fields1) (ls : List FieldsI)
    → map one_tlid rs ≡ map i_tlid ls → flat_map chain_nodes (chains_along twos fours sixes rs ls) ≡ flat_map topology_nodes ls
nodes-chains_along twos fours sixes [] [] e = refl
nodes-chains_along twos fours sixes [] (l ∷ ls) e = cc
nodes-chains_along twos fours sixes (r ∷ rs) [] e = cc
nodes-chains_along twos fours sixes (r ∷ rs) (l ∷ ls) e = let rest : map one_tlid rs ≡ map i_tlid ls = cc in
    ap (λ n. topology_nodes l ++ n) (nodes-chains_along twos fours sixes rs ls rest)

module _ (t : Typed) (order : AreInOrder t) where
  module _ (linked : IsLinked (type_after_type t)) where
    ordered : AreInOrder (by_type (type_after_type t))
    ordered = subst AreInOrder (sym (by_type_of t)) order

    pub tlids-ascend : IsStrictlySortedBy nat_cmp (map one_tlid t.of_type_1)
    tlids-ascend = search (rules, common_steps, by_type_of, tlids-strict, ordered)

    pub feats-ascend : IsStrictlySortedBy nat_cmp (map five_feat t.of_type_5)
    feats-ascend = search (rules, common_steps, by_type_of, feats-strict, ordered)

    pub beside : map one_tlid t.of_type_1 ≡ map i_tlid t.of_type_i
    beside = search (rules, common_steps, by_type_of, side_by_side, ordered)

    pub nodes-built : nodes (county_along t) ≡ distinct nat_cmp (flat_map topology_nodes t.of_type_i)
    nodes-built =
        let chains = chains_along t.of_type_2 t.of_type_4 t.of_type_6 t.of_type_1 t.of_type_i in
        ap (distinct nat_cmp) (sym (flat_map-map chain_nodes (λ (e : ℕ × Chain). e.1) (zip (map one_tlid t.of_type_1) chains))
        ∙ ap (flat_map chain_nodes) (values-zip (map one_tlid t.of_type_1) chains
        (length-chains_along t.of_type_2 t.of_type_4 t.of_type_6 t.of_type_1 t.of_type_i beside))
        ∙ nodes-chains_along t.of_type_2 t.of_type_4 t.of_type_6 t.of_type_1 t.of_type_i beside)

    pub as_built : county_of (type_after_type t) ≡ county_along t
    as_built = county-built (type_after_type t) ordered linked ∙ ap county_along (by_type_of t)

    pub built-is_county : IsCounty (county_along t)
    built-is_county = subst IsCounty as_built (county-is_county (type_after_type t) linked)

-- tables hold the records of a list; the list's order has no meaning
pub held : (tables : Tables) (records : List Record) → HoldsByType tables records → by_type records ≡ typed_of tables
held tables records h = search rules

module _ (records : List Record) (t u : Typed) (holds : by_type records ≡ t) (permuted : ArePermuted t u) where
  moved : IsPermutation records (type_after_type u)
  moved = IsPermutation-trans records (type_after_type (by_type records)) (type_after_type u) (grouped records)
      (permuted-after (by_type records) u (subst (λ v. ArePermuted v u) (sym holds) permuted))

  same : SameElements (type_after_type u) records
  same = same-sym records (type_after_type u) (from_permutation records (type_after_type u) moved)

  pub also_linked : IsLinked (type_after_type u) → IsLinked records
  also_linked = same-linked (type_after_type u) records same

  pub also_first : (fault : LinkFault) → IsFirstBrokenRule (type_after_type u) fault → IsFirstBrokenRule records fault
  also_first = same-first (type_after_type u) records same

  pub same_county : IsLinked (type_after_type u) → county_of (type_after_type u) ≡ county_of records
  same_county linked = reordered-county records (type_after_type u) moved (also_linked linked)

-- the names of type 5 records, under their FEATs
pub names-built : {V : Type 0} (f : V → Body5) (xs : List (ℕ × V)) (t : Typed) → entry_keys xs ≡ map five_feat t.of_type_5
    → map f (entry_values xs) ≡ map (λ (r : Fields5). r.body) t.of_type_5 → map_values f xs ≡ (county_along t).names
names-built f xs t keys values = search (rules, entries-equal, keys-map_values, map-map, values-map_values)

-- each landmark's links have its LAND
pub links_under_lands-along : (t : Typed) → LinksUnderLands (landmarks_along t)
links_under_lands-along t = go (distinct nat_cmp (map seven_land t.of_type_7))
  where
    go : (lands : List ℕ) → LinksUnderLands (map (λ land. (land, landmark_of t.of_type_7 t.of_type_8 land)) lands)
    go [] = tt
    go (land ∷ lands) = (of_number-all eight_land land t.of_type_8, go lands)

-- if tables are within their limits, the tables put in order have a county within its limits
pub within_limits-moved : (before : Tables) (u : Typed) → HoldsWithinLimits before → ArePermuted (typed_of before) u
    → IsLinked (type_after_type u) → IsWithinLimits most_records (county_of (type_after_type u))
within_limits-moved before u within permuted linked =
    let holds = held before within.records within.holds in
    let t = typed_of before in
    subst (IsWithinLimits most_records) (sym (same_county within.records t u holds permuted linked))
    (county-within_limits within.records (also_linked within.records t u holds permuted linked)
    (all_places FitsRecord within.records within.fits) most_records within.few)
