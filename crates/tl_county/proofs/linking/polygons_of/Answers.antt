use Rattle.tl_county.proofs.Common.{FieldsI, IfOk-weaker, IsLeastPassing, List, PolygonKey, ap, contains, distinct, distinct_same, flat_map, from_permutation, is_unknown, key_cmp, key_keys, least-same, map, not, ordered_of, p_key, pieces_alike, side_keys, ◌&&◌, ◌++◌, ◌∙◌, ◌≡◌}
use Rattle.tl_county.proofs.ByKey.DistinctKeys.{distinct-more}
use Rattle.tl_county.proofs.linking.polygons_of.Goals as goal

pub returns-clause-keys : goal.returns-clause-keys
returns-clause-keys c =
    let lying = c.args.tables.now.records.type_i.items in
    let ordered = (ordered_of c.args.tables.now).of_type_i in
    let points = map p_key c.args.tables.now.records.type_p.items in
    let known : List FieldsI → List PolygonKey = λ topologies. flat_map side_keys topologies ++ points in
    IfOk-weaker c.gather_polygons.result
    (λ polygons. polygons.keys.items ≡ distinct key_cmp (flat_map side_keys c.deref.result.now ++ map p_key c.deref-2.result.now))
    (λ polygons. polygons.keys.items ≡ distinct key_cmp (known ordered))
    (λ polygons e. e
    ∙ (λ i. distinct key_cmp (flat_map side_keys (c.deref.ensures.value i) ++ map p_key (c.deref-2.ensures.value i)))
    ∙ distinct-more key_keys (flat_map side_keys lying) (flat_map side_keys ordered) points
    (distinct_same key_keys (flat_map side_keys lying) (flat_map side_keys ordered)
    (pieces_alike key_keys side_keys lying ordered (from_permutation lying ordered c.requires.topologies))))
    c.gather_polygons.ensures.keys

pub returns-clause-without_side : goal.returns-clause-without_side
returns-clause-without_side c =
    let lying = c.args.tables.now.records.type_i.items in
    let ordered = (ordered_of c.args.tables.now).of_type_i in
    let points = map p_key c.args.tables.now.records.type_p.items in
    let met = is_unknown key_cmp (map p_key c.deref-2.result.now) (flat_map side_keys c.deref.result.now) in
    let other = is_unknown key_cmp points (flat_map side_keys ordered) in
    IfOk-weaker c.gather_polygons.result
    (λ polygons. IsLeastPassing key_cmp met polygons.without_side)
    (λ polygons. IsLeastPassing key_cmp other polygons.without_side)
    (λ polygons least. least-same key_cmp met other
    (λ k. (λ i. is_unknown key_cmp (map p_key (c.deref-2.ensures.value i)) (flat_map side_keys (c.deref.ensures.value i)) k)
    ∙ ap (λ b. contains key_cmp k points && not b)
    (pieces_alike key_keys side_keys lying ordered (from_permutation lying ordered c.requires.topologies) k))
    polygons.without_side least)
    c.gather_polygons.ensures.without_side
