use Rattle.tl_county.proofs.Common.{IsStrictlySortedBy, List, PolygonKey, distinct, distinct-strict, entries-equal, flat_map, key_cmp, key_keys, map, map-id, map-map, ordered_of, p_key, polygon_body_of, rules, side_keys, subst, sym, ◌++◌, ◌∙◌}
use Rattle.tl_county.proofs.linking.build_polygons.Goals as goal

pub polygon_bodies-requires-clause-polygons : goal.polygon_bodies-requires-clause-polygons
polygon_bodies-requires-clause-polygons c = search (rules, distinct-strict, key_keys)

pub new-requires-clause-ascending : goal.new-requires-clause-ascending
new-requires-clause-ascending c =
    subst (IsStrictlySortedBy key_cmp) (sym c.requires.keys) (distinct-strict key_keys
    (flat_map side_keys (ordered_of c.args.tables.now).of_type_i ++ map p_key c.args.tables.now.records.type_p.items))

pub returns : goal.returns
returns c =
    let points = c.args.tables.now.records.type_p.items in
    let keys : List PolygonKey =
    distinct key_cmp (flat_map side_keys (ordered_of c.args.tables.now).of_type_i ++ map p_key points) in
    entries-equal c.new.result (map (λ key. (key, polygon_body_of points key)) keys)
    (c.new.ensures.keys ∙ c.requires.keys
    ∙ sym (map-map (λ e. e.0) (λ key. (key, polygon_body_of points key)) keys ∙ map-id keys))
    (c.new.ensures.values ∙ c.in_ok-bodies.ensures
    ∙ (λ i. map (polygon_body_of (c.deref-2.ensures.value i)) ((c.deref.ensures.value ∙ c.requires.keys) i))
    ∙ sym (map-map (λ e. e.1) (λ key. (key, polygon_body_of points key)) keys))
