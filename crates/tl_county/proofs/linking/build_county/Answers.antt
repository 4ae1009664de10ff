use Rattle.tl_county.proofs.Common.{Fields5, IsCounty, IsStrictlySortedBy, IsWithinLimits, LinksUnderLands, ap, county_along, county_with, distinct, distinct_same, five_feat, flat_map, from_permutation, length, length-map, map, map_values, most_records, nat_cmp, nat_keys, nodes, ordered_of, pieces_alike, subst, sym, topology_nodes, ◌∙◌, ◌≡◌}
use Rattle.tl_county.proofs.Rules.BuiltTables.{as_built, built-is_county, feats-ascend, links_under_lands-along, names-built, nodes-built}
use Rattle.tl_county.proofs.linking.build_county.Given.{Over}
use Rattle.tl_county.proofs.linking.build_county.Goals as goal
use Rattle.tl_county.proofs.linking.build_county.Goals.{After-new-names}

pub new-names-requires-clause-ascending : goal.new-names-requires-clause-ascending
new-names-requires-clause-ascending g c =
    subst (IsStrictlySortedBy nat_cmp) (sym c.requires.feats)
    (feats-ascend (ordered_of c.args.tables.now) c.requires.tables c.requires.linked)

pub new-names-requires-clause-same_length : goal.new-names-requires-clause-same_length
new-names-requires-clause-same_length g c =
    let fives = c.args.tables.now.records.type_5.items in
    ap length c.requires.feats ∙ length-map fives five_feat ∙ sym (length-map fives (λ (r : Fields5). r.body))
    ∙ ap length (sym c.requires.names) ∙ length-map c.args.names.items g.N.StoredName.name

-- the tables hold the county of the records
same : (g : Over) (c : After-new-names g)
    → county_with (map_values g.C.StoredChain.chain c.in_ok-chains.chains) (map_values g.N.StoredName.name c.new-names.result)
    c.in_ok-polygons.polygons (map_values g.L.StoredLandmark.landmark c.in_ok-landmarks.landmarks)
    ≡ county_along (ordered_of c.args.tables.now)
same g c =
    let name = g.N.StoredName.name in
    let names = names-built name c.new-names.result (ordered_of c.args.tables.now) (c.new-names.ensures.keys ∙ c.requires.feats)
    (ap (map name) c.new-names.ensures.values ∙ c.requires.names) in
    λ i. county_with (c.in_ok-chains.ensures i) (names i) (c.in_ok-polygons.ensures i) (c.in_ok-landmarks.ensures i)

pub new-requires-clause-county : goal.new-requires-clause-county
new-requires-clause-county g c =
    subst IsCounty (sym (same g (goal.at.new-requires-clause-county g c).After-new-names))
    (built-is_county (ordered_of c.args.tables.now) c.requires.tables c.requires.linked)

pub new-requires-clause-limits : goal.new-requires-clause-limits
new-requires-clause-limits g c =
    subst (IsWithinLimits most_records)
    (sym (same g (goal.at.new-requires-clause-limits g c).After-new-names
    ∙ sym (as_built (ordered_of c.args.tables.now) c.requires.tables c.requires.linked))) c.requires.limits

pub new-requires-clause-links : goal.new-requires-clause-links
new-requires-clause-links g c =
    subst LinksUnderLands (sym c.in_ok-landmarks.ensures) (links_under_lands-along (ordered_of c.args.tables.now))

pub new-requires-clause-nodes : goal.new-requires-clause-nodes
new-requires-clause-nodes g c =
    let lying = c.args.tables.now.records.type_i.items in
    let ordered = (ordered_of c.args.tables.now).of_type_i in
    c.in_ok-nodes.ensures ∙ ap (λ topologies. distinct nat_cmp (flat_map topology_nodes topologies)) c.deref.ensures.value
    ∙ distinct_same nat_keys (flat_map topology_nodes lying) (flat_map topology_nodes ordered)
    (pieces_alike nat_keys topology_nodes lying ordered (from_permutation lying ordered c.requires.topologies))
    ∙ sym (nodes-built (ordered_of c.args.tables.now) c.requires.tables c.requires.linked)
    ∙ ap nodes (sym (same g (goal.at.new-requires-clause-nodes g c).After-new-names))

pub returns : goal.returns
returns g c =
    c.new.ensures ∙ same g (goal.at.returns g c).After-new-names
    ∙ sym (as_built (ordered_of c.args.tables.now) c.requires.tables c.requires.linked)
