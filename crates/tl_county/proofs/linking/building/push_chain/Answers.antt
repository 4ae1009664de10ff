use Rattle.tl_county.proofs.Common.{[], ap, map, map-append, ◌++◌, ◌∙◌, ◌∷◌}
use Rattle.tl_county.proofs.Lists.Groups.{chain-of_groups}
use Rattle.tl_county.proofs.linking.building.push_chain.Goals as goal

pub returns-clause-chains : goal.returns-clause-chains
returns-clause-chains g c =
    let f = g.C.StoredChain.chain in
    let before = c.args.chains.now.items in
    ap (map f) c.in_ok-push.ensures.items ∙ map-append f before (c.in_ok-build_chain.field-0 ∷ [])
    ∙ ap (λ chain. map f before ++ (chain ∷ []))
    (c.in_ok-build_chain.ensures
    ∙ chain-of_groups c.args.basics.now c.args.topology.now c.args.details.now.shapes.now c.split_group.result.0.now
    c.args.details.now.names.now c.split_group-2.result.0.now c.args.details.now.ranges.now c.split_group-3.result.0.now
    c.tlid-tlid.result c.tlid-tlid.ensures c.split_group.ensures.group c.split_group-2.ensures.group c.split_group-3.ensures.group)
