use Rattle.tl_county.proofs.Common.{YieldsList-from_filter_map, YieldsList-from_slice, items_from_extend, rules, slice_get, tests}
use Rattle.tl_county.proofs.linking.chain_records.topologies_at.Goals as goal

pub returns : goal.returns
returns c =
    let read = items_from_extend c.extend.result c.extend.ensures.ran (YieldsList-from_filter_map _ (slice_get c.args.records.now)
    (YieldsList-from_slice c.args.places.now cc) c.filter_map.ensures.closure (λ x r q k. search (rules, tests))) in
    search rules
