use Rattle.tl_county.proofs.Common.{Fields6, YieldsList-from_map, YieldsList-from_slice, items_from_extend, rules, tests}
use Rattle.tl_county.proofs.linking.building.join_ranges.Goals as goal

pub returns : goal.returns
returns c =
    let appended = items_from_extend c.extend.result c.extend.ensures.ran (YieldsList-from_map _ (λ (r : Fields6). r.ranges)
    (YieldsList-from_slice c.args.records.now cc) c.map.ensures.closure (λ x r q k. search (rules, tests))) in
    search rules
