use Rattle.tl_county.proofs.Common.{YieldsList-from_map, YieldsList-from_slice, items_from_extend, p_key, rules, tests}
use Rattle.tl_county.proofs.linking.gathering.push_points.Goals as goal

pub returns : goal.returns
returns c =
    let appended = items_from_extend c.extend.result c.extend.ensures.ran (YieldsList-from_map _ p_key
    (YieldsList-from_slice c.args.points.now cc) c.map.ensures.closure (λ x r q k. search (rules, tests))) in
    search rules
