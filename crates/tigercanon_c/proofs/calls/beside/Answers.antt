use Rattle.std.proofs.lemmas.Iterator.{YieldsList-from_map_by, YieldsList-from_slice}
use Rattle.std.proofs.lemmas.Iterator.Consumers.{map_from_collect}
use Rattle.std.proofs.Common.{rules, tests}
use Rattle.tigercanon_c.proofs.calls.beside.Goals as goal

pub returns : goal.returns
returns c = map_from_collect c.collect.result c.collect.ensures.ran (YieldsList-from_map_by _ (λ slice. slice.now) (λ part. part.bytes.now)
    (YieldsList-from_slice c.args.parts.now cc) c.map.ensures.closure (λ x r q k. search (rules, tests)))
