use Rattle.command_line.proofs.Common.{YieldsList-from_skip, YieldsList-from_vec, into_iter_items, items_from_collect}
use Rattle.command_line.proofs.words.words_of.Goals as goal

pub returns : goal.returns
returns c =
    let whole = c.args.args.rest.ok.0 in
    items_from_collect c.collect.result c.collect.ensures.ran
    (YieldsList-from_skip 1 (YieldsList-from_vec (into_iter_items c.args.args) (cc) (cc)) c.skip.ensures.count)
