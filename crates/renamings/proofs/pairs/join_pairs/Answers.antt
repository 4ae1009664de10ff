use Rattle.renamings.proofs.Common.{pair_on}
use Rattle.renamings.proofs.Tables.{joined-pairs}
use Rattle.std.proofs.Common.{ap, filter_map, sym, ◌∙◌}
use Rattle.renamings.proofs.pairs.join_pairs.Goals as goal

pub returns : goal.returns
returns g c =
    c.in_ok-pairs.ensures ∙ ap (λ nexts. filter_map (pair_on g.K.Ord.cmp nexts) c.args.firsts.now) c.in_ok-images.ensures
    ∙ sym (joined-pairs g.K.Ord.cmp c.args.firsts.now c.args.nexts.now)
