use Rattle.renamings.proofs.Common.{named_images}
use Rattle.renamings.proofs.Tables.{named_images-filtered}
use Rattle.std.proofs.Common.{ap, nat_cmp, sym, ◌∙◌}
use Rattle.renamings.proofs.turning.turned_back.Goals as goal

pub returns : goal.returns
returns c =
    c.in_ok-back.ensures ∙ ap (λ pairs. named_images nat_cmp pairs c.args.turned.now) c.in_ok-images.ensures
    ∙ sym (named_images-filtered nat_cmp c.args.chains.now c.args.turned.now)
