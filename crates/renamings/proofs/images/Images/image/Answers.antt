use Rattle.std.proofs.Common.{ap, sym, unwrap_or, ◌∙◌}
use Rattle.renamings.proofs.Tables.{image-under}
use Rattle.renamings.proofs.images.Images.image.Goals as goal

pub returns-in-Some : goal.returns-in-Some
returns-in-Some g c = ap (λ o. unwrap_or o c.args.old) c.in-Some.ensures ∙ sym (image-under g.K.Ord.cmp c.args.self.now c.args.old)

pub returns-in-None : goal.returns-in-None
returns-in-None g c = ap (λ o. unwrap_or o c.args.old) c.in-None.ensures ∙ sym (image-under g.K.Ord.cmp c.args.self.now c.args.old)
