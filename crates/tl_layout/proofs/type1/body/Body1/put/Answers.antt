-- The columns were written after the contents so far.
use Rattle.tl_layout.proofs.Common.{ap, body_1_texts, content_behind, joined, take, ◌∙◌}
use Rattle.tl_layout.proofs.type1.body.Body1.put.Goals as goal

pub returns : goal.returns
returns c =
    c.write_text.ensures
    ∙ (content_behind (take 15 c.args.out.now) c.self.inside.columns c.self.invariant
    ∙ ap (λ body. joined (take 15 c.args.out.now) (body_1_texts body)) c.self.view_is)
