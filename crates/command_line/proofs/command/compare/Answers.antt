use Rattle.command_line.proofs.Common.{IfOk-weaker, ap, ap₂, with_mask, with_rule, ◌∙◌}
use Rattle.command_line.proofs.command.compare.Goals as goal

pub returns-clause-app : goal.returns-clause-app
returns-clause-app c =
    let of_two = c.in_ok-of_two.ensures.shape c.set.ensures.local ∙ ap₂ with_rule c.in_ok-of_one.ensures.app c.set.ensures.rule in
    IfOk-weaker c.masked.result _ _ (λ r h. h ∙ ap with_mask of_two) c.masked.ensures.app
