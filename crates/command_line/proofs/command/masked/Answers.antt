use Rattle.command_line.proofs.Common.{IfOk-weaker, ap, app_of, ap₂, with_rule, ◌∙◌}
use Rattle.command_line.proofs.command.masked.Goals as goal

pub returns-clause-app : goal.returns-clause-app
returns-clause-app c =
    let sources = c.in_ok-with_sources.ensures.shape c.flag.ensures.local ∙ ap (with_rule (app_of c.args.command)) c.flag.ensures.rule in
    IfOk-weaker c.arg-2.result _ _ (λ r h. h.shape c.flag-2.ensures.local ∙ ap₂ with_rule sources c.flag-2.ensures.rule) c.arg-2.ensures
