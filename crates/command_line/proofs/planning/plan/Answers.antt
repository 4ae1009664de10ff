use Rattle.command_line.proofs.Common.{IfOk, IsPlanOf, app_of, map, string_bytes, subst, sym}
use Rattle.command_line.proofs.PlannedSets.{memory_alone, met_in_words, read_well}
use Rattle.command_line.proofs.planning.plan.Goals as goal

pub returns-in-Err-clause-usage : goal.returns-in-Err-clause-usage
returns-in-Err-clause-usage c = λ p words planned.
    c.fault_of.ensures (memory_alone (app_of c.in_ok-command.field-0) (map string_bytes c.args.words.now) c.in-Err.error
    c.in_ok-command.ensures c.in-Err.ensures.kinds words)

pub returns-in-Ok-clause-understood : goal.returns-in-Ok-clause-understood
returns-in-Ok-clause-understood c =
    read_well (app_of c.in_ok-command.field-0) (map string_bytes c.args.words.now) c.plan_in.result c.in_ok-command.ensures
    c.in-Ok.ensures.kinds

pub returns-in-Ok-clause-planned : goal.returns-in-Ok-clause-planned
returns-in-Ok-clause-planned c =
    let met = met_in_words (app_of c.in_ok-command.field-0) (map string_bytes c.args.words.now) c.in-Ok.matches c.in_ok-command.ensures
    c.in-Ok.ensures.matches in
    subst (λ o. IfOk c.plan_in.result (IsPlanOf o)) met c.plan_in.ensures.planned

pub returns-in-Ok-clause-usage : goal.returns-in-Ok-clause-usage
returns-in-Ok-clause-usage c = λ p words planned.
    let met = met_in_words (app_of c.in_ok-command.field-0) (map string_bytes c.args.words.now) c.in-Ok.matches c.in_ok-command.ensures
    c.in-Ok.ensures.matches in
    c.plan_in.ensures.usage p (subst (λ o. IsPlanOf o p) (sym met) planned)
