use Rattle.command_line.proofs.Common.{IsPlanOf, subst}
use Rattle.command_line.proofs.PlannedSets.{met_of, one_job}
use Rattle.command_line.proofs.planning.plan_in.Goals as goal

pub returns-in-Some-job_named-clause-usage : goal.returns-in-Some-job_named-clause-usage
returns-in-Some-job_named-clause-usage c = λ p planned.
    let met = met_of c.args.matches.now c.in-Some.name c.in-Some.given c.subcommand.result c.in-Some.is c.subcommand.ensures.name
    c.subcommand.ensures.rows in
    let named = subst (λ o. IsPlanOf o p) met planned in
    c.plan_of.ensures.usage p (one_job c.in-Some-job_named.job p.job (c.in-Some-job_named.ensures.known p.job named.0)) named.1
