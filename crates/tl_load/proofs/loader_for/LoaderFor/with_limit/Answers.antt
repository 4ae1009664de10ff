use Rattle.tl_load.proofs.Common.{rules}
use Rattle.tl_load.proofs.Counts.{empty_loader}
use Rattle.tl_load.proofs.Histories.{fed_nothing}
use Rattle.tl_load.proofs.loader_for.LoaderFor.with_limit.Goals as goal

pub invariant_of-result : goal.invariant_of-result
invariant_of-result g c = rw (c.no_counts.ensures, c.new.ensures) (empty_loader c.args.limit c.requires.most)

pub returns-clause-fed : goal.returns-clause-fed
returns-clause-fed g c = search (rules, fed_nothing)
