use Rattle.command_line.proofs.Common.{found_of}
use Rattle.command_line.proofs.PlannedSets.{none_given, value_given}
use Rattle.command_line.proofs.planning.files_given.Goals as goal

pub returns-in_ok-files_of-in-Some-clause-files : goal.returns-in_ok-files_of-in-Some-clause-files
returns-in_ok-files_of-in-Some-clause-files c = record {
  name = c.in-Some.name.now;
  given = value_given (found_of c.args.given.now) c.args.argument.now c.get_str.result c.in-Some.name c.get_str.ensures c.in-Some.is;
  named = c.in_ok-files_of-in-Some.ensures;
}

pub returns-in-None-clause-usage : goal.returns-in-None-clause-usage
returns-in-None-clause-usage c = λ name given.
    absurd (none_given (found_of c.args.given.now) c.args.argument.now c.get_str.result name c.get_str.ensures c.in-None.is given)
