use Rattle.command_line.proofs.Common.{codes, found_of}
use Rattle.command_line.proofs.PlannedSets.{flag_given}
use Rattle.command_line.proofs.planning.plan_of.Goals as goal

pub returns-clause-sets : goal.returns-clause-sets
returns-clause-sets c = record {
  is_stem = c.get_flag-is_stem.result;
  flag = flag_given (found_of c.args.given.now) (codes "stem") c.get_flag-is_stem.result c.get_flag-is_stem.ensures.none
      c.get_flag-is_stem.ensures.value c.get_flag-is_stem.ensures.other;
  mask = c.mask_given.ensures;
  first = c.in_ok-files_given.ensures.files;
  second = c.in_ok-second_files_given.ensures.files;
}
