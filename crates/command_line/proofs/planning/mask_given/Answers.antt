use Rattle.command_line.proofs.Common.{codes, found_of}
use Rattle.command_line.proofs.PlannedSets.{flag_given}
use Rattle.command_line.proofs.planning.mask_given.Goals as goal

pub returns : goal.returns
returns c =
    let found = found_of c.args.given.now in
    record {
      sources = flag_given found (codes "no-sources") c.get_flag.result c.get_flag.ensures.none c.get_flag.ensures.value c.get_flag.ensures.other;
      reserved = flag_given found (codes "no-reserved") c.get_flag-2.result c.get_flag-2.ensures.none c.get_flag-2.ensures.value
          c.get_flag-2.ensures.other;
    }
