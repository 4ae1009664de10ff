use Rattle.command_line.proofs.MaskWords.{check_takes_no_mask, respell_takes_no_mask}
use Rattle.command_line.proofs.laws.masks_are_for_jobs_on_maps.Goals as goal

pub returns-clause-respell : goal.returns-clause-respell
returns-clause-respell c = respell_takes_no_mask

pub returns-clause-check : goal.returns-clause-check
returns-clause-check c = check_takes_no_mask
