use Rattle.tl_load.proofs.Common.{tiger}
use Rattle.tl_load.proofs.CutParts.{fault_elsewhere, spells_alike}
use Rattle.tl_load.proofs.laws.sets_of_the_same_lines_are_alike.Goals as goal

pub returns-clause-spells : goal.returns-clause-spells
returns-clause-spells c parts others records same = spells_alike tiger parts others records same

pub returns-clause-fault : goal.returns-clause-fault
returns-clause-fault c limit parts others fault same = fault_elsewhere tiger limit parts others fault same
