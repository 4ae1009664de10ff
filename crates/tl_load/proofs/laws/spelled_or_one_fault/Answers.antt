use Rattle.tl_load.proofs.Common.{tiger}
use Rattle.tl_load.proofs.Reading.{one_verdict}
use Rattle.tl_load.proofs.RecordLines.{tiger_is_sound}
use Rattle.tl_load.proofs.laws.spelled_or_one_fault.Goals as goal

pub returns : goal.returns
returns c limit parts = one_verdict tiger tiger_is_sound limit parts
