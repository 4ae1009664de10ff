use Rattle.tl_load.proofs.Common.{length-chunk, length-zip2, rules, zip2_splat}
use Rattle.tl_load.proofs.Lanes.{ascii_at}
use Rattle.tl_load.proofs.bytes.from_delete.Goals as goal

pub returns-clause-long : goal.returns-clause-long
returns-clause-long c = search (rules, length-chunk, length-zip2)

pub returns-clause-clean : goal.returns-clause-clean
returns-clause-clean c each k from below = search (rules, length-chunk, ascii_at, zip2_splat)
