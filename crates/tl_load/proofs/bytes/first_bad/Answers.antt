use Rattle.tl_load.proofs.Common.{rules}
use Rattle.tl_load.proofs.LineLaws.{bad_none}
use Rattle.tl_load.proofs.bytes.first_bad.Goals as goal

pub returns-then-is_clean : goal.returns-then-is_clean
returns-then-is_clean c = search (rules, bad_none)
