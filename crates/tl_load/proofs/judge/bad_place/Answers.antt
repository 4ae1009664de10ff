use Rattle.tl_load.proofs.Common.{rules}
use Rattle.tl_load.proofs.LineLaws.{bad_none}
use Rattle.tl_load.proofs.judge.bad_place.Goals as goal

pub returns-then-is_clean : goal.returns-then-is_clean
returns-then-is_clean c = search (rules, bad_none)
