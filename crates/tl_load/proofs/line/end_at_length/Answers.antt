use Rattle.tl_load.proofs.Common.{rules}
use Rattle.tl_load.proofs.Views.{ends_clean}
use Rattle.tl_load.proofs.line.end_at_length.Goals as goal

pub returns-then-is_ascii : goal.returns-then-is_ascii
returns-then-is_ascii g c = ends_clean _ _ _ c.in_ok-place.ensures (search rules)
