use Rattle.tl_load.proofs.Filling.{is_line_by}
use Rattle.tl_load.proofs.judge.judge_full.Goals as goal

pub take-requires : goal.take-requires
take-requires g c = is_line_by _ _ _ c.requires.begins c.requires.full c.in_default.ensures
