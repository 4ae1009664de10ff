use Rattle.tl_load.proofs.Common.{drop-replicate, refl}
use Rattle.tl_load.proofs.judge.fill.Goals as goal

pub returns : goal.returns
returns c = rw (c.copy_from_slice.ensures.after, c.blanks-filled.ensures, drop-replicate) refl
