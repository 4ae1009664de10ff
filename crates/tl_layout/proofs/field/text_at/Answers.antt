use Rattle.tl_layout.proofs.Common.{arith, columns_of_width}
use Rattle.tl_layout.proofs.field.text_at.Goals as goal

pub from_slice-requires : goal.from_slice-requires
from_slice-requires g c =
    (omega arith, columns_of_width _ _ _ _ c.requires.allowed c.requires.from_one c.requires.within.0 c.requires.width)
