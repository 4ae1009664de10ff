use Rattle.tl_layout.proofs.Common.{refl, type_1_reading_is_short}
use Rattle.tl_layout.proofs.type1.Rec1Layout.read.Goals as goal

pub returns : goal.returns
returns c = rw (c.read_groups.ensures, ← type_1_reading_is_short c.args.line.now) record { exact = refl }
