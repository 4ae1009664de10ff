use Rattle.std.proofs.Common.{refl}
use Rattle.tl_layout.specs.Type1Groups.{entities_at}
use Rattle.tl_layout.proofs.type1.fields.GeographicEntities.at.Goals as goal

pub returns : goal.returns
unfolding entities_at
returns c = rw (c.at.ensures, c.at-2.ensures, c.at-3.ensures, c.at-4.ensures, c.at-5.ensures, c.at-6.ensures, c.at-7.ensures) refl
