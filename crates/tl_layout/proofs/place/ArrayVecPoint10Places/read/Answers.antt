use Rattle.std.proofs.Common.{sym, ◌∙◌}
use Rattle.tl_layout.proofs.PlaceSteps.{zeros_are_none}
use Rattle.tl_layout.proofs.place.ArrayVecPoint10Places.read.Goals as goal

pub returns-then-eq : goal.returns-then-eq
returns-then-eq c = sym (zeros_are_none c.args.column c.args.line.now c.requires.from_one (sym c.eq.ensures ∙ c.if-eq.true))
