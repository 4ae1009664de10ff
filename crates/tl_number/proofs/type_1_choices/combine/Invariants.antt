-- the digits so far are combined
use Rattle.std.proofs.Common.{drop, ◌++◌, ◌≡◌}
use Rattle.tl_number.specs.ShapeDigits.{combined}
use Rattle.tl_number.proofs.type_1_choices.combine.Given as goal

abbrev pub invariant-loop-digit : goal.invariant-loop-digit
invariant-loop-digit l = l.all.items ++ combined l.ways (drop l.digit-index l.digits) l.numbers ≡ combined l.ways l.digits l.numbers
