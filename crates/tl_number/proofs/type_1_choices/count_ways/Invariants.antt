-- the ways so far and the ways of the remaining places
use Rattle.std.proofs.Common.{length, ◌*◌, ◌≡◌}
use Rattle.tl_number.specs.ShapeDigits.{ways_of}
use Rattle.tl_number.proofs.type_1_choices.count_ways.Given as goal

abbrev pub invariant-loop-at : goal.invariant-loop-at
invariant-loop-at l = l.ways * ways_of l.rest ≡ ways_of l.places

abbrev pub decreases-loop-at : goal.decreases-loop-at
decreases-loop-at l = length l.rest
