-- The ranges so far are turned, and the others are unchanged.
use Rattle.std.proofs.Common.{drop, map, take, ◌++◌, ◌≡◌}
use Rattle.tl_layout.specs.Turned.{turned_ranges}
use Rattle.tl_shape.proofs.chain.turn_all.Given as goal

abbrev pub invariant-loop-entry : goal.invariant-loop-entry
invariant-loop-entry l = l.ranges ≡ map turned_ranges (take l.entry-index l.initial.ranges) ++ drop l.entry-index l.initial.ranges
