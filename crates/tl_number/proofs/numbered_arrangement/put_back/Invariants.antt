-- The arrangement agrees with the order of shapes, except at the remaining open places.
use Rattle.tl_number.proofs.Common.{AgreeApart, AreWithin, length, ◌≡◌}
use Rattle.tl_number.proofs.numbered_arrangement.put_back.Given as goal

abbrev pub invariant-loop-at : goal.invariant-loop-at
invariant-loop-at l = record {
  within : AreWithin (length l.arrangement) l.rest;
  count : length l.arrangement ≡ length l.by_shape;
  apart : AgreeApart l.rest l.arrangement l.by_shape;
}

abbrev pub decreases-loop-at : goal.decreases-loop-at
decreases-loop-at l = length l.rest
