-- The remaining places turn the remaining chains and number into the same as all places do from the start.
use Rattle.tl_number.proofs.Common.{AreWithin, length, moved, other_way, ◌≡◌}
use Rattle.tl_number.proofs.numbered_arrangement.choose.Given as goal

abbrev pub invariant-loop-at : goal.invariant-loop-at
invariant-loop-at l = record {
  same : moved other_way l.rest (l.arrangement, l.left) ≡ moved other_way l.places (l.initial.arrangement, l.number);
  within : AreWithin (length l.arrangement) l.rest;
  count : length l.arrangement ≡ length l.initial.arrangement;
}

abbrev pub decreases-loop-at : goal.decreases-loop-at
decreases-loop-at l = length l.rest
