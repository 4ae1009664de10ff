-- The pushed places and the following ones are all places, with their classes.
use Rattle.arranged_county.proofs.Common.{classes_along, length, ◌++◌, ◌+◌, ◌<◌, ◌^◌, ◌≡◌}
use Rattle.arranged_county.proofs.content_classes.with_classes.Given as goal

abbrev pub invariant-loop-place : goal.invariant-loop-place
invariant-loop-place g l = record {
  classed : l.classed.items ++ classes_along (g.T.Contents.order l.contents) l.class l.rest ≡ classes_along (g.T.Contents.order l.contents) 0 l.places;
  few : l.class + length l.rest < 2 ^ 32;
}

abbrev pub decreases-loop-place : goal.decreases-loop-place
decreases-loop-place g l = length l.rest
