-- the least of the choices that the places from `end` on leave, and which of these places are still open
use Rattle.std.proofs.Common.{drop, length, take, ◌≡◌, ◌≤◌}
use Rattle.tl_number.specs.LeastOnes.{AreLeastChoices}
use Rattle.tl_number.specs.ShapeDigits.{ArePlacesApart, ways_of}
use Rattle.tl_number.specs.StillOpen.{LeavesOpen}
use Rattle.tl_number.proofs.Choices.StillOpen.{AreAmong}
use Rattle.tl_number.proofs.type_1_choices.least_by_type_1.Given as goal

abbrev pub invariant-loop-end : goal.invariant-loop-end
invariant-loop-end g l = record {
  least : AreLeastChoices (g.C.Chart.county l.chart) l.shape_order l.ways l.least;
  ways : l.ways ≡ ways_of (drop l.end l.shape_order.places);
  end : l.end ≤ length l.shape_order.places;
  left : LeavesOpen l.shape_order.by_shape (drop l.end l.shape_order.places) l.least.numbers.items l.least.still_open;
  among : AreAmong (length l.shape_order.by_shape) (drop l.end l.shape_order.places) l.least.still_open.places;
  apart : ArePlacesApart (length l.shape_order.by_shape) (take l.end l.shape_order.places) (drop l.end l.shape_order.places);
}

abbrev pub decreases-loop-end : goal.decreases-loop-end
decreases-loop-end g l = l.end
