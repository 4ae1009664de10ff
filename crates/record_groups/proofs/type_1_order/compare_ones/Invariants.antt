-- The records apart from the remaining open places are tied.
use Rattle.record_groups.proofs.Common.{AllByRecursion, ArePlacesInOrder, AreTiedAt, AreWithin, IsApart, arranged_by, length, ones_of, ℕ}
use Rattle.record_groups.proofs.type_1_order.compare_ones.Given as goal

abbrev pub invariant-loop-at : goal.invariant-loop-at
invariant-loop-at g l = record {
  within : AreWithin (length l.one) l.rest;
  in_order : ArePlacesInOrder l.rest;
  tied : (place : ℕ) → AllByRecursion (IsApart place) l.rest
      → AreTiedAt (ones_of (arranged_by (g.C.Chart.county l.chart) l.one)) (ones_of (arranged_by (g.C.Chart.county l.chart) l.other)) place;
}

abbrev pub decreases-loop-at : goal.decreases-loop-at
decreases-loop-at g l = length l.rest
