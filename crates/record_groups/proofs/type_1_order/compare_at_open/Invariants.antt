-- the records before a place are tied
use Rattle.record_groups.proofs.Common.{AreTiedBelow, arranged_by, ones_of}
use Rattle.record_groups.proofs.type_1_order.compare_at_open.Given as goal

abbrev pub invariant-loop-place : goal.invariant-loop-place
invariant-loop-place g l =
    AreTiedBelow l.place (ones_of (arranged_by (g.C.Chart.county l.chart) l.one)) (ones_of (arranged_by (g.C.Chart.county l.chart) l.other))
