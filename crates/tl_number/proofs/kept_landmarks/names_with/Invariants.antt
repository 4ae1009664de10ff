-- the names of the landmarks so far
use Rattle.tl_number.proofs.Common.{flat_map, name_if_linked, range_with_len, ◌≡◌}
use Rattle.tl_number.proofs.kept_landmarks.names_with.Given as goal

abbrev pub invariant-loop-place : goal.invariant-loop-place
invariant-loop-place g l = l.names.items ≡ flat_map (name_if_linked (g.C.Chart.county l.chart) l.polygons) (range_with_len 0 l.place)
