-- the places of the landmarks so far that have one of the names
use Rattle.tl_number.proofs.Common.{bodies_at, filter, has_name, range_with_len, ◌≡◌}
use Rattle.tl_number.proofs.kept_landmarks.places_named.Given as goal

abbrev pub invariant-loop-place : goal.invariant-loop-place
invariant-loop-place g l = l.places.items ≡ filter (λ place. has_name l.names (bodies_at (g.C.Chart.county l.chart) place)) (range_with_len 0 l.place)
