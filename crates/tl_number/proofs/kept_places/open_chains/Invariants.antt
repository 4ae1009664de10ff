-- the chains at open places so far
use Rattle.tl_number.proofs.Common.{at_places, filter, is_open, range_with_len, ◌≡◌}
use Rattle.tl_number.proofs.kept_places.open_chains.Given as goal

abbrev pub invariant-loop-place : goal.invariant-loop-place
invariant-loop-place l = l.chains.items ≡ at_places l.by_shape (filter (is_open l.places) (range_with_len 0 l.place))
