use Rattle.std.proofs.Common.{drop, nat_cmp, ◌≡◌}
use Rattle.ordered_lists.specs.Entries.{value_under}
use Rattle.uses.proofs.citing.new_number.Given as goal

abbrev pub invariant-loop-pair : goal.invariant-loop-pair
invariant-loop-pair l = value_under nat_cmp l.old (drop l.pair-index l.pairs) ≡ value_under nat_cmp l.old l.pairs
