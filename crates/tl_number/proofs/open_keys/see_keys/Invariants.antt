-- the keys seen so far and the remaining ones are all, and so are the open ones
use Rattle.tl_number.proofs.Common.{[], cond, drop, first_seen_after, newly_seen, ◌++◌, ◌≡◌}
use Rattle.tl_number.proofs.open_keys.see_keys.Given as goal

abbrev pub invariant-loop-key : goal.invariant-loop-key
invariant-loop-key g l = record {
  all : first_seen_after g.K.Ord.cmp l.all (drop l.key-index l.keys) ≡ first_seen_after g.K.Ord.cmp l.initial.all l.keys;
  opened : l.opened.items ++ cond l.at_open (newly_seen g.K.Ord.cmp l.all (drop l.key-index l.keys)) []
      ≡ l.initial.opened.items ++ cond l.at_open (newly_seen g.K.Ord.cmp l.initial.all l.keys) [];
}
