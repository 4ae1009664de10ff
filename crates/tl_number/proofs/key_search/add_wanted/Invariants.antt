-- the wanted keys seen so far, and then the wanted ones of the remaining keys, are all
use Rattle.tl_number.proofs.Common.{contains, drop, filter, first_seen_after, ◌≡◌}
use Rattle.tl_number.proofs.key_search.add_wanted.Given as goal

abbrev pub invariant-loop-key : goal.invariant-loop-key
invariant-loop-key g l =
    first_seen_after g.K.Ord.cmp l.earlier (filter (λ key. contains g.K.Ord.cmp key l.wanted) (drop l.key-index l.keys))
    ≡ first_seen_after g.K.Ord.cmp l.initial.earlier (filter (λ key. contains g.K.Ord.cmp key l.wanted) l.keys)
