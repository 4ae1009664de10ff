use Rattle.arranged_county.proofs.Common.{drop, first_seen_after, ◌≡◌}
use Rattle.arranged_county.proofs.numbers.Interner.see_all.Given as goal

abbrev pub invariant-loop-place : goal.invariant-loop-place
invariant-loop-place g l =
    first_seen_after g.K.Ord.cmp l.self (drop l.place (g.L.Listed.items l.keys)) ≡ first_seen_after g.K.Ord.cmp l.initial.self (g.L.Listed.items l.keys)
