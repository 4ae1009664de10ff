-- The keys seen so far and the keys of the remaining pairs are the keys of all pairs. The pairs so far have their final numbers, and the
-- remaining ones are unchanged.
use Rattle.arranged_county.proofs.Common.{changed_both, drop, first_seen, first_seen_after, flat_map, keys_at, map, take, ◌≡◌}
use Rattle.arranged_county.proofs.first_appearance.see_pairs.Given as goal

abbrev pub invariant-loop-pair : goal.invariant-loop-pair
invariant-loop-pair g l =
    (first_seen_after g.T.Old.Ord.cmp l.numbers (flat_map (keys_at g.T.Half.keys) (drop l.pair-index l.initial.pairs))
    ≡ first_seen g.T.Old.Ord.cmp (flat_map (keys_at g.T.Half.keys) l.initial.pairs))
    × (take l.pair-index l.pairs
    ≡ map (changed_both (g.T.Half.among (first_seen g.T.Old.Ord.cmp (flat_map (keys_at g.T.Half.keys) l.initial.pairs))))
    (take l.pair-index l.initial.pairs))
    × (drop l.pair-index l.pairs ≡ drop l.pair-index l.initial.pairs)
