use Rattle.tl_county.proofs.Common.{IsInOrder, is_repeated, length, map, on, ◌≡◌}
use Rattle.tl_county.proofs.keys.repeated.least_repeated.Given as goal

abbrev pub invariant-loop-first : goal.invariant-loop-first
invariant-loop-first g l = record {
  in_order : IsInOrder (on g.T.Keyed.key_of g.K.Ord.cmp) l.rest;
  same : (key : g.row.K.Denot) → is_repeated g.K.Ord.cmp (map g.T.Keyed.key_of l.rest) key ≡ is_repeated g.K.Ord.cmp
      (map g.T.Keyed.key_of l.items) key;
}

abbrev pub decreases-loop-first : goal.decreases-loop-first
decreases-loop-first g l = length l.rest
