use Rattle.county_chart.proofs.Common.{IsInOrder, is_unknown, length, map, on, ◌+◌, ◌≡◌}
use Rattle.county_chart.proofs.keys.keyed.least_unknown.Given as goal

abbrev pub invariant-loop-first : goal.invariant-loop-first
invariant-loop-first g l = record {
  asked_in_order : IsInOrder (on g.A.Keyed.key_of g.K.Ord.cmp) l.asked;
  known_in_order : IsInOrder (on g.B.Keyed.key_of g.K.Ord.cmp) l.known;
  same : (key : g.row.K.Denot) → is_unknown g.K.Ord.cmp (map g.A.Keyed.key_of l.asked)
      (map g.B.Keyed.key_of l.known) key ≡ is_unknown g.K.Ord.cmp (map g.A.Keyed.key_of l.fn.items) (map g.B.Keyed.key_of l.fn.known) key;
}

abbrev pub decreases-loop-first : goal.decreases-loop-first
decreases-loop-first g l = length l.asked + length l.known
