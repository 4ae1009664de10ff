use Rattle.std.proofs.Common.{length, map, ◌≡◌}
use Rattle.tl_county.proofs.keys.absent.have_same_keys.Given as goal

abbrev pub invariant-loop-item : goal.invariant-loop-item
invariant-loop-item g l = map g.A.Keyed.key_of l.left ≡ map g.B.Keyed.key_of l.right
    → map g.A.Keyed.key_of l.items ≡ map g.B.Keyed.key_of l.others

abbrev pub decreases-loop-item : goal.decreases-loop-item
decreases-loop-item g l = length l.left
