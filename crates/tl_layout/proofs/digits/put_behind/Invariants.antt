use Rattle.tl_layout.proofs.Common.{drop, length, text_behind, ◌++◌, ◌≡◌, ◌≤◌}
use Rattle.tl_layout.proofs.digits.put_behind.Given as goal

abbrev pub invariant-loop-i : goal.invariant-loop-i
invariant-loop-i l = record {
  within : l.i ≤ length l.out;
  written : text_behind l.filler l.i l.left ++ drop l.i l.out ≡ text_behind l.filler (length l.out) l.number;
}

abbrev pub decreases-loop-i : goal.decreases-loop-i
decreases-loop-i l = l.i
