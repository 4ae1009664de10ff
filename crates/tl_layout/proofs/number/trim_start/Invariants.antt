use Rattle.tl_layout.proofs.Common.{drop_blanks, length, ◌≡◌, ◌≤◌}
use Rattle.tl_layout.proofs.number.trim_start.Given as goal

abbrev pub invariant-loop-rest : goal.invariant-loop-rest
invariant-loop-rest l = record {
  left : drop_blanks l.rest ≡ drop_blanks l.field;
  shorter : length l.rest ≤ length l.field;
}

abbrev pub decreases-loop-rest : goal.decreases-loop-rest
decreases-loop-rest l = length l.rest
