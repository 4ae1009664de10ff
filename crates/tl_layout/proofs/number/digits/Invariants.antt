use Rattle.tl_layout.proofs.Common.{drop, number_after, ◌<◌, ◌^◌, ◌≡◌}
use Rattle.tl_layout.proofs.number.digits.Given as goal

abbrev pub invariant-loop-i : goal.invariant-loop-i
invariant-loop-i l = record {
  left : number_after l.value (drop l.i l.field) ≡ number_after 0 l.field;
  fits : l.value < 10 ^ l.i;
}
