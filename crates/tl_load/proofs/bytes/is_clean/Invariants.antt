use Rattle.tl_load.proofs.Common.{Each1, get_or, is_allowed, true, ℕ, ◌+◌, ◌-◌, ◌<◌, ◌≡◌, ◌≤◌}
use Rattle.tl_load.proofs.bytes.is_clean.Given as goal

-- if no lane is below 0x42, the bytes before this position and the last 32 are clean
abbrev pub invariant-loop-at : goal.invariant-loop-at
invariant-loop-at l = record {
  clean : Each1 (λ x. 66 ≤ x) l.least → (k : ℕ) → k < l.at → is_allowed (get_or l.bytes k 0) ≡ true;
  ends_clean : Each1 (λ x. 66 ≤ x) l.least → (k : ℕ) → l.last ≤ k → k < l.last + 32 → is_allowed (get_or l.bytes k 0) ≡ true;
}

abbrev pub decreases-loop-at : goal.decreases-loop-at
decreases-loop-at l = l.last - l.at
