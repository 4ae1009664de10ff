use Rattle.record_groups.proofs.Common.{AreHeads, length, take, ◌≡◌}
use Rattle.record_groups.proofs.groups.read_heads.Given as goal

-- the heads up to this one were read
abbrev pub invariant-loop-ahead : goal.invariant-loop-ahead
invariant-loop-ahead g l = record {
  buffer : length l.buffer ≡ length l.initial.buffer;
  heads : AreHeads (g.G.RecordGroups.IsHead l.groups) l.first (take l.ahead l.buffer);
}
