use Rattle.std.proofs.Common.{List, length, take, ℕ, ◌++◌, ◌-◌, ◌≡◌, ◌≤◌}
use Rattle.tl_write.proofs.bytes_out.write_bytes.Given as goal

-- the bytes written so far are the beginning of the text, and no write failed
abbrev pub invariant-loop-written : goal.invariant-loop-written
invariant-loop-written g l = record {
  within : l.written ≤ length l.bytes;
  failures : g.W.Sink.failed l.w ≡ g.W.Sink.failed l.initial.w;
  out : (held : List ℕ) → g.W.Sink.holds l.initial.w held → g.W.Sink.holds l.w (held ++ take l.written l.bytes);
}

abbrev pub decreases-loop-written : goal.decreases-loop-written
decreases-loop-written g l = length l.bytes - l.written
