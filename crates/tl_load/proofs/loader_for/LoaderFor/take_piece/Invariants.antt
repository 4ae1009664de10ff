use Rattle.tl_load.proofs.Common.{IsSamePart, LeavesRestOnOk, Lifts, Ok, bytes_used, length, ◌+◌, ◌≤◌}
use Rattle.tl_load.proofs.loader_for.LoaderFor.take_piece.Given as goal

abbrev pub invariant-loop-end : goal.invariant-loop-end
invariant-loop-end g l = record {
  leaves : Lifts {T = Unit {0}} g.K.Collector.holds (LeavesRestOnOk l.piece l.rest) l.initial.self (Ok tt) l.self;
  same_part : IsSamePart l.initial.self l.self;
  used : bytes_used l.initial.self + length l.piece ≤ bytes_used l.self + length l.rest;
}

abbrev pub decreases-loop-end : goal.decreases-loop-end
decreases-loop-end g l = length l.rest
