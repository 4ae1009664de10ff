use Rattle.std.proofs.Common.{List, Ok, length, ℕ, ◌+◌, ◌-◌, ◌≡◌, ◌≤◌}
use Rattle.tl_load.proofs.Common.{Gave, IsSamePart, Lifts, Takes, bytes_used, most_taken, most_unfinished}
use Rattle.tl_load.proofs.loader_for.LoaderFor.read_to_end.Given as goal

abbrev pub invariant-loop-count : goal.invariant-loop-count
invariant-loop-count g l = record {
  reads : (taken : List ℕ) × Gave g.R.Source.remaining g.R.Source.given l.initial.source l.source taken
      × (length taken + bytes_used l.initial.self ≤ bytes_used l.self)
      × Lifts {T = Unit {0}} g.K.Collector.holds (Takes taken) l.initial.self (Ok tt) l.self;
  same_part : IsSamePart l.initial.self l.self;
  most : bytes_used l.self ≤ most_taken;
  short : length l.self.unfinished ≤ most_unfinished;
  failures : g.R.Source.failed l.source ≡ g.R.Source.failed l.initial.source;
}

abbrev pub decreases-loop-count : goal.decreases-loop-count
decreases-loop-count g l = most_taken - bytes_used l.self
