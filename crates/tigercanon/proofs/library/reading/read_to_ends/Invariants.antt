use Rattle.tigercanon.proofs.Common.{IfSome, IsNotDevice, NoneFailed, ◌≤◌}
use Rattle.tigercanon.proofs.ReadParts.{HasRead}
use Rattle.tigercanon.proofs.library.reading.read_to_ends.Given as goal

-- the sources so far were read to their ends, none has failed, and the loader was fed their bytes
abbrev pub invariant-loop-source : goal.invariant-loop-source
invariant-loop-source g l = record {
  read : HasRead g.R.Source.remaining g.R.Source.given g.K.Collector.holds l.initial.sources l.sources l.source-index l.loader;
  none_failed : NoneFailed g.R.Source.failed l.initial.sources l.sources;
  no_device : IfSome l.loader.fault IsNotDevice;
  counted : l.loader.parts ≤ l.source-index;
}
