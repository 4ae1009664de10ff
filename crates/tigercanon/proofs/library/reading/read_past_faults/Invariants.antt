use Rattle.tigercanon.proofs.Common.{Gave, IfSome, IsNotDevice, List, RoseBy, WasFedInto, [], most_records, ℕ, ◌≡◌}
use Rattle.tigercanon.proofs.library.reading.read_past_faults.Given as goal

-- the loader was fed the bytes of this many reads of the source, and the source hasn't failed
abbrev pub invariant-loop-made : goal.invariant-loop-made
invariant-loop-made g l = record {
  fed : (taken : List ℕ) × Gave g.R.Source.remaining g.R.Source.given l.initial.source l.source taken
      × ((closed : List (List ℕ)) → WasFedInto g.K.Collector.holds most_records l.initial.loader closed []
      → WasFedInto g.K.Collector.holds most_records l.loader closed taken);
  parts : l.loader.parts ≡ l.initial.loader.parts;
  no_device : IfSome l.loader.fault IsNotDevice;
  failures : g.R.Source.failed l.source ≡ g.R.Source.failed l.initial.source;
  reads : RoseBy l.made (g.R.Source.reads l.initial.source) (g.R.Source.reads l.source);
}
