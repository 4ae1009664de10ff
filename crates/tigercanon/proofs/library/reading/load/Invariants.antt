use Rattle.tigercanon.proofs.Common.{None, WasFedInto, [], map, most_records, take, ◌≡◌}
use Rattle.tigercanon.proofs.library.reading.load.Given as goal

-- the loader was fed the parts so far, each is closed, and no fault is recorded
abbrev pub invariant-loop-part : goal.invariant-loop-part
invariant-loop-part g l = WasFedInto g.K.Collector.holds most_records l.loader (map (λ p. p.now) (take l.part-index l.parts)) []
    × (l.loader.fault ≡ None) × (l.loader.parts ≡ l.part-index)
