use Rattle.std.proofs.Common.{None, [], map, take, ◌≡◌}
use Rattle.std.specs.List.{concat}
use Rattle.tl_load.specs.Loaded.{WasFed}
use Rattle.tl_layout.specs.Limits.{most_records}
use Rattle.uses.proofs.pieces.load_pieces.Given as goal

-- the loader was fed the pieces so far into its first part, and has no fault
abbrev pub invariant-loop-piece : goal.invariant-loop-piece
invariant-loop-piece l = record {
  fed : WasFed most_records l.loader [] (concat (map (λ p. p.now) (take l.piece-index l.pieces)));
  fault : l.loader.fault ≡ None;
  parts : l.loader.parts ≡ 0;
}
