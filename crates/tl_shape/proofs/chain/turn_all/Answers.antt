use Rattle.std.proofs.Common.{ap, arith, sym, ◌∙◌}
use Rattle.tl_layout.specs.Turned.{turned_ranges}
use Rattle.tl_shape.proofs.InPlace.{mapped_next}
use Rattle.tl_shape.proofs.chain.turn_all.Goals as goal

pub loop-entry-preserved : goal.loop-entry-preserved
loop-entry-preserved c =
    mapped_next turned_ranges c.args.ranges.now c.loop-entry.ranges c.loop-entry.entry-index c.entry-item.result c.turn.new.self
    (omega arith) c.loop-entry.invariant c.entry-item.is (c.turn.ensures ∙ ap turned_ranges (sym c.entry-item.is))
