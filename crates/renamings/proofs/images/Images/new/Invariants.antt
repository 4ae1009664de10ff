use Rattle.std.proofs.Common.{List, length, ◌++◌, ◌≡◌}
use Rattle.ordered_lists.specs.Entries.{value_under}
use Rattle.indexmap.specs.IndexMap.{get}
use Rattle.renamings.proofs.images.Images.new.Given as goal

abbrev pub invariant-loop-last : goal.invariant-loop-last
invariant-loop-last g l = record {
  done : List (g.row.K.Denot × g.row.K.Denot);
  cut : l.pairs ≡ l.rest ++ done;
  stated : (old : g.row.K.Denot) → get g.K.PartialEq.eq l.table old ≡ value_under g.K.Ord.cmp old done;
}

abbrev pub decreases-loop-last : goal.decreases-loop-last
decreases-loop-last g l = length l.rest
