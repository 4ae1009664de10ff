use Rattle.tl_layout.proofs.Common.{All-push, FitsRecord}
use Rattle.tl_layout.proofs.TableSteps.{holds_with}
use Rattle.tl_layout.proofs.tables.Tables.of.Goals as goal

pub loop-record-preserved : goal.loop-record-preserved
loop-record-preserved c = record {
  held = holds_with _ _ _ _ c.loop-record.invariant.held c.in_ok-add.ensures.ok;
  fits = All-push FitsRecord _ _ c.loop-record.invariant.fits c.show_fit.ensures;
}
