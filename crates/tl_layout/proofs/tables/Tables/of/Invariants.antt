use Rattle.tl_layout.proofs.Common.{All, FitsRecord, HoldsByType}
use Rattle.tl_layout.proofs.tables.Tables.of.Given as goal

-- the tables hold the records so far, and each record fits
abbrev pub invariant-loop-record : goal.invariant-loop-record
invariant-loop-record l = record {
  held : HoldsByType l.tables l.yielded;
  fits : All FitsRecord l.yielded;
}
