use Rattle.tl_load.specs.Choice.{tiger}
use Rattle.tl_load.proofs.RecordLines.{fault_of_judged, judged_of_fault, judged_of_record, record_of_judged}
use Rattle.tl_load.proofs.laws.line_is_judged_as_its_record.Goals as goal

pub returns-clause-has_record : goal.returns-clause-has_record
unfolding tiger
returns-clause-has_record c line found = (record_of_judged line found, judged_of_record line found)

pub returns-clause-has_fault : goal.returns-clause-has_fault
unfolding tiger
returns-clause-has_fault c line fault = (fault_of_judged line fault, judged_of_fault line fault)
