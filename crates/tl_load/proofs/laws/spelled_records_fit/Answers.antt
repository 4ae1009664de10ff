use Rattle.tl_load.proofs.RecordLines.{accepted_within, record_fits, spelled_fit}
use Rattle.tl_load.proofs.laws.spelled_records_fit.Goals as goal

pub returns-clause-line : goal.returns-clause-line
returns-clause-line c line found h = record_fits line found h

pub returns-clause-parts : goal.returns-clause-parts
returns-clause-parts c parts records h = spelled_fit parts records h

pub returns-clause-within : goal.returns-clause-within
returns-clause-within c limit parts records h = accepted_within limit parts records h
