use Rattle.tl_load.proofs.Common.{tiger}
use Rattle.tl_load.proofs.CutParts.{cut_lines, cut_spells, empty_fault, empty_lines, empty_spells}
use Rattle.tl_load.proofs.laws.parts_may_be_cut_between_lines.Goals as goal

pub returns-clause-cut : goal.returns-clause-cut
returns-clause-cut c before later text rest records = cut_spells tiger before later text rest records

pub returns-clause-empty : goal.returns-clause-empty
returns-clause-empty c before later records = empty_spells tiger before later records

pub returns-clause-fault : goal.returns-clause-fault
returns-clause-fault c limit parts fault = empty_fault tiger limit parts fault

pub returns-clause-lines : goal.returns-clause-lines
returns-clause-lines c = cut_lines

pub returns-clause-empty_lines : goal.returns-clause-empty_lines
returns-clause-empty_lines c = empty_lines
