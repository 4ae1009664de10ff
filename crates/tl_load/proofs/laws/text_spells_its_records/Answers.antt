use Rattle.tl_load.proofs.TextLemmas.{text_spells, text_spells_only}
use Rattle.tl_load.proofs.laws.text_spells_its_records.Goals as goal

pub returns-clause-spells : goal.returns-clause-spells
returns-clause-spells c records h = text_spells records h

pub returns-clause-only : goal.returns-clause-only
returns-clause-only c records others h s = text_spells_only records others h s
