-- The columns were written one after another, following the record type and the version.
use Rattle.tl_layout.proofs.Common.{Type8, ap, arith, refl, ◌∙◌}
use Rattle.tl_layout.proofs.Writes.{whole, ◌▸◌}
use Rattle.tl_layout.specs.RecordTypes.{fields_spelling}
use Rattle.tl_layout.proofs.type8.Rec8Layout.put.Goals as goal

pub returns-clause-spelling : goal.returns-clause-spelling
unfolding fields_spelling
returns-clause-spelling c =
    whole 36 c.write_blanks.new.out _ (omega arith) (c.write_head.ensures ▸ (c.write_text.ensures, refl) ▸ (c.write_text-2.ensures, refl)
    ▸ (c.write_number.ensures, refl) ▸ (c.write_number-2.ensures, refl) ▸ (c.write_blanks.ensures, refl)) ∙ ap (fields_spelling Type8) c.self.view_is
