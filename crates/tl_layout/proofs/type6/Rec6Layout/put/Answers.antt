-- The columns were written one after another, following the record type and the version.
use Rattle.tl_layout.proofs.Common.{Type6, ap, arith, number_text, ranges_texts, refl, ◌∙◌}
use Rattle.tl_layout.proofs.Writes.{group_behind, whole, ◌▸◌}
use Rattle.tl_layout.specs.RecordTypes.{fields_spelling}
use Rattle.tl_layout.proofs.type6.Rec6Layout.put.Goals as goal

pub returns-clause-spelling : goal.returns-clause-spelling
unfolding fields_spelling
returns-clause-spelling c =
    let rtsq = c.write_head.ensures ▸ (c.write_number.ensures, refl) ▸ (c.write_number-2.ensures, ap (number_text 3) c.from.ensures) in
    whole 76 c.put.new.out _ (omega arith) (group_behind (ranges_texts c.self.inside.ranges) c.put.ensures rtsq)
    ∙ ap (fields_spelling Type6) c.self.view_is
