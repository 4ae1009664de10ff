-- The columns were written one after another, following the record type and the version.
use Rattle.tl_layout.proofs.Common.{Type5, ap, arith, name_texts, number_text, refl, ◌∙◌}
use Rattle.tl_layout.proofs.Writes.{group_behind, whole, ◌▸◌}
use Rattle.tl_layout.specs.RecordTypes.{fields_spelling}
use Rattle.tl_layout.proofs.type5.Rec5Layout.put.Goals as goal

pub returns-clause-spelling : goal.returns-clause-spelling
unfolding fields_spelling
returns-clause-spelling c =
    let feat = c.write_head.ensures ▸ (c.write_text.ensures, refl) ▸ (c.write_number.ensures, ap (number_text 8) c.from.ensures) in
    whole 56 c.put.new.out _ (omega arith) (group_behind (name_texts c.self.inside.body.name) c.put.ensures feat)
    ∙ ap (fields_spelling Type5) c.self.view_is
