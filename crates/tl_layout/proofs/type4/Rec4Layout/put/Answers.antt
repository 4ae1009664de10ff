-- The columns were written one after another, following the record type and the version.
use Rattle.tl_layout.proofs.Common.{Type4, ap, arith, number_text, places_text, refl, ◌∙◌}
use Rattle.tl_layout.proofs.Writes.{behind, whole, ◌▸◌}
use Rattle.tl_layout.specs.FieldTexts.{number_place_text}
use Rattle.tl_layout.specs.RecordTypes.{fields_spelling}
use Rattle.tl_layout.proofs.type4.Rec4Layout.put.Goals as goal

pub returns-clause-spelling : goal.returns-clause-spelling
unfolding fields_spelling
returns-clause-spelling c =
    let rtsq = c.write_head.ensures ▸ (c.write_number.ensures, refl) ▸ (c.write_number-2.ensures, ap (number_text 3) c.from.ensures) in
    let feats = behind c.write_places.ensures rtsq (ap (places_text number_place_text 5) c.as_slice.ensures.value) in
    whole 58 c.write_places.new.out _ (omega arith) feats ∙ ap (fields_spelling Type4) c.self.view_is
