-- The columns were written one after another, following the record type and the version.
use Rattle.tl_layout.proofs.Common.{Type2, ap, arith, number_text, places_text, point_place_text, refl, ◌∙◌}
use Rattle.tl_layout.proofs.Writes.{behind, whole, ◌▸◌}
use Rattle.tl_layout.specs.RecordTypes.{fields_spelling}
use Rattle.tl_layout.proofs.type2.Rec2Layout.put.Goals as goal

pub returns-clause-spelling : goal.returns-clause-spelling
unfolding fields_spelling
returns-clause-spelling c =
    let rtsq = c.write_head.ensures ▸ (c.write_number.ensures, refl) ▸ (c.write_number-2.ensures, ap (number_text 3) c.from.ensures) in
    let points = behind c.write_places.ensures rtsq (ap (places_text point_place_text 10) c.as_slice.ensures.value) in
    whole 208 c.write_places.new.out _ (omega arith) points ∙ ap (fields_spelling Type2) c.self.view_is
