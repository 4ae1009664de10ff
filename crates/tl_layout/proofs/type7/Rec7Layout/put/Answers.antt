-- The columns were written one after another, following the record type and the version.
use Rattle.tl_layout.proofs.Common.{Type7, [], ap, arith, lat_text, long_text, refl, ◌∙◌, ◌∷◌}
use Rattle.tl_layout.proofs.Writes.{group_behind, whole, ◌▸◌}
use Rattle.tl_layout.specs.RecordTypes.{fields_spelling}
use Rattle.tl_layout.proofs.type7.Rec7Layout.put.Goals as goal

pub returns-clause-spelling : goal.returns-clause-spelling
unfolding fields_spelling
returns-clause-spelling c =
    let r = c.self.inside in
    let laname = c.write_head.ensures ▸ (c.write_text.ensures, refl) ▸ (c.write_number.ensures, refl)
    ▸ (c.write_text-2.ensures, refl) ▸ (c.write_text-3.ensures, refl) ▸ (c.write_text-4.ensures, refl) in
    let point = group_behind (long_text r.body.point ∷ lat_text r.body.point ∷ []) c.write_point_or_blanks.ensures laname in
    whole 74 c.write_blanks.new.out _ (omega arith) (point ▸ (c.write_blanks.ensures, refl)) ∙ ap (fields_spelling Type7) c.self.view_is
