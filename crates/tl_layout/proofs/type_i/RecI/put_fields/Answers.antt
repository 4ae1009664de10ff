-- The columns were written one after another, following the record type and the version.
use Rattle.tl_layout.proofs.Common.{ap, arith, number_text, refl, unwrap_or, ◌∙◌}
use Rattle.tl_layout.proofs.Writes.{behind, whole, ◌▸◌}
use Rattle.tl_layout.specs.RecordTypes.{fields_spelling}
use Rattle.tl_layout.proofs.type_i.RecI.put_fields.Goals as goal

pub returns : goal.returns
unfolding fields_spelling
returns c =
    let tlid = c.write_head.ensures ▸ (c.write_text.ensures, refl) ▸ (c.write_number.ensures, refl) in
    let start_node = behind c.write_number-2.ensures tlid (ap (number_text 10) c.unwrap_or.ensures) in
    let end_node = behind c.write_number-3.ensures start_node (ap (number_text 10) c.unwrap_or-2.ensures) in
    let left_cenid = behind c.write_text-2.ensures end_node c.cenid_text.ensures in
    let left_polyid = behind c.write_number-4.ensures left_cenid
    (ap (number_text 10) (c.unwrap_or-3.ensures ∙ ap (λ n. unwrap_or n 0) c.polyid.ensures.value)) in
    let right_cenid = behind c.write_text-3.ensures left_polyid c.cenid_text-2.ensures in
    let right_polyid = behind c.write_number-5.ensures right_cenid
    (ap (number_text 10) (c.unwrap_or-4.ensures ∙ ap (λ n. unwrap_or n 0) c.polyid-2.ensures.value)) in
    let rs_i3 = right_polyid ▸ (c.write_text-4.ensures, refl) ▸ (c.write_text-5.ensures, refl) ▸ (c.write_text-6.ensures, refl)
    ▸ (c.write_text-7.ensures, refl) ▸ (c.write_text-8.ensures, refl) in
    whole 127 c.write_text-8.new.out _ (omega arith) rs_i3
