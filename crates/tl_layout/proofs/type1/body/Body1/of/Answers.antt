-- The fields were written after fifteen blanks, and the columns after these are kept.
use Rattle.tl_layout.proofs.Common.{List, ap, arith, blanks, body_1_of, body_1_text, body_1_texts, columns_are_text, drop, fields_again, joined-before, take, take_all, ℕ, ◌∙◌, ◌≡◌}
use Rattle.tl_layout.proofs.Writes.{whole}
use Rattle.tl_layout.proofs.type1.body.Body1.of.Goals as goal

pub returns : goal.returns
returns c =
    let fields = c.args.fields.now in
    let written = whole 190 c.put.new.out _ (omega arith) c.put.ensures ∙ joined-before (blanks 15) (body_1_texts fields) in
    let text = columns_are_text fields c.show_fit.ensures in
    let kept : c.from_slice.result ≡ body_1_text fields =
    c.from_slice.ensures
    ∙ (ap (λ (l : List ℕ). take 175 (drop 15 l)) written ∙ take_all 175 (body_1_text fields) (omega (arith, text.len))) in
    ap body_1_of kept ∙ fields_again fields c.show_fit.ensures
