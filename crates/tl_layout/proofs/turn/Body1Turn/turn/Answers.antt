-- The turned content was written after fifteen blanks, and those columns are kept.
use Rattle.tl_layout.proofs.Common.{AreAllowed, ap, arith, blanks, blanks_are_text, body_1_at, body_1_texts, body_turned_fits, columns_are_text, fields_again, joined-before, pair_of_texts, subst, sym, turned_body, ◌∙◌}
use Rattle.tl_layout.proofs.Writes.{whole}
use Rattle.tl_layout.proofs.turn.Body1Turn.turn.Goals as goal

pub at-requires-clause-allowed : goal.at-requires-clause-allowed
at-requires-clause-allowed c =
    let body = turned_body c.args.self.now in
    let written = whole 190 c.put_turned.new.out _ (omega arith) c.put_turned.ensures ∙ joined-before (blanks 15) (body_1_texts body) in
    subst AreAllowed (sym written)
    (pair_of_texts 15 175 _ _ (blanks_are_text 15) (columns_are_text body (body_turned_fits c.args.self.now c.show_fit.ensures))).allowed

pub returns : goal.returns
returns c =
    let body = turned_body c.args.self.now in
    let written = whole 190 c.put_turned.new.out _ (omega arith) c.put_turned.ensures ∙ joined-before (blanks 15) (body_1_texts body) in
    c.at.ensures ∙ (ap body_1_at written ∙ fields_again body (body_turned_fits c.args.self.now c.show_fit.ensures))
