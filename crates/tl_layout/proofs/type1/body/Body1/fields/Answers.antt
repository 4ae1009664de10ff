-- The columns were written after fifteen blanks, and the fields are read from there.
use Rattle.tl_layout.proofs.Common.{AreAllowed, ap, arith, blanks_are_text, body_1_at, pair_of_texts, subst, sym, ◌∙◌}
use Rattle.tl_layout.proofs.Writes.{whole}
use Rattle.tl_layout.proofs.type1.body.Body1.fields.Goals as goal

pub at-requires-clause-allowed : goal.at-requires-clause-allowed
at-requires-clause-allowed c =
    subst AreAllowed (sym (whole 190 c.write_text.new.out _ (omega arith) c.write_text.ensures))
    (pair_of_texts 15 175 _ _ (blanks_are_text 15) c.self.invariant).allowed

pub returns : goal.returns
returns c =
    c.at.ensures ∙ (ap body_1_at (whole 190 c.write_text.new.out _ (omega arith) c.write_text.ensures) ∙ c.self.view_is)
