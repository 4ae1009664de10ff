-- Contents are the same exactly if their columns are.
use Rattle.tl_layout.proofs.Common.{ap, body_1_of, body_1_text, comparing, rules, same_from_decides, slice_eq-Decides, sym, text_of_columns, unsigned_Decides, ◌∙◌}
use Rattle.tl_layout.proofs.type1.body.Body1PartialEq.eq.Goals as goal

pub returns : goal.returns
returns c =
    let a = c.self.inside.columns in
    let b = c.other.inside.columns in
    let columns = slice_eq-Decides unsigned_Decides a b c.eq.result c.eq.ensures in
    same_from_decides c.eq.result _ (
      λ same. sym c.self.view_is ∙ (ap body_1_of (columns.0 same) ∙ c.other.view_is),
      λ same. columns.1 (sym (text_of_columns a c.self.invariant)
          ∙ (ap body_1_text (c.self.view_is ∙ (same ∙ sym c.other.view_is)) ∙ text_of_columns b c.other.invariant)),
    ) (search (comparing, rules))
