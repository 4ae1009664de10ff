-- The content was written after the number, and the points after both.
use Rattle.tl_layout.proofs.Common.{Type1, ap, body_1_texts, joined, point_texts, ◌∙◌}
use Rattle.tl_layout.proofs.Writes.{group_behind}
use Rattle.tl_layout.specs.RecordTypes.{fields_spelling}
use Rattle.tl_layout.proofs.type1.Rec1Layout.put.Goals as goal

pub returns-clause-spelling : goal.returns-clause-spelling
unfolding fields_spelling
returns-clause-spelling c =
    let r = c.self.inside in
    let body = group_behind (body_1_texts r.body) c.put.ensures c.put_number.ensures in
    c.put_points.ensures ∙ (ap (λ before. joined (joined before (point_texts r.start)) (point_texts r.end)) body ∙ ap (fields_spelling Type1) c.self.view_is)
