use Rattle.std.proofs.Common.{refl}
use Rattle.tl_layout.specs.Type1Groups.{body_1_at}
use Rattle.tl_layout.proofs.type1.fields.Body1Fields.at.Goals as goal

pub returns : goal.returns
unfolding body_1_at
returns c =
    rw (
      c.text_at.ensures,
      c.text_at-2.ensures,
      c.at.ensures,
      c.text_at-3.ensures,
      c.at-2.ensures,
      c.at-3.ensures,
      c.at-4.ensures,
      c.text_at-4.ensures,
      c.text_at-5.ensures,
      c.at-5.ensures,
    ) refl
