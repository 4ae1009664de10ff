use Rattle.canonical_lines.proofs.Common.{Type5}
use Rattle.canonical_lines.proofs.RowLaws.{tested_is_spelt}
use Rattle.canonical_lines.proofs.canonical.Rec5CanonicalLine.is_canonical.Goals as goal

pub returns : goal.returns
returns c feat =
    tested_is_spelt Type5 c.args.line.now c.requires
    (c.is_number.ensures feat, tt)
