use Rattle.canonical_lines.proofs.Common.{Type6}
use Rattle.canonical_lines.proofs.RowLaws.{tested_is_spelt}
use Rattle.canonical_lines.proofs.canonical.Rec6CanonicalLine.is_canonical.Goals as goal

pub returns-then-is_number : goal.returns-then-is_number
returns-then-is_number c rtsq =
    tested_is_spelt Type6 c.args.line.now c.requires
    (c.is_number.ensures c.if-is_number.true, (c.is_number-then-is_number.ensures rtsq, tt))
