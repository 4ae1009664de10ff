use Rattle.canonical_lines.proofs.Common.{Type1, refl}
use Rattle.canonical_lines.proofs.RowLaws.{tested_is_spelt}
use Rattle.canonical_lines.proofs.canonical.Rec1CanonicalLine.is_canonical.Goals as goal

pub returns-then-is_point : goal.returns-then-is_point
returns-then-is_point c end =
    tested_is_spelt Type1 c.args.line.now c.requires
    (c.if-not-is_number.ensures refl, (c.is_point.ensures c.if-is_point.true, (c.is_point-then-is_point.ensures end, tt)))
