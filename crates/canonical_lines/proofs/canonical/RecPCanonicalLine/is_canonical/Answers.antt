use Rattle.canonical_lines.proofs.Common.{TypeP}
use Rattle.canonical_lines.proofs.RowLaws.{tested_is_spelt}
use Rattle.canonical_lines.proofs.canonical.RecPCanonicalLine.is_canonical.Goals as goal

pub returns-then-is_number : goal.returns-then-is_number
returns-then-is_number c point =
    tested_is_spelt TypeP c.args.line.now c.requires
    (c.is_number.ensures c.if-is_number.true, (c.is_point_or_none.ensures point, tt))
