use Rattle.canonical_lines.proofs.Common.{Type7, sym}
use Rattle.canonical_lines.proofs.RowLaws.{tested_is_spelt}
use Rattle.canonical_lines.proofs.canonical.Rec7CanonicalLine.is_canonical.Goals as goal

pub returns-then-is_number : goal.returns-then-is_number
returns-then-is_number c point =
    tested_is_spelt Type7 c.args.line.now c.requires
    (c.is_number.ensures c.if-is_number.true, (c.is_point_or_none.ensures point, (sym c.if-not-is_blank.ensures, tt)))
