use Rattle.canonical_lines.proofs.Common.{Type8, sym}
use Rattle.canonical_lines.proofs.RowLaws.{tested_is_spelt}
use Rattle.canonical_lines.proofs.canonical.Rec8CanonicalLine.is_canonical.Goals as goal

pub returns-then-is_number : goal.returns-then-is_number
returns-then-is_number c land =
    tested_is_spelt Type8 c.args.line.now c.requires
    (c.is_number.ensures c.if-is_number.true, (c.is_number-then-is_number.ensures land, (sym c.if-not-is_blank.ensures, tt)))
