use Rattle.canonical_lines.proofs.Common.{Type2, refl}
use Rattle.canonical_lines.proofs.RowLaws.{tested_is_spelt}
use Rattle.canonical_lines.proofs.canonical.Rec2CanonicalLine.is_canonical.Goals as goal

pub returns-then-is_number : goal.returns-then-is_number
returns-then-is_number c points =
    tested_is_spelt Type2 c.args.line.now c.requires
    (c.if-not-is_number.ensures refl, (c.is_number-2.ensures c.if-is_number.true, (c.are_places.ensures points, tt)))
