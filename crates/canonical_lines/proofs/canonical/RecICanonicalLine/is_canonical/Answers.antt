use Rattle.canonical_lines.proofs.Common.{TypeI, refl}
use Rattle.canonical_lines.proofs.RowLaws.{tested_is_spelt}
use Rattle.canonical_lines.proofs.canonical.RecICanonicalLine.is_canonical.Goals as goal

pub returns-then-are_numbers_or_none : goal.returns-then-are_numbers_or_none
returns-then-are_numbers_or_none c polygons =
    let nodes = c.are_numbers_or_none.ensures c.if-are_numbers_or_none.true in
    let sides = c.are_numbers_or_none-then-are_numbers_or_none.ensures polygons in
    tested_is_spelt TypeI c.args.line.now c.requires
    (c.if-not-is_number.ensures refl, (nodes.0, (nodes.1, (sides.0, (sides.1, tt)))))
