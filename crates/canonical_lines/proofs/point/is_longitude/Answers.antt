use Rattle.canonical_lines.proofs.Common.{arith, get_or, length, slice_range}
use Rattle.canonical_lines.proofs.NumberTexts.{begins}
use Rattle.canonical_lines.proofs.PointTexts.{coordinate_text_of, length_behind, nine_digits}
use Rattle.tl_layout.specs.FieldTexts.{digits_text}
use Rattle.canonical_lines.proofs.point.is_longitude.Goals as goal

pub returns-then-are_digits : goal.returns-then-are_digits
unfolding digits_text
returns-then-are_digits c signed =
    let columns = c.args.columns.now in
    coordinate_text_of 9 (get_or columns 0 0) columns (slice_range columns 1 (length columns)) (begins columns (omega arith)) (length_behind columns 9 c.requires)
    (nine_digits columns c.requires (omega arith) (omega arith) (c.are_digits.ensures.0 c.if-are_digits.true)) (c.is_sign.ensures signed)
