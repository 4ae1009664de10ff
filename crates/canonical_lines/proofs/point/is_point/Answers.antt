use Rattle.std.proofs.Common.{arith, length, slice_range, take}
use Rattle.canonical_lines.proofs.PointTexts.{point_text_of, two_parts}
use Rattle.canonical_lines.proofs.point.is_point.Goals as goal

pub returns-then-is_longitude : goal.returns-then-is_longitude
returns-then-is_longitude c lat =
    let columns = c.args.columns.now in
    point_text_of (take 10 columns) (slice_range columns 10 (length columns)) columns (two_parts columns (omega arith)) (c.is_longitude.ensures c.if-is_longitude.true)
    (c.is_latitude.ensures lat) (λ e. let used = c.is_unused.ensures.only e in let unused = c.if-is_unused.false in absurd (cc))
