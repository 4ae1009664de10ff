use Rattle.canonical_lines.proofs.Common.{sym}
use Rattle.canonical_lines.proofs.PointTexts.{no_point_of, some_point_of}
use Rattle.canonical_lines.proofs.point.is_point_or_none.Goals as goal

pub returns-then-is_blank : goal.returns-then-is_blank
returns-then-is_blank c always = no_point_of c.args.columns.now c.requires (sym c.if-is_blank.ensures)

pub returns-else-is_blank : goal.returns-else-is_blank
returns-else-is_blank c point = some_point_of c.args.columns.now (c.is_point.ensures point)
