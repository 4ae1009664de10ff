use Rattle.canonical_lines.proofs.Common.{List, UNUSED, ap, eqb, get_or, same_bytes, sym, ℕ, ◌∙◌}
use Rattle.tl_layout.specs.FieldTexts.{coordinate_text, digits_text}
use Rattle.canonical_lines.proofs.point.is_unused.Goals as goal
use lib.Pointwise.{pointwise}

pub returns-then-columns-eq43-clause-is : goal.returns-then-columns-eq43-clause-is
unfolding coordinate_text digits_text
returns-then-columns-eq43-clause-is c same = same_bytes c.args.columns.now UNUSED (sym c.eq.ensures ∙ same)

pub returns-then-columns-eq43-clause-only : goal.returns-then-columns-eq43-clause-only
unfolding coordinate_text digits_text
returns-then-columns-eq43-clause-only c e = c.eq.ensures ∙ ap (λ (l : List ℕ). pointwise eqb l UNUSED) e

pub returns-else-columns-eq43-clause-only : goal.returns-else-columns-eq43-clause-only
unfolding coordinate_text digits_text
returns-else-columns-eq43-clause-only c e = ap (λ (l : List ℕ). eqb (get_or l 0 0) 43) e
