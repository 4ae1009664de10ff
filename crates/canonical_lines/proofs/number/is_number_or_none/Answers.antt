use Rattle.canonical_lines.proofs.Common.{ap, arith, drop_blanks, refl, sym, take_all, two_and_eight, ◌∙◌, ◌≡◌}
use Rattle.canonical_lines.proofs.NumberTexts.{plain_text_of}
use Rattle.canonical_lines.proofs.number.is_number_or_none.Goals as goal
use lib.Lanes.{chunk}

pub returns-in-8 : goal.returns-in-8
returns-in-8 c plain =
    let columns = c.args.columns.now in
    plain_text_of columns (drop_blanks (chunk 0 8 columns)) (ap drop_blanks (take_all 8 columns (omega arith)))
    (c.is_right_justified.ensures plain)

pub returns-in-10 : goal.returns-in-10
returns-in-10 c plain =
    let columns = c.args.columns.now in
    let blanks : drop_blanks columns ≡ drop_blanks (chunk 2 8 columns) =
    ap drop_blanks (two_and_eight columns c.in-10.is) ∙ rw (c.if-columns-eq32.true, c.if-columns-eq32-2.true) refl in
    plain_text_of columns (drop_blanks (chunk 2 8 columns)) (sym blanks) (c.is_right_justified-in-10.ensures plain)
