use Rattle.canonical_lines.proofs.Common.{arith}
use Rattle.canonical_lines.proofs.NumberTexts.{ended_text_of}
use Rattle.canonical_lines.proofs.number.is_number.Goals as goal

pub returns-then-last-ne32 : goal.returns-then-last-ne32
returns-then-last-ne32 c plain =
    let text = c.is_number_or_none.ensures plain in
    ended_text_of c.args.columns.now text.number text.fits text.text (omega arith) c.if-last-ne32.true
