use Rattle.canonical_lines.proofs.Common.{arith, inl, inr}
use Rattle.canonical_lines.proofs.NumberTexts.{is_empty, plain_text_of}
use Rattle.canonical_lines.proofs.number.is_plain.Goals as goal

pub returns-in-empty : goal.returns-in-empty
returns-in-empty c always =
    plain_text_of c.args.columns.now _ c.trim_start.ensures.value (inl (is_empty c.trim_start.result.now (omega arith)))

pub returns-in_default : goal.returns-in_default
returns-in_default c numeral = plain_text_of c.args.columns.now _ c.trim_start.ensures.value (inr (c.is_numeral.ensures numeral))
