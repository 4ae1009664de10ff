use Rattle.tl_layout.proofs.Common.{arith, ◌%◌, ◌/◌, ◌∙◌}
use Rattle.tl_layout.proofs.Columns.{eight_columns_text}
use Rattle.tl_layout.proofs.WrittenWords.{columns_shown}
use Rattle.tl_layout.proofs.digits.put_eight_columns.Goals as goal

pub returns : goal.returns
returns c =
    let n = c.args.number in
    let below = c.requires.below in
    c.copy_from_slice.ensures.after ∙ c.to_le_bytes.ensures
    ∙ columns_shown (n / 10000000) (n / 1000000 % 10) (n / 100000 % 10) (n / 10000 % 10) (n / 1000 % 10) (n / 100 % 10) (n / 10 % 10) (n % 10)
    c.digits_in_word-digits.result (omega (arith, below)) (omega (arith, below)) (omega (arith, below)) (omega (arith, below)) (omega (arith, below)) (omega (arith, below)) (omega (arith, below)) (omega (arith, below))
    (c.digits_in_word-digits.ensures ∙ omega arith)
    ∙ eight_columns_text n below
