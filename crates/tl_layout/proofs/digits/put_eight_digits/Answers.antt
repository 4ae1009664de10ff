use Rattle.tl_layout.proofs.Common.{arith, ◌%◌, ◌/◌, ◌∙◌}
use Rattle.tl_layout.proofs.Columns.{eight_digits_text}
use Rattle.tl_layout.proofs.WrittenWords.{digits_shown}
use Rattle.tl_layout.proofs.digits.put_eight_digits.Goals as goal

pub overflow_add-text : goal.overflow_add-text
overflow_add-text c = let is = c.digits_in_word-text.ensures in let below = c.requires.below in omega arith

pub returns : goal.returns
returns c =
    let n = c.args.number in
    let below = c.requires.below in
    c.copy_from_slice.ensures.after ∙ c.to_le_bytes.ensures
    ∙ digits_shown (n / 10000000) (n / 1000000 % 10) (n / 100000 % 10) (n / 10000 % 10) (n / 1000 % 10) (n / 100 % 10) (n / 10 % 10) (n % 10)
    c.digits_in_word-text.result (omega (arith, below)) (omega (arith, below)) (omega (arith, below)) (omega (arith, below)) (omega (arith, below)) (omega (arith, below)) (omega (arith, below)) (omega (arith, below))
    (c.digits_in_word-text.ensures ∙ omega arith)
    ∙ eight_digits_text n below
