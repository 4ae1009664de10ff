use Rattle.tl_layout.proofs.Common.{ap, arith, digits_text, length-set, slice_set, sym, ℕ, ◌%◌, ◌+◌, ◌-◌, ◌/◌, ◌∙◌, ◌∷◌}
use Rattle.tl_layout.proofs.Columns.{last_eight_digits, nine_digits_text}
use Rattle.tl_layout.proofs.Writes.{first_then_rest}
use borrow.Rule.Slice.PartMut.{put_mid}
use Rattle.tl_layout.proofs.coordinate.put_digits.Goals as goal

pub returns-in-8 : goal.returns-in-8
returns-in-8 c = c.put_eight_digits.ensures ∙ last_eight_digits c.args.number ∙ ap (λ (w : ℕ). digits_text w c.args.number) (sym c.in-8.is)

pub returns-in-9 : goal.returns-in-9
returns-in-9 c =
    let out = c.args.out.now in
    let n = c.args.number in
    let first = 48 + n / 100000000 % 10 in
    ap (λ (k : ℕ). put_mid 1 (k - 1) (slice_set out 0 first) c.put_eight_digits-in-9.new.out) (length-set out 0 first)
    ∙ first_then_rest out first c.put_eight_digits-in-9.new.out (omega arith)
    ∙ ap (λ l. first ∷ l) c.put_eight_digits-in-9.ensures ∙ nine_digits_text n ∙ ap (λ (w : ℕ). digits_text w n) (sym c.in-9.is)
