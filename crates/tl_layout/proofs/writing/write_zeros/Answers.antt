use Rattle.std.proofs.Common.{List, ap, append_assoc, arith, length, pos, sym, take, ℕ, ◌++◌, ◌+◌, ◌-◌, ◌∙◌, ◌≡◌}
use Rattle.tl_layout.specs.FieldTexts.{coordinate_text, digits_text}
use Rattle.tl_layout.proofs.Writes.{columns_written}
use Rattle.tl_layout.proofs.writing.write_zeros.Goals as goal

pub returns : goal.returns
unfolding coordinate_text digits_text
returns c =
    let before = take (c.args.column - 1) c.args.out.now in
    let written = c.copy_from_slice.ensures.after in
    let len : length c.copy_from_slice.new.self ≡ 19 = ap length written in
    columns_written c.args.column (c.args.column + 18) _ c.args.out.now c.copy_from_slice.new.self (omega arith) (omega arith)
    ∙ ap (λ (l : List ℕ). before ++ l) written ∙ sym (append_assoc before (coordinate_text 9 (pos 0)) (coordinate_text 8 (pos 0)))
