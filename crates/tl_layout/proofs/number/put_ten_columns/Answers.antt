use Rattle.tl_layout.proofs.Common.{ap, arith, cases_lt, length-set, slice_set, ℕ, ◌%◌, ◌+◌, ◌/◌, ◌<◌, ◌∙◌, ◌∷◌, ◌≡◌, ◌≤◌}
use Rattle.tl_layout.proofs.Columns.{first_of_ten, ten_columns_high, ten_columns_low, two_then_rest}
use Rattle.tl_layout.proofs.number.put_ten_columns.Goals as goal
use Rattle.tl_layout.proofs.number.put_ten_columns.Goals.{else-high-lt10, then-high-lt10}

pub returns-then-number-lt100000000 : goal.returns-then-number-lt100000000
returns-then-number-lt100000000 c =
    let out = c.args.out.now in
    let n = c.args.number in
    let len = length-set (slice_set out 0 32) 1 32 ∙ length-set out 0 32 in
    two_then_rest out 32 32 _ c.put_eight_columns.new.out (omega arith) (omega arith)
    ∙ ap (λ l. 32 ∷ 32 ∷ l) c.put_eight_columns.ensures ∙ ten_columns_low n c.if-number-lt100000000.true

pub returns-after-high-lt10 : goal.returns-after-high-lt10
returns-after-high-lt10 c =
    let out = c.args.out.now in
    let n = c.args.number in
    let first : ℕ = c.if-high-lt10.out in
    let second = 48 + n / 100000000 % 10 in
    let blank : n / 100000000 < 10 → first ≡ 32 = λ lt. elim c.if-high-lt10.branch [
      | then-high-lt10 w ↦ w.out-is
      | else-high-lt10 w ↦ absurd (omega arith)
    ] in
    let digit : 10 ≤ n / 100000000 → first ≡ 48 + n / 100000000 / 10 = λ ge. elim c.if-high-lt10.branch [
      | then-high-lt10 w ↦ absurd (omega arith)
      | else-high-lt10 w ↦ w.out-is
    ] in
    let len = length-set (slice_set out 0 first) 1 second ∙ length-set out 0 first in
    let first_is = first_of_ten n first (omega arith) (cases_lt (n / 100000000) 10) blank digit in
    two_then_rest out first second _ c.put_eight_digits.new.out (omega arith) (omega arith)
    ∙ ap (λ l. first ∷ second ∷ l) c.put_eight_digits.ensures
    ∙ ten_columns_high n first (let some = c.if-number-lt100000000.false in omega arith) first_is
