use Rattle.tl_layout.proofs.Common.{Some, and_from, ap, arith, le-leb, true, ℕ, ◌*◌, ◌+◌, ◌-◌, ◌∙◌, ◌≡◌, ◌≤◌}
use Rattle.tl_layout.specs.NumberField.{is_digit}
use Rattle.tl_layout.specs.NumberReading.{number_after}
use Rattle.tl_layout.proofs.number.nine_digits.Goals as goal

pub overflow_add-result : goal.overflow_add-result
overflow_add-result c = let below = c.in-Some.ensures.below in let digit = c.from.ensures in omega arith

digit_is : (first : ℕ) → 48 ≤ first → first ≤ 57 → is_digit first ≡ true
digit_is first low high = and_from _ _ (le-leb 48 first low) (le-leb first 57 high)

pub returns-in-Some-clause-value : goal.returns-in-Some-clause-value
unfolding number_after
returns-in-Some-clause-value c =
    let value : 0 + (c.args.first - 48) ≡ c.from.result = (let is = c.from.ensures in omega arith) in
    rw (digit_is c.args.first (omega arith) (omega arith)) (c.in-Some.ensures.behind (0 + (c.args.first - 48))
    ∙ ap (λ (n : ℕ). Some (n * 100000000 + c.in-Some.value)) value)

pub returns-in-Some-clause-below : goal.returns-in-Some-clause-below
returns-in-Some-clause-below c = let below = c.in-Some.ensures.below in let digit = c.from.ensures in omega arith

pub returns-in-Some-clause-begins : goal.returns-in-Some-clause-begins
returns-in-Some-clause-begins c = digit_is c.args.first (omega arith) (omega arith)
