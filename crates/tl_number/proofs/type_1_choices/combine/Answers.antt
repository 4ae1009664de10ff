use Rattle.std.proofs.Common.{List, [], arith, get_or, length, ℕ, ◌*◌, ◌+◌, ◌<◌, ◌∷◌}
use Rattle.county_chart.specs.Choices.{most_choices}
use Rattle.std.specs.List.{AllByRecursion}
use Rattle.std.proofs.lemmas.Option.{slice_get-get_or}
use Rattle.ordered_lists.proofs.Lists.ByPlace.{all-get}
use Rattle.tl_number.proofs.type_1_choices.combine.Goals as goal

-- a digit and each of the numbers make up a number below the most choices
few_at : (ways : ℕ) (digits numbers : List ℕ) → AllByRecursion (λ digit. AllByRecursion (λ number. digit * ways + number < most_choices) numbers) digits
    → (i : ℕ) → i < length digits → AllByRecursion (λ number. get_or digits i 0 * ways + number < most_choices) numbers
few_at ways digits numbers few i l = all-get (λ digit. AllByRecursion (λ number. digit * ways + number < most_choices) numbers) digits i (get_or digits i 0) few
    (slice_get-get_or digits i 0 l)

-- so the digit itself does
few_before : (first : ℕ) (numbers : List ℕ) → 0 < length numbers → AllByRecursion (λ number. first + number < most_choices) numbers → first < most_choices
few_before first [] some few = absurd (omega (arith, some))
few_before first (number ∷ numbers) some few = omega (arith, few.0)

pub overflow_mul-digit : goal.overflow_mul-digit
overflow_mul-digit c =
    let first : ℕ = get_or c.args.digits.now c.loop-digit.digit-index 0 * c.args.ways in
    let small : first < most_choices = few_before first c.args.numbers.now c.requires.some
    (few_at c.args.ways c.args.digits.now c.args.numbers.now c.requires.few c.loop-digit.digit-index (omega (arith, c.loop-digit-test.true))) in
    omega (arith, small)

pub add_numbers-requires : goal.add_numbers-requires
add_numbers-requires c = few_at c.args.ways c.args.digits.now c.args.numbers.now c.requires.few c.loop-digit.digit-index (omega (arith, c.loop-digit-test.true))
