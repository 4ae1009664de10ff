-- Eight digits in a word make the same number as one after another.
use Rattle.tl_layout.proofs.Common.{Some, arith, bit_and, get_or, number_after, refl, ℕ, ◌*◌, ◌+◌, ◌-◌, ◌/◌, ◌<◌, ◌^◌, ◌∙◌, ◌≡◌, ◌≤◌}
use Rattle.tl_layout.proofs.Words.{IsDigitOf, digit_of, digits_in_word, eight_digits_below, eight_in_word, number_of_eight, number_with, word_of}
use Rattle.tl_layout.proofs.number.eight_digits.Goals as goal
use Rattle.tl_layout.proofs.number.eight_digits.Goals.{After-from_le_bytes-ones}

abbrev value_at : After-from_le_bytes-ones → ℕ → ℕ
value_at c k = get_or c.args.bytes k 0 - 48

digit_at : (c : After-from_le_bytes-ones) → (k : ℕ) → k < 8 → IsDigitOf (get_or c.args.bytes k 0) (value_at c k)
digit_at c k lt = digit_of (get_or c.args.bytes k 0) (c.are_digits.ensures.0 c.if-not-are_digits.false k lt)

below : (c : After-from_le_bytes-ones) → (k : ℕ) → k < 8 → value_at c k < 10
below c k lt = (digit_at c k lt).below

-- the word consists of the digits' bytes
word_is : (c : After-from_le_bytes-ones) → c.from_le_bytes-ones.result ≡ word_of (λ k. 48 + value_at c k)
word_is c =
    rw (
      ← (digit_at c 0 (omega arith)).is,
      ← (digit_at c 1 (omega arith)).is,
      ← (digit_at c 2 (omega arith)).is,
      ← (digit_at c 3 (omega arith)).is,
      ← (digit_at c 4 (omega arith)).is,
      ← (digit_at c 5 (omega arith)).is,
      ← (digit_at c 6 (omega arith)).is,
      ← (digit_at c 7 (omega arith)).is,
    )
    (c.from_le_bytes-ones.ensures ∙ omega arith)

in_word : (c : After-from_le_bytes-ones) → (c.from_le_bytes-ones.result - 3472328296227680304 ≡ word_of (value_at c))
    × (3472328296227680304 ≤ c.from_le_bytes-ones.result) × (11 * (c.from_le_bytes-ones.result - 3472328296227680304) < 2 ^ 64)
in_word c = digits_in_word (value_at c) (below c) c.from_le_bytes-ones.result (word_is c)

pub overflow_sub-ones : goal.overflow_sub-ones
overflow_sub-ones c = (in_word c).1

pub overflow_mul-pairs : goal.overflow_mul-pairs
overflow_mul-pairs c = let fits = (in_word c).2 in omega arith

pub overflow_add-pairs : goal.overflow_add-pairs
overflow_add-pairs c = let fits = (in_word c).2 in omega arith

number_is : (c : After-from_le_bytes-ones) → (number before all : ℕ) → number ≡ number_with (value_at c) → all ≡ before * 100000000 + number
    → number_after before c.args.bytes ≡ Some all
number_is c number before all is whole =
    number_of_eight before c.args.bytes (value_at c) c.fits-bytes.0 (digit_at c) all (rw (← is) whole)

value_is : (c : After-from_le_bytes-ones) → (pairs fours : ℕ)
    → pairs ≡ bit_and (10 * (c.from_le_bytes-ones.result - 3472328296227680304) +
    (c.from_le_bytes-ones.result - 3472328296227680304) / 256) 71777214294589695
    → fours ≡ bit_and (100 * pairs + pairs / 65536) 281470681808895
    → bit_and (10000 * fours + fours / 4294967296) 4294967295 ≡ number_with (value_at c)
value_is c pairs fours p q = eight_in_word (value_at c) (below c) _ pairs fours (in_word c).0 p q

pub returns-clause-value : goal.returns-clause-value
returns-clause-value c = number_is c _ 0 _ (value_is c _ _ refl refl) (omega arith)

pub returns-clause-behind : goal.returns-clause-behind
returns-clause-behind c before = number_is c _ before _ (value_is c _ _ refl refl) refl

pub returns-clause-below : goal.returns-clause-below
returns-clause-below c = rw (value_is c _ _ refl refl) (eight_digits_below (value_at c) (below c))

pub returns-clause-begins : goal.returns-clause-begins
returns-clause-begins c = (digit_at c 0 (omega arith)).passes
