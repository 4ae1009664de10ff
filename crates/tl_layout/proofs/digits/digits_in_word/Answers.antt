use Rattle.std.proofs.Common.{arith, refl, ◌<◌, ◌∙◌}
use Rattle.tl_layout.proofs.WrittenWords.{AreParted, hundreds_of, pairs_of, parted, tens_of}
use Rattle.tl_layout.proofs.digits.digits_in_word.Goals as goal
use Rattle.tl_layout.proofs.digits.digits_in_word.Goals.{After-from-low}

parts : (c : After-from-low) → AreParted c.from-high.result c.from-low.result (hundreds_of c.from-high.result c.from-low.result)
    (pairs_of c.from-high.result c.from-low.result) (tens_of c.from-high.result c.from-low.result)
parts c =
    let high : c.from-high.result < 10000 = (let below = c.requires in let is = c.from-high.ensures in omega arith) in
    let low : c.from-low.result < 10000 = (let is = c.from-low.ensures in omega arith) in
    parted c.from-high.result c.from-low.result _ _ _ high low refl refl refl

pub overflow_sub-pairs : goal.overflow_sub-pairs
overflow_sub-pairs c = (parts c).hundredfold

pub overflow_mul-tens : goal.overflow_mul-tens
overflow_mul-tens c = record { fits = (parts c).tens_fit }

pub overflow_sub-result : goal.overflow_sub-result
overflow_sub-result c = (parts c).tenfold

pub overflow_mul-result-2 : goal.overflow_mul-result-2
overflow_mul-result-2 c = record { fits = (parts c).digits_fit }

pub overflow_add-result : goal.overflow_add-result
overflow_add-result c = record { fits = (parts c).word_fits }

pub returns : goal.returns
returns c =
    let high = c.from-high.ensures in
    let low = c.from-low.ensures in
    (parts c).word ∙ omega (arith, high, low)
