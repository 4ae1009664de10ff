use Rattle.tl_layout.proofs.Common.{IfSome, Option, Some, ap, arith, bit_and, bitmask_splat, eqb, length-map, lit≤, map, mask_l-lt, number_after, replicate, subst, sym, tops_compared, w8, zip2_splat, ℕ, ◌+◌, ◌<◌, ◌∙◌, ◌≡◌}
use Rattle.tl_layout.proofs.Words.{gives_number, selected}
use Rattle.tl_layout.specs.NumberField.{is_blank}
use Rattle.tl_layout.specs.NumberReading.{number_of}
use lib.Lanes.{mask_l, sel_l}
use Rattle.tl_layout.proofs.number.right_justified.Goals as goal

pub overflow_add-mask : goal.overflow_add-mask
overflow_add-mask c =
    let v = c.args.bytes in
    let mask = bitmask_splat w8 eqb v 8 32 c.fits-bytes.0 (lit≤ tt) in
    let low : mask_l (map (λ b. eqb b 32) v) < 256 = rw (length-map v (λ b. eqb b 32), c.fits-bytes.0) at (mask_l-lt (map
    (λ b. eqb b 32) v)) in
    omega arith

pub returns : goal.returns
unfolding number_of
returns c =
    let v = c.args.bytes in
    let mask = bitmask_splat w8 eqb v 8 32 c.fits-bytes.0 (lit≤ tt) in
    let in_front : bit_and (mask_l (map is_blank v)) (mask_l (map is_blank v) + 1) ≡ 0 =
    sym (ap (λ (m : ℕ). bit_and m (m + 1)) mask) ∙ c.if-mask-ne0.false in
    let zeros = ap (λ ms. sel_l ms (replicate 8 48) v) (tops_compared w8 eqb v (replicate 8 32) ∙ zip2_splat eqb v 8 32 c.fits-bytes.0)
    ∙ selected is_blank 8 48 v c.fits-bytes.0 in
    let P : Option ℕ → Type 0 = λ found. IfSome c.eight_digits.result (λ number. found ≡ Some number) in
    subst P (ap (number_after 0) zeros ∙ gives_number v in_front) c.eight_digits.ensures.value
