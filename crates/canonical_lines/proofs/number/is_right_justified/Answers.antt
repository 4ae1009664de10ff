use Rattle.canonical_lines.proofs.Common.{Each1-get_or, ap, arith, bit_and, bitmask_splat, eqb, eqb-true, is_blank, length, lit≤, ltb, sym, w8, ℕ, ◌+◌, ◌<◌, ◌^◌, ◌∙◌, ◌≡◌}
use Rattle.canonical_lines.proofs.Masks.{above_zero, above_zero_len, above_zero_mask, blanks_of, digits_of, in_common, is_low, masks_low, right_justified, zeros_of}
use mir.Val.{Fits}
use Rattle.canonical_lines.proofs.number.is_right_justified.Goals as goal

pub overflow_add-blanks : goal.overflow_add-blanks
overflow_add-blanks c =
    let bytes = c.args.bytes in
    let long : length bytes ≡ 8 = c.fits-bytes.0 in
    let blanks = bitmask_splat w8 eqb bytes 8 32 long (lit≤ tt) in
    let digits = bitmask_splat w8 ltb (above_zero bytes) 8 10 (above_zero_len bytes long) (lit≤ tt) ∙ above_zero_mask bytes long in
    let few : blanks_of bytes < 256 = masks_low is_blank bytes long in
    let low : digits_of bytes < 256 = masks_low is_low bytes long in
    omega arith

pub returns-then-blanks-eq0 : goal.returns-then-blanks-eq0
returns-then-blanks-eq0 c nonzero =
    let bytes = c.args.bytes in
    let long : length bytes ≡ 8 = c.fits-bytes.0 in
    let blanks = bitmask_splat w8 eqb bytes 8 32 long (lit≤ tt) in
    let zeros = bitmask_splat w8 eqb bytes 8 48 long (lit≤ tt) in
    let digits = bitmask_splat w8 ltb (above_zero bytes) 8 10 (above_zero_len bytes long) (lit≤ tt) ∙ above_zero_mask bytes long in
    let sum = c.if-blanks-digits-ne255.false in
    let all : blanks_of bytes + digits_of bytes + 1 ≡ 256 = omega arith in
    right_justified bytes (λ k lt. (Each1-get_or (λ b. Fits w8 b) bytes k 0 lt c.fits-bytes.1).fits)
    (all ∙ ap (λ (n : ℕ). 2 ^ n) (sym long))
    (sym (ap (λ (m : ℕ). bit_and m (m + 1)) blanks) ∙ c.if-blanks-eq0.true)
    (in_common (zeros_of bytes) (blanks_of bytes) _ _ zeros blanks (eqb-true _ _ nonzero))
