use Rattle.tl_layout.proofs.Common.{Each1-get_or, ap, arith, bitmask_splat, get_or, length, length-zip2, lit≤, ltb, map, map-map, replicate, sym, unsigned_Decides, w8, zip2_splat, ℕ, ◌%◌, ◌+◌, ◌-◌, ◌^◌, ◌∙◌, ◌≡◌}
use Rattle.tl_layout.proofs.Words.{digit_from, digit_is_low, full_mask, mask_full}
use mir.Val.{Fits}
use lib.Lanes.{mask_l, zip2}
use Rattle.tl_layout.proofs.number.are_digits.Goals as goal

pub returns : goal.returns
returns c =
    let bytes = c.args.bytes in
    let long : length bytes ≡ 8 = c.fits-bytes.0 in
    let from_zero = λ (b : ℕ). (b + (256 - 48)) % 256 in
    let low = λ (b : ℕ). ltb (from_zero b) 10 in
    let less = zip2 (λ a b. (a + (256 - b)) % 256) bytes (replicate 8 48) in
    let less_is : less ≡ map from_zero bytes = zip2_splat (λ a b. (a + (256 - b)) % 256) bytes 8 48 long in
    let lanes : length less ≡ 8 = length-zip2 (λ a b. (a + (256 - b)) % 256) bytes (replicate 8 48) long ∙ long in
    let mask_is = bitmask_splat w8 ltb less 8 10 lanes (lit≤ tt) ∙ ap (λ l. mask_l (map (λ b. ltb b 10) l)) less_is
    ∙ ap mask_l (map-map (λ b. ltb b 10) from_zero bytes) in
    let eight = ap (λ (n : ℕ). 2 ^ n) long in
    let decides = unsigned_Decides _ 255 in (
      λ full k lt.
          digit_from (get_or bytes k 0) (Each1-get_or (λ b. Fits w8 b) bytes k 0 (omega arith) c.fits-bytes.1).fits
          (full_mask low bytes k 0 (ap (λ (n : ℕ). n + 1) (sym mask_is ∙ decides.0 full) ∙ sym eight) (omega arith)),
      λ each.
          let whole = mask_full low bytes (λ k lt. digit_is_low (get_or bytes k 0) (each k (omega arith))) ∙ eight in
          decides.1 (mask_is ∙ omega (arith, whole)),
    )
