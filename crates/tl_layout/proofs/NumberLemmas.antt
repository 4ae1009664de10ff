-- Number fields: the steps of the loops that read and write them.
use Rattle.tl_layout.proofs.Common.{add-one, arith, lit<, pow-le-pow_right, pow-succ', ℕ, ◌*◌, ◌+◌, ◌<◌, ◌^◌}

-- a number with one more digit is below a power of ten one higher
pub digit_more : (v d i : ℕ) → v < 10 ^ i → d < 10 → 10 * v + d < 10 ^ (i + 1)
digit_more v d i h g = rw (add-one, pow-succ' 10 i) (omega arith)

-- nineteen digits fit into 64 bits, so a digit more fits while there are fewer
pub digit_fits : (v d i : ℕ) → v < 10 ^ i → d < 10 → i < 19 → 10 * v + d < 2 ^ 64
digit_fits v d i h g k =
    let below = digit_more v d i h g in
    let most = pow-le-pow_right {n = 10} (lit< tt) {i = i + 1} {j = 19} (omega arith) in
    omega arith

pub ruleset stepping = (digit_more)
