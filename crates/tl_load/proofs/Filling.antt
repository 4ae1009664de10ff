-- A line padded with blanks.
use Rattle.tl_load.proofs.Common.{IsLine, List, None, Option, Some, [], append-nil, cond, fails_before_first, false, filled, is_allowed, length, length-append, length-replicate, ltb, ltb-false, not, not-false, position, rules, take, ℕ, ◌∷◌, ◌≡◌, ◌≤◌}
use Rattle.tl_layout.specs.Bytes.{AreAllowed}

pub filled_full : (len : ℕ) (line : List ℕ) → length line ≡ len → filled len line ≡ line
filled_full len line e = search (rules, append-nil)

pub length_filled : (len : ℕ) (line : List ℕ) → length line ≤ len → length (filled len line) ≡ len
length_filled len line short = search (rules, length-append, length-replicate)

pub begins_filled : (rtype len : ℕ) (line : List ℕ) → take 1 line ≡ rtype ∷ [] → take 1 (filled len line) ≡ rtype ∷ []
begins_filled rtype len [] e = absurd cc
begins_filled rtype len (b ∷ line) e = e

none_from : (n m : ℕ) → ◌≡◌ {A = Option ℕ} None (cond (ltb n m) (Some n) None) → ltb n m ≡ false
none_from n m e = search rules

-- if no byte is bad, each is allowed
pub allowed_by : (line : List ℕ) → None ≡ position (λ b. not (is_allowed b)) line → AreAllowed line
unfolding AreAllowed
allowed_by line e k d lt = search (rules, ltb-false, none_from, not-false, fails_before_first)

pub is_line_by : (rtype len : ℕ) (line : List ℕ) → take 1 line ≡ rtype ∷ [] → length line ≡ len
    → None ≡ position (λ b. not (is_allowed b)) line → IsLine rtype len line
is_line_by rtype len line begins full e = record { begins = begins; text = record { len = full; allowed = allowed_by line e } }
