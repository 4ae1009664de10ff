-- Lines that have ended, and the consecutive numbers of lines and parts.
use Rattle.tl_load.proofs.Common.{All, IsWithoutLineFeed, List, [], ap, append_assoc, arith, length, lines, map, refl, rules, suc, without_return, ℕ, ◌++◌, ◌+◌, ◌∙◌, ◌∷◌, ◌≡◌}
use Rattle.tl_load.proofs.LineLemmas.{lines_line}
use Rattle.tl_load.specs.Loaded.{with_line_feeds}
use Rattle.tl_load.specs.Places.{lines_from_part, numbered_lines}

pub first_of : {A : Type 0} (P : A → Type 0) (x : A) (xs : List A) → All P (x ∷ xs) → P x
first_of P x xs h = h 0 x (omega arith)

pub rest_of : {A : Type 0} (P : A → Type 0) (x : A) (xs : List A) → All P (x ∷ xs) → All P xs
rest_of P x xs h k d lt = h (suc k) d (omega arith)

-- lines that have ended stay the same, whatever follows them
pub lines_after : (ended : List (List ℕ)) (rest : List ℕ) → All IsWithoutLineFeed ended
    → lines (with_line_feeds ended ++ rest) ≡ map without_return ended ++ lines rest
lines_after [] rest h = refl
lines_after (line ∷ ended) rest h =
    let regroup : with_line_feeds (line ∷ ended) ++ rest ≡ line ++ 10 ∷ (with_line_feeds ended ++ rest) = simp append_assoc in
    ap lines regroup
    ∙ lines_line line (with_line_feeds ended ++ rest) (first_of IsWithoutLineFeed line ended h)
    ∙ ap (λ (ls : List (List ℕ)). without_return line ∷ ls) (lines_after ended rest (rest_of IsWithoutLineFeed line ended h))

pub numbered_lines-append : (part n : ℕ) (a b : List (List ℕ)) → numbered_lines part n (a ++ b) ≡ numbered_lines part n a ++ numbered_lines
    part (n + length a) b
unfolding numbered_lines
numbered_lines-append part n [] b = ap (λ (k : ℕ). numbered_lines part k b) (omega arith)
numbered_lines-append part n (x ∷ a) b = search (rules, numbered_lines-append part (n + 1) a b)

pub parts-append : (n : ℕ) (a b : List (List ℕ)) → lines_from_part n (a ++ b) ≡ lines_from_part n a ++ lines_from_part (n + length a) b
unfolding lines_from_part
parts-append n [] b = ap (λ (k : ℕ). lines_from_part k b) (omega arith)
parts-append n (x ∷ a) b = search (rules, append_assoc, parts-append (n + 1) a b)
