-- Lists of numbers with and without a repetition.
use Rattle.renamings.proofs.Common.{IsAllAdjacentAnswer, apart-permutation, ltb, order_antisymm, sorted_from_all_adjacent, true≢false}
use Rattle.std.proofs.Common.{Bool, IsPermutation, Less, List, [], arith, false, get_or, is_gt, length, nat_cmp, refl, subst, suc, sym, true, zero, ℕ, ◌+◌, ◌<◌, ◌∙◌, ◌∷◌, ◌≡◌}
use Rattle.std.specs.Bool.{Decides}
use Rattle.ordered_lists.specs.Orders.{IsInOrder, contains, has_repeat, times}
use Rattle.ordered_lists.proofs.Lists.Distinct.{apart_from_no_repeat, has_repeat-apart}
use Rattle.ordered_lists.proofs.ByKey.Keys.{apart_from_sorted, nat_keys, times-yes}
use Rattle.std.proofs.lemmas.Bool.{false≢true, lt-ltb, ltb-false, ltb-true, or_left, or_right}
use Rattle.std.proofs.lemmas.Cmp.{nat_cmp_total}

-- in a list in order, a number that isn't less than the next one is repeated
not_ascending : (xs : List ℕ) (k : ℕ) → IsInOrder nat_cmp xs → k + 1 < length xs → ltb (get_or xs k 0) (get_or xs (k + 1) 0) ≡ false
    → has_repeat nat_cmp xs ≡ true
not_ascending [] k h low e = absurd (omega arith)
not_ascending (x ∷ []) k h low e = absurd (omega arith)
not_ascending (x ∷ y ∷ xs) zero h low e =
    let same : x ≡ y = order_antisymm nat_keys x y h.0.0 (not_below x y e) in
    let some = times-yes nat_keys x y xs same in
    or_left (contains nat_cmp x (y ∷ xs)) (has_repeat nat_cmp (y ∷ xs)) (lt-ltb 0 (times nat_cmp x (y ∷ xs)) (omega (arith, some)))
  where
    not_below : (x y : ℕ) → ltb x y ≡ false → is_gt (nat_cmp y x) ≡ false
    not_below x y e = let least = ltb-false x y e in grind arith
not_ascending (x ∷ y ∷ xs) (suc k) h low e =
    let next : suc k + 1 ≡ suc (k + 1) = omega arith in
    let P : ℕ → Type 0 = λ n. ltb (get_or (y ∷ xs) k 0) (get_or (x ∷ y ∷ xs) n 0) ≡ false in
    or_right (contains nat_cmp x (y ∷ xs)) _ (not_ascending (y ∷ xs) k h.1 (omega arith) (subst P next e))

-- a list in order has no repetition exactly if each number is less than the next one
pub ascend_decides : (xs : List ℕ) (answer : Bool) → IsInOrder nat_cmp xs → IsAllAdjacentAnswer (λ x y b. b ≡ ltb x y) xs answer
    → Decides answer (has_repeat nat_cmp xs ≡ false)
ascend_decides xs true h each = (
  λ _. has_repeat-apart nat_keys xs (apart_from_sorted nat_keys xs (sorted_from_all_adjacent nat_cmp_total xs 0
      (λ k low. lt_less (get_or xs k 0) (get_or xs (k + 1) 0) (each k 0 low)))),
  λ _. refl,
)
  where
    lt_less : (x y : ℕ) → true ≡ ltb x y → nat_cmp x y ≡ Less
    lt_less x y e = let less = ltb-true x y (sym e) in grind arith
ascend_decides xs false h (k, low, same) =
    (λ e. absurd (false≢true e), λ none. absurd (true≢false (sym (not_ascending xs k h low (sym (same 0))) ∙ none)))

-- a permutation has a repetition exactly if the list has one
pub repeat_permuted : (xs ys : List ℕ) → IsPermutation xs ys → has_repeat nat_cmp ys ≡ false → has_repeat nat_cmp xs ≡ false
repeat_permuted xs ys p e = has_repeat-apart nat_keys xs (apart-permutation nat_keys xs ys p (apart_from_no_repeat nat_keys ys e))
