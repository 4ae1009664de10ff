-- The least of the texts of numbered choices, number by number.
use Rattle.tl_number.specs.LeastOnes.{IsLeastAmong}
use Rattle.tl_number.proofs.Common.{Bool, County, IsNotAfter, List, Ordering, [], ap, arith, bytes_keys, choice_list, choices_cmp, cond, false, get_or, is_gt, length, nat_cmp, not_after_itself, not_greater, refl, slice_cmp, sym, take, text_of, true, upto, ℕ, ◌<◌, ◌∙◌, ◌∷◌, ◌≡◌}

module _ (county : County) where
  abbrev text_at : ℕ → List ℕ
  text_at n = text_of (choice_list county n)

  -- the first of some numbers
  pub first_among : (numbers : List ℕ) → 0 < length numbers → IsLeastAmong county (take 1 numbers) (get_or numbers 0 0)
  first_among [] some = absurd (omega (arith, some))
  first_among (n ∷ numbers) some = (not_after_itself (choice_list county n), tt)

  -- the lesser of two texts isn't after either
  pub lesser_of : (n m : ℕ) (o : Ordering) → o ≡ choices_cmp county n m
      → IsNotAfter (choice_list county (cond (is_gt o) m n)) (choice_list county n)
      × IsNotAfter (choice_list county (cond (is_gt o) m n)) (choice_list county m)
  lesser_of n m o is = go (is_gt o) refl
    where
      go : (b : Bool) → is_gt o ≡ b
          → IsNotAfter (choice_list county (cond b m n)) (choice_list county n) × IsNotAfter (choice_list county (cond b m n)) (choice_list county m)
      go false e = (not_after_itself (choice_list county n), sym (ap is_gt is) ∙ e)
      go true e = (
        not_greater (slice_cmp nat_cmp (text_at n) (text_at m)) (slice_cmp nat_cmp (text_at m) (text_at n))
            (bytes_keys.total.antisymm (text_at n) (text_at m)) (sym (ap is_gt is) ∙ e),
        not_after_itself (choice_list county m),
      )

  -- texts that don't come after one another
  pub not_after_both : (n m k : ℕ) → IsNotAfter (choice_list county n) (choice_list county m)
      → IsNotAfter (choice_list county m) (choice_list county k) → IsNotAfter (choice_list county n) (choice_list county k)
  not_after_both n m k e f = upto bytes_keys.total (text_at n) (text_at m) (text_at k) e f
