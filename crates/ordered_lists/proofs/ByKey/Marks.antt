-- Marks by number: no marks yet, and one number more.
use Rattle.ordered_lists.proofs.Common.{AreMarksOf, Bool, List, Some, [], ap, arith, contains, false, false≢true, get_or, get_or-set_other, get_or-set_same, inl, inr, is_eq, length, length-set, lt-ltb, nat_cmp, nat_lt, set, slice_get, slice_get-get_or, subst, sym, times, true, ℕ, ◌++◌, ◌<◌, ◌∙◌, ◌∷◌, ◌≡◌, ◌≢◌, ◌≤◌, ◌⊎◌}
use Rattle.ordered_lists.proofs.ByKey.Keys.{differ, known-here, known-right, nat_keys, same-itself, same_or_not, times-append, times-no}

-- one more number is in the list at its own place, and no other place changes
contains-end : (numbers : List ℕ) (place number : ℕ) → is_eq (nat_cmp number place) ≡ false
    → contains nat_cmp number (numbers ++ (place ∷ [])) ≡ contains nat_cmp number numbers
contains-end numbers place number ne = ap (nat_lt 0) (omega (arith, times-append nat_keys number numbers (place ∷ []), times-no nat_keys number place [] ne))

known-end : (numbers : List ℕ) (place : ℕ) → contains nat_cmp place (numbers ++ (place ∷ [])) ≡ true
known-end numbers place =
    lt-ltb 0 (times nat_cmp place (numbers ++ (place ∷ []))) (known-right nat_keys place numbers (place ∷ []) (known-here nat_keys place []))

apart : (number place : ℕ) → is_eq (nat_cmp number place) ≡ false → number ≢ place
apart number place ne same =
    false≢true (sym ne ∙ subst (λ n. is_eq (nat_cmp number n) ≡ true) same (same-itself nat_keys number))

-- one more number of the list is marked, if it has a place
pub marked_more : (numbers : List ℕ) (marks : List Bool) (place : ℕ) → AreMarksOf numbers marks → place < length marks
    → AreMarksOf (numbers ++ (place ∷ [])) (set marks place true)
marked_more numbers marks place known fits number within = go (same_or_not nat_keys number place)
  where
    inside : number < length marks
    inside = omega (arith, within, length-set marks place true)

    read : slice_get (set marks place true) number ≡ Some (get_or (set marks place true) number false)
    read = slice_get-get_or (set marks place true) number false within

    go : (number ≡ place) ⊎ (is_eq (nat_cmp number place) ≡ false)
        → slice_get (set marks place true) number ≡ Some (contains nat_cmp number (numbers ++ (place ∷ [])))
    go (inl same) = read ∙ ap Some (ap (λ n. get_or (set marks place true) n false) same ∙ get_or-set_same marks place true false fits
        ∙ sym (ap (λ n. contains nat_cmp n (numbers ++ (place ∷ []))) same ∙ known-end numbers place))
    go (inr ne) = read ∙ ap Some (get_or-set_other marks place number true false (apart number place ne))
        ∙ sym (slice_get-get_or marks number false inside) ∙ known number inside ∙ ap Some (sym (contains-end numbers place number ne))

-- a number without a place changes no mark
pub marked_without : (numbers : List ℕ) (marks : List Bool) (place : ℕ) → AreMarksOf numbers marks → length marks ≤ place
    → AreMarksOf (numbers ++ (place ∷ [])) marks
marked_without numbers marks place known none number within =
    known number within ∙ ap Some (sym (contains-end numbers place number (differ nat_keys number place (λ same. omega (arith, same, none, within)))))
