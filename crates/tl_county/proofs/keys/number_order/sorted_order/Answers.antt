use Rattle.tl_county.proofs.Common.{IsInOrder, IsPermutation, IsPermutation-trans, List, ap, at_places, length, nat_cmp, numbers_in_order, range_with_len, refl, subst, ℕ, ◌∙◌, ◌≡◌}
use Rattle.tl_county.proofs.keys.number_order.sorted_order.Goals as goal

-- sorted places are all places, as the unsorted ones were
all_places_sorted : (numbers : List ℕ) (copied : List ℕ) (near sorted : List ℕ) → length copied ≡ length numbers
    → IsPermutation (range_with_len 0 (length copied)) near → IsPermutation near sorted
    → IsPermutation (range_with_len 0 (length numbers)) sorted
all_places_sorted numbers copied near sorted long p q =
    IsPermutation-trans (range_with_len 0 (length numbers)) near sorted (subst (λ n. IsPermutation (range_with_len 0 n) near) long p) q

pub returns-then-are_in_order-clause-in_order : goal.returns-then-are_in_order-clause-in_order
returns-then-are_in_order-clause-in_order c =
    subst (IsInOrder nat_cmp)
    (c.deref-2.ensures.value ∙ c.in_ok-near.ensures ∙ ap (at_places c.args.numbers.now) c.deref.ensures.value)
    (c.if-are_in_order.ensures.in_order refl)

pub returns-clause-permutation : goal.returns-clause-permutation
returns-clause-permutation c =
    all_places_sorted c.args.numbers.now c.in_ok-from_slice.field-0.items c.in_ok-places.places.items c.sort_places.new.places.items
    (ap length c.in_ok-from_slice.ensures.items) c.in_ok-places.ensures c.sort_places.ensures.permutation

pub returns-clause-in_order : goal.returns-clause-in_order
returns-clause-in_order c =
    let numbers = c.args.numbers.now in
    let sorted = c.sort_places.new.places.items in
    numbers_in_order numbers sorted
    (all_places_sorted numbers c.in_ok-from_slice.field-0.items c.in_ok-places.places.items sorted
    (ap length c.in_ok-from_slice.ensures.items) c.in_ok-places.ensures c.sort_places.ensures.permutation)
    c.in_ok-sort_places.ensures.in_order
