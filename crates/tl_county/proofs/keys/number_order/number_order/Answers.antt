use Rattle.tl_county.proofs.Common.{IfOk-weaker, IsInOrder, IsPermutation, IsPermutation-refl, List, all_at_places, ap, at_all_places, at_places, in_order-unmap, length, length-map, map, map-at_places, nat_cmp, on, range_with_len, refl, subst, sym, ℕ, ◌∙◌, ◌≡◌}
use Rattle.tl_county.proofs.keys.number_order.number_order.Goals as goal

pub returns-then-are_in_order-clause-permutation : goal.returns-then-are_in_order-clause-permutation
returns-then-are_in_order-clause-permutation g c =
    let items = c.args.items.now in
    subst (IsPermutation items) (sym (ap (at_places items) c.in_ok-places.ensures ∙ at_all_places items)) (IsPermutation-refl items)

pub returns-then-are_in_order-clause-in_order : goal.returns-then-are_in_order-clause-in_order
returns-then-are_in_order-clause-in_order g c =
    let items = c.args.items.now in
    subst (IsInOrder (on g.T.Keyed.key_of nat_cmp)) (sym (ap (at_places items) c.in_ok-places.ensures ∙ at_all_places items))
    (in_order-unmap nat_cmp g.T.Keyed.key_of items
    (subst (IsInOrder nat_cmp) (c.deref.ensures.value ∙ c.in_ok-numbers.ensures) (c.if-are_in_order.ensures.in_order refl)))

pub returns-then-are_in_order-clause-numbers : goal.returns-then-are_in_order-clause-numbers
returns-then-are_in_order-clause-numbers g c =
    let items = c.args.items.now in
    c.in_ok-numbers.ensures
    ∙ ap (map g.T.Keyed.key_of) (sym (ap (at_places items) c.in_ok-places.ensures ∙ at_all_places items))

-- the result for the numbers is the result for the items that have them
module _ {X : Type 0} (key : X → ℕ) (items : List X) (numbers : List ℕ) (are : numbers ≡ map key items) where
  reordered : (places : List ℕ) → IsPermutation (range_with_len 0 (length numbers)) places → IsPermutation items (at_places items places)
  reordered places p = all_at_places items places
      (subst (λ n. IsPermutation (range_with_len 0 n) places) (ap length are ∙ length-map items key) p)

  keys_there : (found places : List ℕ) → found ≡ at_places numbers places → found ≡ map key (at_places items places)
  keys_there found places e = e ∙ ap (λ ns. at_places ns places) are ∙ sym (map-at_places key items places)

pub returns-clause-permutation : goal.returns-clause-permutation
returns-clause-permutation g c =
    let items = c.args.items.now in
    IfOk-weaker c.sorted_order.result
    (λ order. IsPermutation (range_with_len 0 (length c.deref-2.result.now)) order.places.items)
    (λ order. IsPermutation items (at_places items order.places.items))
    (λ order p. reordered g.T.Keyed.key_of items c.deref-2.result.now (c.deref-2.ensures.value ∙ c.in_ok-numbers.ensures)
    order.places.items p)
    c.sorted_order.ensures.permutation

pub returns-clause-numbers : goal.returns-clause-numbers
returns-clause-numbers g c =
    let items = c.args.items.now in
    IfOk-weaker c.sorted_order.result
    (λ order. order.numbers.items ≡ at_places c.deref-2.result.now order.places.items)
    (λ order. order.numbers.items ≡ map g.T.Keyed.key_of (at_places items order.places.items))
    (λ order e. keys_there g.T.Keyed.key_of items c.deref-2.result.now (c.deref-2.ensures.value ∙ c.in_ok-numbers.ensures)
    order.numbers.items order.places.items e)
    c.sorted_order.ensures.numbers

pub returns-clause-in_order : goal.returns-clause-in_order
returns-clause-in_order g c =
    let items = c.args.items.now in
    IfOk-weaker c.sorted_order.result
    (λ order. IsInOrder nat_cmp (at_places c.deref-2.result.now order.places.items))
    (λ order. IsInOrder (on g.T.Keyed.key_of nat_cmp) (at_places items order.places.items))
    (λ order h. in_order-unmap nat_cmp g.T.Keyed.key_of (at_places items order.places.items) (subst (IsInOrder nat_cmp)
    (keys_there g.T.Keyed.key_of items c.deref-2.result.now (c.deref-2.ensures.value ∙ c.in_ok-numbers.ensures) _ order.places.items refl)
    h))
    c.sorted_order.ensures.in_order
