-- If each key of a list is below the next, the list is in order, and no key occurs twice.
use Rattle.ordered_lists.proofs.Common.{Bool, Equal, Greater, IsAllAdjacentAnswer, IsInOrder, Less, List, Ordering, [], arith, false, false≢true, get_or, is_eq, is_gt, is_lt, is_repeated, length, map, on, on_total, ordering_reverse, refl, subst, suc, sym, true, ℕ, ◌+◌, ◌<◌, ◌∙◌, ◌∷◌, ◌≡◌}
use Rattle.ordered_lists.proofs.ByKey.KeyedLists.{in_order-from_sorted, lt_reversed, repeated-later, repeated-none, repeated-one}
use Rattle.ordered_lists.proofs.ByKey.Keys.{IsKeyOrder}
use Rattle.ordered_lists.proofs.Lists.InOrder.{in_order-map}

below-not_above : (a : Ordering) → true ≡ is_lt a → is_gt a ≡ false
below-not_above Less e = refl
below-not_above Equal e = refl
below-not_above Greater e = absurd (false≢true (sym e))

-- a key that is below another isn't equal to it
below-not_equal : (a b : Ordering) → a ≡ ordering_reverse b → true ≡ is_lt a → is_eq b ≡ false
below-not_equal a Less f e = refl
below-not_equal a Equal f e = absurd (false≢true (sym (e ∙ (λ i. is_lt (f i)))))
below-not_equal a Greater f e = refl

module _ {X K : Type 0} {cmp : K → K → Ordering} (o : IsKeyOrder cmp) (key : X → K) where
  pub ascend-in_order : (xs : List X) (answer : Bool) → IsAllAdjacentAnswer (λ x y b. b ≡ is_lt (on key cmp x y)) xs answer
      → answer ≡ true → IsInOrder (on key cmp) xs
  ascend-in_order xs true h e =
      in_order-from_sorted (on_total key o.total) xs
      (λ k d low high. let next = get_or xs (k + 1) d in let this = get_or xs k d in
      lt_reversed (on key cmp next this) (on key cmp this next) (o.total.antisymm (key next) (key this))
      ∙ below-not_above (on key cmp this next) (h k d high))
  ascend-in_order xs false h e = absurd (false≢true e)

  once-each : (xs : List X) → IsInOrder cmp (map key xs)
      → ((k : ℕ) (d : X) → k + 1 < length xs → true ≡ is_lt (on key cmp (get_or xs k d) (get_or xs (k + 1) d)))
      → (j : K) → is_repeated cmp (map key xs) j ≡ false
  once-each [] h below j = repeated-none o j
  once-each (x ∷ []) h below j = sym (repeated-one o (key x) j) ∙ repeated-none o j
  once-each (x ∷ y ∷ ys) h below j =
      sym (repeated-later o (key x) (key y) (map key ys) h
      (below-not_equal (cmp (key x) (key y)) (cmp (key y) (key x)) (o.total.antisymm (key x) (key y)) (below 0 x (omega arith))) j)
      ∙ once-each (y ∷ ys) h.1
      (λ k d lt. subst (λ n. true ≡ is_lt (on key cmp (get_or (y ∷ ys) k d) (get_or (x ∷ y ∷ ys) n d)))
      (let e : suc k + 1 ≡ suc (k + 1) = omega arith in e) (below (suc k) d (omega arith))) j

  pub ascend-apart : (xs : List X) (answer : Bool) → IsAllAdjacentAnswer (λ x y b. b ≡ is_lt (on key cmp x y)) xs answer
      → answer ≡ true → (j : K) → is_repeated cmp (map key xs) j ≡ false
  ascend-apart xs true h e = once-each xs (in_order-map cmp key xs (ascend-in_order xs true h e)) h
  ascend-apart xs false h e = absurd (false≢true e)
