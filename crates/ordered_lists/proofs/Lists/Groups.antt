-- The elements of one key in a list that is in order.
use Rattle.ordered_lists.proofs.Common.{AllByRecursion, Bool, Equal, Greater, Less, List, Ordering, [], ap, append_assoc, cond, false, false≢true, filter, inl, inr, is_eq, is_gt, nat_cmp, ordering_reverse, refl, subst, sym, true, ℕ, ◌++◌, ◌∙◌, ◌∷◌, ◌≡◌, ◌⊎◌}
use Rattle.ordered_lists.proofs.ByKey.Keys.{IsKeyOrder, same_or_not}
use Rattle.ordered_lists.proofs.Lists.Counted.{filter-agree}
use Rattle.std.specs.List.Sorted.{IsStrictlySortedBy}

eq_reversed : (a b : Ordering) → a ≡ ordering_reverse b → is_eq a ≡ is_eq b
eq_reversed a Less e = ap is_eq e
eq_reversed a Equal e = ap is_eq e
eq_reversed a Greater e = ap is_eq e

module _ {X K : Type 0} {cmp : K → K → Ordering} (o : IsKeyOrder cmp) (key : X → K) where
  -- the items with a key, whichever way it is compared
  pub group-flipped : (k : K) (xs : List X) → filter (λ x. is_eq (cmp (key x) k)) xs ≡ filter (λ x. is_eq (cmp k (key x))) xs
  group-flipped k xs = filter-agree (λ x. is_eq (cmp (key x) k)) (λ x. is_eq (cmp k (key x)))
      (λ x. eq_reversed (cmp (key x) k) (cmp k (key x)) (o.total.antisymm (key x) k)) xs

  -- later groups are among the later items
  pub group-later : (k j : K) → cmp k j ≡ Less → (xs : List X)
      → filter (λ x. is_eq (cmp (key x) j)) (filter (λ x. is_gt (cmp (key x) k)) xs) ≡ filter (λ x. is_eq (cmp (key x) j)) xs
  group-later k j less [] = refl
  group-later k j less (x ∷ xs) = go (is_gt (cmp (key x) k)) refl (group-later k j less xs)
    where
      above : key x ≡ j → is_gt (cmp (key x) k) ≡ true
      above e = subst (λ i. is_gt (cmp i k) ≡ true) (sym e) (at (cmp j k) (cmp k j) (o.total.antisymm j k) less)
        where
          at : (a b : Ordering) → a ≡ ordering_reverse b → b ≡ Less → is_gt a ≡ true
          at a b f g = ap is_gt (f ∙ ap ordering_reverse g)

      apart : is_gt (cmp (key x) k) ≡ false → is_eq (cmp (key x) j) ≡ false
      apart f = at (same_or_not o (key x) j)
        where
          at : (key x ≡ j) ⊎ (is_eq (cmp (key x) j) ≡ false) → is_eq (cmp (key x) j) ≡ false
          at (inl e) = absurd (false≢true (sym f ∙ above e))
          at (inr n) = n

      go : (b : Bool) → is_gt (cmp (key x) k) ≡ b → filter (λ y. is_eq (cmp (key y) j)) (filter (λ y. is_gt (cmp (key y) k)) xs) ≡ filter
          (λ y. is_eq (cmp (key y) j)) xs
          → filter (λ y. is_eq (cmp (key y) j))
          (cond b (x ∷ filter (λ y. is_gt (cmp (key y) k)) xs) (filter (λ y. is_gt (cmp (key y) k)) xs)) ≡ filter
          (λ y. is_eq (cmp (key y) j)) (x ∷ xs)
      go true e ih = ap (λ l. cond (is_eq (cmp (key x) j)) (x ∷ l) l) ih
      go false e ih = ih ∙ ap (λ b. cond b (x ∷ filter (λ y. is_eq (cmp (key y) j)) xs) (filter (λ y. is_eq (cmp (key y) j)) xs))
          (sym (apart e))

-- the records with numbers greater than this one
abbrev pub later_than : {X : Type 0} → (X → ℕ) → ℕ → List X → List X
later_than number n xs = filter (λ x. is_gt (nat_cmp (number x) n)) xs

-- one more element of a walk is done
pub one_done : {X : Type 0} (done : List X) (x y : X) (ahead others whole : List X) → done ++ (x ∷ ahead) ≡ whole → y ≡ x → others ≡ ahead
    → (done ++ (y ∷ [])) ++ others ≡ whole
one_done done x y ahead others whole e f g = append_assoc done (y ∷ []) others ∙ (λ i. done ++ (f i ∷ g i)) ∙ e

pub strict_head : {K : Type 0} (cmp : K → K → Ordering) (k : K) (ks : List K) → IsStrictlySortedBy cmp (k ∷ ks)
    → AllByRecursion (λ j. cmp k j ≡ Less) ks
unfolding IsStrictlySortedBy
strict_head cmp k ks h = h.0

pub strict_tail : {K : Type 0} (cmp : K → K → Ordering) (k : K) (ks : List K) → IsStrictlySortedBy cmp (k ∷ ks) → IsStrictlySortedBy cmp ks
unfolding IsStrictlySortedBy
strict_tail cmp k ks h = h.1
