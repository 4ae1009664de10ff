-- Lists in order: elements that tie keep the order of their numbers, and the place of an element is how many come before it.
use Rattle.tl_number.proofs.Common.{AllByRecursion, Equal, Greater, IsInOrder, IsKeyOrder, IsPermutation, IsPermutation-map, IsPermutation-sym, IsPermutation-trans, Known, Less, List, Ordering, [], all-in_order, all_unmap, all_weaker, ap, arith, cond, differ, differ_apart, entries_equal, entry_keys, entry_values, false, false≢true, filter, from_permutation, in_order, in_order-permutation, inl, inr, is_eq, is_gt, is_lt, known_all, known_cases, length, length_permutation, less_from, map, nat_cmp, not, ordering_reverse, ordering_then, place_in, put_in_order, refl, same-itself, subst, suc, sym, tied_itself, true, up_to, ℕ, ◌+◌, ◌∙◌, ◌∷◌, ◌≡◌, ◌⊎◌}
use Rattle.arranged_county.proofs.Lists.Classes.{agree_in_order}
use Rattle.std.specs.List.Sorted.{IsStrictlySortedBy}

-- Elements whose numbers ascend are put in order as by the order and then their numbers.
module _ {X : Type 0} (by : X → X → Ordering) (number : X → ℕ) where
  abbrev pub by_number : X → X → Ordering
  by_number x y = ordering_then (by x y) (nat_cmp (number x) (number y))

  -- a lesser number decides nothing
  same_choice : (r s : Ordering) → s ≡ Less → is_gt r ≡ is_gt (ordering_then r s)
  same_choice Less s e = refl
  same_choice Equal s e = sym (ap is_gt e)
  same_choice Greater s e = refl

  put_numbered : (x : X) (ys : List X) → AllByRecursion (λ y. nat_cmp (number x) (number y) ≡ Less) ys
      → put_in_order by x ys ≡ put_in_order by_number x ys
  put_numbered x [] h = refl
  put_numbered x (y ∷ ys) h =
      λ i. cond (same_choice (by x y) (nat_cmp (number x) (number y)) h.0 i) (y ∷ put_numbered x ys h.1 i) (x ∷ y ∷ ys)

  pub numbered_order : (xs : List X) → IsStrictlySortedBy nat_cmp (map number xs) → in_order by xs ≡ in_order by_number xs
  unfolding IsStrictlySortedBy
  numbered_order [] h = refl
  numbered_order (x ∷ xs) h =
      put_numbered x (in_order by xs)
      (all-in_order (λ y. nat_cmp (number x) (number y) ≡ Less) by xs (all_unmap (λ n. nat_cmp (number x) n ≡ Less) number xs h.0))
      ∙ ap (put_in_order by_number x) (numbered_order xs h.1)

-- If elements with a property compare alike by another order, a list of them is in that order too.
pub in_order-among : {X : Type 0} (by to : X → X → Ordering) (P : X → Type 0) → ((x y : X) → P x → P y → by x y ≡ to x y)
    → (xs : List X) → AllByRecursion P xs → IsInOrder by xs → IsInOrder to xs
in_order-among by to P same xs all = agree_in_order by to xs (all_weaker P (λ x. AllByRecursion (λ y. by x y ≡ to x y) xs)
    (λ x p. all_weaker P (λ y. by x y ≡ to x y) (λ y. same x y p) xs all) xs all)

-- Entries in the order of their values, and what is made of them: the same values under numbers that count from 1.
pub record IsByValue {V : Type 0} (cmp : V → V → Ordering) (entries ordered made : List (ℕ × V)) : Type 0 where
  pub in_order : IsInOrder cmp (entry_values ordered)
  pub all : IsPermutation ordered entries
  pub numbers : entry_keys made ≡ up_to (length ordered)
  pub values : entry_values made ≡ entry_values ordered

-- The entries determine what is made of them.
pub same_made : {V : Type 0} {cmp : V → V → Ordering} → IsKeyOrder cmp → (entries ordered made ordered_too made_too : List (ℕ × V))
    → IsByValue cmp entries ordered made → IsByValue cmp entries ordered_too made_too → made ≡ made_too
same_made {V} o entries ordered made ordered_too made_too one other =
    let both : IsPermutation ordered ordered_too =
    IsPermutation-trans ordered entries ordered_too one.all (IsPermutation-sym ordered_too entries other.all) in
    let same : entry_values ordered ≡ entry_values ordered_too = in_order-permutation o (entry_values ordered) (entry_values ordered_too)
    one.in_order other.in_order (IsPermutation-map (λ (e : ℕ × V). e.1) ordered ordered_too both) in
    entries_equal made made_too (one.numbers ∙ ap up_to (sym (length_permutation ordered ordered_too both)) ∙ sym other.numbers)
    (one.values ∙ same ∙ sym other.values)

-- The place of a key in a list that is in order.
module _ {K : Type 0} {cmp : K → K → Ordering} (o : IsKeyOrder cmp) {by : K → K → Ordering} (b : IsKeyOrder by) where
  -- how many come before a key
  abbrev pub before : K → List K → ℕ
  before x xs = length (filter (λ y. is_lt (by y x)) xs)

  not_less : (x y : K) → is_gt (by x y) ≡ false → is_lt (by y x) ≡ false
  not_less x y e = ap is_lt (b.total.antisymm y x) ∙ go (by x y) e
    where
      go : (r : Ordering) → is_gt r ≡ false → is_lt (ordering_reverse r) ≡ false
      go Less e = refl
      go Equal e = refl
      go Greater e = absurd (false≢true (sym e))

  none_before : (x : K) (ys : List K) → AllByRecursion (λ y. is_gt (by x y) ≡ false) ys → before x ys ≡ 0
  none_before x [] a = refl
  none_before x (y ∷ ys) a =
      ap (λ t. length (cond t (y ∷ filter (λ z. is_lt (by z x)) ys) (filter (λ z. is_lt (by z x)) ys))) (not_less x y a.0) ∙ none_before x ys a.1

  place_before : (xs : List K) → IsInOrder by xs → (x : K) → Known cmp xs x → place_in cmp xs x ≡ before x xs
  place_before [] h x k = absurd (omega (arith, k))
  place_before (y ∷ ys) h x k = go (known_cases o x y ys k) (place_before ys h.1 x)
    where
      go : (x ≡ y) ⊎ (Known cmp ys x × (is_eq (cmp x y) ≡ false)) → (Known cmp ys x → place_in cmp ys x ≡ before x ys)
          → place_in cmp (y ∷ ys) x ≡ before x (y ∷ ys)
      go (inl same) ih =
          let yes : is_eq (cmp x y) ≡ true = ap (λ j. is_eq (cmp x j)) (sym same) ∙ same-itself o x in
          ap (λ t. cond (not t) (1 + place_in cmp ys x) 0) yes
          ∙ sym (none_before x (y ∷ ys)
          (subst (λ w. AllByRecursion (λ z. is_gt (by w z) ≡ false) (y ∷ ys)) (sym same) (ap is_gt (tied_itself b.total y), h.0)))
      go (inr r) ih =
          let less : by y x ≡ Less = less_from (by y x) (known_all o (λ z. is_gt (by y z) ≡ false) ys h.0 x r.0)
          (differ b y x (λ e. differ_apart o x y r.1 (sym e))) in
          ap (λ t. cond (not t) (1 + place_in cmp ys x) 0) r.1
          ∙ (let t = ih r.0 in let u : 1 + place_in cmp ys x ≡ suc (before x ys) = omega (arith, t) in u)
          ∙ sym (ap (λ t. length (cond t (y ∷ filter (λ z. is_lt (by z x)) ys) (filter (λ z. is_lt (by z x)) ys))) (ap is_lt less))

  -- It is how many come before the key, in whatever order they are counted.
  pub place_counted : (xs ys : List K) → IsInOrder by xs → IsPermutation xs ys → (x : K) → Known cmp xs x
      → place_in cmp xs x ≡ length (filter (λ y. is_lt (by y x)) ys)
  place_counted xs ys h p x k = place_before xs h x k ∙ (from_permutation xs ys p).counts (λ y. is_lt (by y x))
