-- Keys under an order that distinguishes any two: how often they occur in a list, and their images by pairs.
use Rattle.ordered_lists.proofs.Common.{AllByRecursion, Bool, Equal, Greater, IsPermutation, IsTotalOrder, Less, List, Ordering, [], ap, arith, cond, contains, exact_unsigned, false, false_from_ne_true, false≢true, filter, filter-append, has_repeat, inl, inr, is_eq, is_gt, length, length-append, length-filter, lt-ltb, map, nat_cmp, nat_cmp_total, nat_lt, ordering_reverse, refl, subst, suc, sum_by-IsPermutation, sym, tied_itself, times, true, zero, ℕ, ◌++◌, ◌+◌, ◌<◌, ◌||◌, ◌∙◌, ◌∷◌, ◌≡◌, ◌≤◌, ◌⊎◌}
use Rattle.std.specs.List.Sorted.{IsStrictlySortedBy}
use Rattle.ordered_lists.specs.Pairs.{composed, image, is_named, swapped, to_itself}

-- an order in which keys that compare as equal are equal
pub record IsKeyOrder {K : Type 0} (cmp : K → K → Ordering) : Type 0 where
  pub total : IsTotalOrder cmp
  pub exact : (x y : K) → cmp x y ≡ Equal → x ≡ y

pub nat_keys : IsKeyOrder nat_cmp
nat_keys = record { total = nat_cmp_total; exact = exact_unsigned }

pub is_eq-true : (o : Ordering) → is_eq o ≡ true → o ≡ Equal
is_eq-true Less e = absurd (false≢true e)
is_eq-true Equal e = refl
is_eq-true Greater e = absurd (false≢true e)

-- the key is in the list
abbrev pub Known : {K : Type 0} → (K → K → Ordering) → List K → K → Type 0
Known cmp ks k = 0 < times cmp k ks

-- no key occurs twice
abbrev pub IsApart : {K : Type 0} → (K → K → Ordering) → List K → Type 0
IsApart {K} cmp ks = (k : K) → times cmp k ks ≤ 1

abbrev pub lefts : {K : Type 0} → List (K × K) → List K
lefts = map (λ p. p.0)

abbrev pub rights : {K : Type 0} → List (K × K) → List K
rights = map (λ p. p.1)

pub filter_all : {X : Type 0} (p : X → Bool) (xs : List X) → AllByRecursion (λ x. p x ≡ true) xs → filter p xs ≡ xs
filter_all p [] h = refl
filter_all p (x ∷ xs) h = ap (λ b. cond b (x ∷ filter p xs) (filter p xs)) h.0 ∙ ap (λ ys. x ∷ ys) (filter_all p xs h.1)

module _ {K : Type 0} {cmp : K → K → Ordering} (o : IsKeyOrder cmp) where
  pub same-true : (x y : K) → is_eq (cmp x y) ≡ true → x ≡ y
  same-true x y e = o.exact x y (is_eq-true (cmp x y) e)

  pub same-itself : (x : K) → is_eq (cmp x x) ≡ true
  same-itself x = ap is_eq (tied_itself o.total x)

  pub same_or_not : (x y : K) → (x ≡ y) ⊎ (is_eq (cmp x y) ≡ false)
  same_or_not x y = go (is_eq (cmp x y)) refl
    where
      go : (b : Bool) → is_eq (cmp x y) ≡ b → (x ≡ y) ⊎ (is_eq (cmp x y) ≡ false)
      go true e = inl (same-true x y e)
      go false e = inr e

  pub times-yes : (k j : K) (js : List K) → k ≡ j → times cmp k (j ∷ js) ≡ suc (times cmp k js)
  times-yes k j js e =
      let yes : is_eq (cmp k j) ≡ true = subst (λ x. is_eq (cmp k x) ≡ true) e (same-itself k) in
      ap (λ b. length (cond b (j ∷ filter (λ x. is_eq (cmp k x)) js) (filter (λ x. is_eq (cmp k x)) js))) yes

  pub times-no : (k j : K) (js : List K) → is_eq (cmp k j) ≡ false → times cmp k (j ∷ js) ≡ times cmp k js
  times-no k j js ne = ap (λ b. length (cond b (j ∷ filter (λ x. is_eq (cmp k x)) js) (filter (λ x. is_eq (cmp k x)) js))) ne

  pub times-cons : (k j : K) (js : List K) → times cmp k js ≤ times cmp k (j ∷ js)
  times-cons k j js = go (same_or_not k j)
    where
      go : (k ≡ j) ⊎ (is_eq (cmp k j) ≡ false) → times cmp k js ≤ times cmp k (j ∷ js)
      go (inl e) = omega (arith, times-yes k j js e)
      go (inr ne) = omega (arith, times-no k j js ne)

  pub apart_tail : (j : K) (js : List K) → IsApart cmp (j ∷ js) → IsApart cmp js
  apart_tail j js h k = omega (arith, times-cons k j js, h k)

  -- a key below all of a list isn't in it
  pub times-below : (x : K) (ys : List K) → AllByRecursion (λ y. cmp x y ≡ Less) ys → times cmp x ys ≡ 0
  times-below x [] h = refl
  times-below x (y ∷ ys) h = times-no x y ys (ap is_eq h.0) ∙ times-below x ys h.1

  pub apart_from_sorted : (ks : List K) → IsStrictlySortedBy cmp ks → IsApart cmp ks
  unfolding IsStrictlySortedBy
  apart_from_sorted [] h k = omega arith
  apart_from_sorted (x ∷ xs) h k = go (same_or_not k x) (apart_from_sorted xs h.1 k)
    where
      go : (k ≡ x) ⊎ (is_eq (cmp k x) ≡ false) → times cmp k xs ≤ 1 → times cmp k (x ∷ xs) ≤ 1
      go (inl e) ih =
          let none : times cmp k xs ≡ 0 = subst (λ y. times cmp y xs ≡ 0) (sym e) (times-below x xs h.0) in
          omega (arith, times-yes k x xs e, none)
      go (inr ne) ih = omega (arith, times-no k x xs ne)

  pub times-permutation : (k : K) (xs ys : List K) → IsPermutation xs ys → times cmp k ys ≡ times cmp k xs
  times-permutation k xs ys p = length-filter (λ x. is_eq (cmp k x)) ys ∙ sum_by-IsPermutation (λ x. cond (is_eq (cmp k x)) 1 0) xs ys p
      ∙ sym (length-filter (λ x. is_eq (cmp k x)) xs)

  pub apart-permutation : (xs ys : List K) → IsPermutation xs ys → IsApart cmp ys → IsApart cmp xs
  apart-permutation xs ys p h k = omega (arith, times-permutation k xs ys p, h k)

  pub known-permutation : (k : K) (xs ys : List K) → IsPermutation xs ys → Known cmp ys k → Known cmp xs k
  known-permutation k xs ys p h = omega (arith, times-permutation k xs ys p)

  pub known-permutation_to : (k : K) (xs ys : List K) → IsPermutation xs ys → Known cmp xs k → Known cmp ys k
  known-permutation_to k xs ys p h = omega (arith, times-permutation k xs ys p)

  pub known-here : (k : K) (ks : List K) → Known cmp (k ∷ ks) k
  known-here k ks = omega (arith, times-yes k k ks refl)

  pub known-later : (k j : K) (ks : List K) → Known cmp ks k → Known cmp (j ∷ ks) k
  known-later k j ks h = omega (arith, times-cons k j ks)

  pub known_cases : (k j : K) (ks : List K) → Known cmp (j ∷ ks) k → (k ≡ j) ⊎ (Known cmp ks k × (is_eq (cmp k j) ≡ false))
  known_cases k j ks h = go (same_or_not k j)
    where
      go : (k ≡ j) ⊎ (is_eq (cmp k j) ≡ false) → (k ≡ j) ⊎ (Known cmp ks k × (is_eq (cmp k j) ≡ false))
      go (inl e) = inl e
      go (inr ne) = inr (omega (arith, times-no k j ks ne), ne)

  -- a property of each known key is a property of each element
  pub all_known : (P : K → Type 0) (ks : List K) → ((k : K) → Known cmp ks k → P k) → AllByRecursion P ks
  all_known P [] h = tt
  all_known P (k ∷ ks) h = (h k (known-here k ks), all_known P ks (λ j l. h j (known-later j k ks l)))

  pub known_all : (P : K → Type 0) (ks : List K) → AllByRecursion P ks → (k : K) → Known cmp ks k → P k
  known_all P [] h k l = absurd (omega (arith, l))
  known_all P (j ∷ ks) h k l = go (known_cases k j ks l) (known_all P ks h.1 k)
    where
      go : (k ≡ j) ⊎ (Known cmp ks k × (is_eq (cmp k j) ≡ false)) → (Known cmp ks k → P k) → P k
      go (inl e) ih = subst P (sym e) h.0
      go (inr r) ih = ih r.0

  pub map_agree : {L : Type 0} (f g : K → L) (ks : List K) → ((k : K) → Known cmp ks k → f k ≡ g k) → map f ks ≡ map g ks
  map_agree f g [] h = refl
  map_agree f g (k ∷ ks) h = λ i. h k (known-here k ks) i ∷ map_agree f g ks (λ j l. h j (known-later j k ks l)) i

  -- images
  pub image-yes : (p : K × K) (ps : List (K × K)) (x : K) → x ≡ p.0 → image cmp (p ∷ ps) x ≡ p.1
  image-yes p ps x e =
      let yes : is_eq (cmp x p.0) ≡ true = subst (λ y. is_eq (cmp x y) ≡ true) e (same-itself x) in
      ap (λ b. cond b p.1 (image cmp ps x)) yes

  pub image-no : (p : K × K) (ps : List (K × K)) (x : K) → is_eq (cmp x p.0) ≡ false → image cmp (p ∷ ps) x ≡ image cmp ps x
  image-no p ps x ne = ap (λ b. cond b p.1 (image cmp ps x)) ne

  pub image-known : (ps : List (K × K)) (x : K) → Known cmp (lefts ps) x → Known cmp (rights ps) (image cmp ps x)
  image-known [] x h = absurd (omega (arith, h))
  image-known (p ∷ ps) x h = go (known_cases x p.0 (lefts ps) h) (image-known ps x)
    where
      go : (x ≡ p.0) ⊎ (Known cmp (lefts ps) x × (is_eq (cmp x p.0) ≡ false))
          → (Known cmp (lefts ps) x → Known cmp (rights ps) (image cmp ps x)) → Known cmp (rights (p ∷ ps)) (image cmp (p ∷ ps) x)
      go (inl e) ih = subst (λ y. Known cmp (rights (p ∷ ps)) y) (sym (image-yes p ps x e)) (known-here p.1 (rights ps))
      go (inr r) ih = subst (λ y. Known cmp (rights (p ∷ ps)) y) (sym (image-no p ps x r.1))
          (known-later (image cmp ps x) p.1 (rights ps) (ih r.0))

  -- swapped pairs take images back
  pub image-back : (ps : List (K × K)) (x : K) → IsApart cmp (rights ps) → Known cmp (lefts ps) x
      → image cmp (swapped ps) (image cmp ps x) ≡ x
  image-back [] x a h = absurd (omega (arith, h))
  image-back (p ∷ ps) x a h = go (known_cases x p.0 (lefts ps) h) (image-back ps x (apart_tail p.1 (rights ps) a))
    where
      there : (v : K) → Known cmp (rights ps) v → (v ≡ p.1) ⊎ (is_eq (cmp v p.1) ≡ false)
          → image cmp (swapped (p ∷ ps)) v ≡ image cmp (swapped ps) v
      there v l (inl e) = absurd (omega (arith, times-yes v p.1 (rights ps) e, a v))
      there v l (inr ne) = image-no (p.1, p.0) (swapped ps) v ne

      go : (x ≡ p.0) ⊎ (Known cmp (lefts ps) x × (is_eq (cmp x p.0) ≡ false))
          → (Known cmp (lefts ps) x → image cmp (swapped ps) (image cmp ps x) ≡ x) → image cmp (swapped (p ∷ ps)) (image cmp (p ∷ ps) x) ≡ x
      go (inl e) ih = ap (image cmp (swapped (p ∷ ps))) (image-yes p ps x e) ∙ image-yes (p.1, p.0) (swapped ps) p.1 refl ∙ sym e
      go (inr r) ih =
          let v : K = image cmp ps x in
          ap (image cmp (swapped (p ∷ ps))) (image-no p ps x r.1)
          ∙ there v (image-known ps x r.0) (same_or_not v p.1)
          ∙ ih r.0

  pub rights-swapped : (ps : List (K × K)) → rights (swapped ps) ≡ lefts ps
  rights-swapped [] = refl
  rights-swapped (p ∷ ps) = ap (λ ys. p.0 ∷ ys) (rights-swapped ps)

  pub lefts-swapped : (ps : List (K × K)) → lefts (swapped ps) ≡ rights ps
  lefts-swapped [] = refl
  lefts-swapped (p ∷ ps) = ap (λ ys. p.1 ∷ ys) (lefts-swapped ps)

  pub image-to_itself : (ks : List K) (x : K) → image cmp (to_itself ks) x ≡ x
  image-to_itself [] x = refl
  image-to_itself (k ∷ ks) x = go (same_or_not x k) (image-to_itself ks x)
    where
      go : (x ≡ k) ⊎ (is_eq (cmp x k) ≡ false) → image cmp (to_itself ks) x ≡ x → image cmp (to_itself (k ∷ ks)) x ≡ x
      go (inl e) ih = image-yes (k, k) (to_itself ks) x e ∙ sym e
      go (inr ne) ih = image-no (k, k) (to_itself ks) x ne ∙ ih

  pub lefts-to_itself : (ks : List K) → lefts (to_itself ks) ≡ ks
  lefts-to_itself [] = refl
  lefts-to_itself (k ∷ ks) = ap (λ ys. k ∷ ys) (lefts-to_itself ks)

  pub rights-to_itself : (ks : List K) → rights (to_itself ks) ≡ ks
  rights-to_itself [] = refl
  rights-to_itself (k ∷ ks) = ap (λ ys. k ∷ ys) (rights-to_itself ks)

  -- the images of the left sides of pairs, in order
  pub images-lefts : (qs : List (K × K)) → IsApart cmp (lefts qs) → map (image cmp qs) (lefts qs) ≡ rights qs
  images-lefts [] a = refl
  images-lefts (q ∷ qs) a = λ i. image-yes q qs q.0 refl i ∷ (rest ∙ images-lefts qs (apart_tail q.0 (lefts qs) a)) i
    where
      other : (k : K) → Known cmp (lefts qs) k → (k ≡ q.0) ⊎ (is_eq (cmp k q.0) ≡ false) → image cmp (q ∷ qs) k ≡ image cmp qs k
      other k l (inl e) = absurd (omega (arith, times-yes k q.0 (lefts qs) e, a k))
      other k l (inr ne) = image-no q qs k ne

      rest : map (image cmp (q ∷ qs)) (lefts qs) ≡ map (image cmp qs) (lefts qs)
      rest = map_agree (image cmp (q ∷ qs)) (image cmp qs) (lefts qs) (λ k l. other k l (same_or_not k q.0))

  -- pairs composed, if the next ones name each right side
  abbrev pub followed : List (K × K) → List (K × K) → List (K × K)
  followed ps qs = map (λ pair. (pair.0, image cmp qs pair.1)) ps

  named_all : (ps qs : List (K × K)) → ((k : K) → Known cmp (rights ps) k → Known cmp (lefts qs) k)
      → AllByRecursion (λ pair. is_named cmp qs pair.1 ≡ true) ps
  named_all [] qs h = tt
  named_all (p ∷ ps) qs h = (
    lt-ltb 0 (times cmp p.1 (lefts qs)) (h p.1 (known-here p.1 (rights ps))),
    named_all ps qs (λ k l. h k (known-later k p.1 (rights ps) l)),
  )

  pub joined-followed : (ps qs : List (K × K)) → ((k : K) → Known cmp (rights ps) k → Known cmp (lefts qs) k)
      → composed cmp ps qs ≡ followed ps qs
  joined-followed ps qs h =
      ap (map (λ pair. (pair.0, image cmp qs pair.1))) (filter_all (λ pair. is_named cmp qs pair.1) ps (named_all ps qs h))

  pub image-followed : (ps qs : List (K × K)) (x : K) → Known cmp (lefts ps) x
      → image cmp (followed ps qs) x ≡ image cmp qs (image cmp ps x)
  image-followed [] qs x h = absurd (omega (arith, h))
  image-followed (p ∷ ps) qs x h = go (known_cases x p.0 (lefts ps) h) (image-followed ps qs x)
    where
      go : (x ≡ p.0) ⊎ (Known cmp (lefts ps) x × (is_eq (cmp x p.0) ≡ false))
          → (Known cmp (lefts ps) x → image cmp (followed ps qs) x ≡ image cmp qs (image cmp ps x))
          → image cmp (followed (p ∷ ps) qs) x ≡ image cmp qs (image cmp (p ∷ ps) x)
      go (inl e) ih = image-yes (p.0, image cmp qs p.1) (followed ps qs) x e ∙ ap (image cmp qs) (sym (image-yes p ps x e))
      go (inr r) ih = image-no (p.0, image cmp qs p.1) (followed ps qs) x r.1 ∙ ih r.0 ∙ ap (image cmp qs) (sym (image-no p ps x r.1))

  pub lefts-followed : (ps qs : List (K × K)) → lefts (followed ps qs) ≡ lefts ps
  lefts-followed [] qs = refl
  lefts-followed (p ∷ ps) qs = ap (λ ys. p.0 ∷ ys) (lefts-followed ps qs)

  pub rights-followed : (ps qs : List (K × K)) → rights (followed ps qs) ≡ map (image cmp qs) (rights ps)
  rights-followed [] qs = refl
  rights-followed (p ∷ ps) qs = ap (λ ys. image cmp qs p.1 ∷ ys) (rights-followed ps qs)

  pub differ : (x y : K) → (x ≡ y → ⊥) → is_eq (cmp x y) ≡ false
  differ x y h = false_from_ne_true (is_eq (cmp x y)) (λ e. h (same-true x y e))

  pub differ_apart : (x y : K) → is_eq (cmp x y) ≡ false → x ≡ y → ⊥
  differ_apart x y f e = false≢true (sym f ∙ subst (λ z. is_eq (cmp x z) ≡ true) e (same-itself x))

  pub image-injective : (ps : List (K × K)) (x y : K) → IsApart cmp (rights ps) → Known cmp (lefts ps) x → Known cmp (lefts ps) y
      → image cmp ps x ≡ image cmp ps y → x ≡ y
  image-injective ps x y a k l e = sym (image-back ps x a k) ∙ ap (image cmp (swapped ps)) e ∙ image-back ps y a l

  -- a number occurs in a list as often as its image among the images
  pub times-images : (ps : List (K × K)) (x : K) → IsApart cmp (rights ps) → Known cmp (lefts ps) x → (ts : List K)
      → AllByRecursion (Known cmp (lefts ps)) ts → times cmp (image cmp ps x) (map (image cmp ps) ts) ≡ times cmp x ts
  times-images ps x a k [] h = refl
  times-images ps x a k (t ∷ ts) h = go (same_or_not x t) (times-images ps x a k ts h.1)
    where
      go : (x ≡ t) ⊎ (is_eq (cmp x t) ≡ false) → times cmp (image cmp ps x) (map (image cmp ps) ts) ≡ times cmp x ts
          → times cmp (image cmp ps x) (image cmp ps t ∷ map (image cmp ps) ts) ≡ times cmp x (t ∷ ts)
      go (inl e) ih = times-yes (image cmp ps x) (image cmp ps t) (map (image cmp ps) ts) (ap (image cmp ps) e) ∙ ap suc ih
          ∙ sym (times-yes x t ts e)
      go (inr ne) ih =
          let apart : is_eq (cmp (image cmp ps x) (image cmp ps t)) ≡ false =
          differ (image cmp ps x) (image cmp ps t) (λ e. differ_apart x t ne (image-injective ps x t a k h.0 e)) in
          times-no (image cmp ps x) (image cmp ps t) (map (image cmp ps) ts) apart ∙ ih ∙ sym (times-no x t ts ne)

  pub has_repeat-images : (ps : List (K × K)) → IsApart cmp (rights ps) → (ts : List K) → AllByRecursion (Known cmp (lefts ps)) ts
      → has_repeat cmp (map (image cmp ps) ts) ≡ has_repeat cmp ts
  has_repeat-images ps a [] h = refl
  has_repeat-images ps a (t ∷ ts) h = λ i. nat_lt 0 (times-images ps t a h.0 ts h.1 i) || has_repeat-images ps a ts h.1 i

  -- the number, or 0
  abbrev pub kept : Bool → ℕ → ℕ
  kept b n = cond b n 0

  pub times-filter : (f : K → Bool) (k : K) (ls : List K) → times cmp k (filter f ls) ≡ cond (f k) (times cmp k ls) 0
  times-filter f k [] = go (f k)
    where
      go : (b : Bool) → 0 ≡ kept b 0
      go true = refl
      go false = refl
  times-filter f k (l ∷ ls) = go (f l) refl (same_or_not k l) (times-filter f k ls)
    where
      yes : (b : Bool) → b ≡ true → (m n : ℕ) → suc (cond b m 0) ≡ cond b (suc m) 0
      yes true e m n = refl
      yes false e m n = absurd (false≢true e)

      none : (b : Bool) → b ≡ false → (m n : ℕ) → cond b m 0 ≡ cond b n 0
      none true e m n = absurd (false≢true (sym e))
      none false e m n = refl

      go : (b : Bool) → f l ≡ b → (k ≡ l) ⊎ (is_eq (cmp k l) ≡ false) → times cmp k (filter f ls) ≡ cond (f k) (times cmp k ls) 0
          → times cmp k (cond b (l ∷ filter f ls) (filter f ls)) ≡ cond (f k) (times cmp k (l ∷ ls)) 0
      go true e (inl k_is_l) ih = times-yes k l (filter f ls) k_is_l ∙ ap suc ih ∙ yes (f k) (ap f k_is_l ∙ e) (times cmp k ls) 0
          ∙ ap (λ n. cond (f k) n 0) (sym (times-yes k l ls k_is_l))
      go true e (inr ne) ih = times-no k l (filter f ls) ne ∙ ih ∙ ap (λ n. cond (f k) n 0) (sym (times-no k l ls ne))
      go false e (inl k_is_l) ih = ih ∙ none (f k) (ap f k_is_l ∙ e) (times cmp k ls) (times cmp k (l ∷ ls))
      go false e (inr ne) ih = ih ∙ ap (λ n. cond (f k) n 0) (sym (times-no k l ls ne))

  pub apart-filter : (f : K → Bool) (ls : List K) → IsApart cmp ls → IsApart cmp (filter f ls)
  apart-filter f ls a k = go (f k) (times-filter f k ls)
    where
      go : (b : Bool) → times cmp k (filter f ls) ≡ cond b (times cmp k ls) 0 → times cmp k (filter f ls) ≤ 1
      go true e = omega (arith, a k)
      go false e = omega arith

  pub contains-filter : (f : K → Bool) (k : K) (ls : List K) → Known cmp ls k → contains cmp k (filter f ls) ≡ f k
  contains-filter f k ls l = ap (nat_lt 0) (times-filter f k ls) ∙ go (f k)
    where
      go : (b : Bool) → nat_lt 0 (cond b (times cmp k ls) 0) ≡ b
      go true = lt-ltb 0 (times cmp k ls) l
      go false = refl

  -- if neither is greater, they are equal
  pub order_antisymm : (x y : K) → is_gt (cmp x y) ≡ false → is_gt (cmp y x) ≡ false → x ≡ y
  order_antisymm x y f g = o.exact x y (go (cmp x y) (cmp y x) (o.total.antisymm x y) f g)
    where
      go : (a b : Ordering) → a ≡ ordering_reverse b → is_gt a ≡ false → is_gt b ≡ false → a ≡ Equal
      go Less Less e f g = cc
      go Less Equal e f g = cc
      go Less Greater e f g = absurd (false≢true (sym g))
      go Equal b e f g = refl
      go Greater b e f g = absurd (false≢true (sym f))

  pub order_total : (x y : K) → is_gt (cmp x y) ≡ true → is_gt (cmp y x) ≡ false
  order_total x y f = go (cmp x y) (cmp y x) (o.total.antisymm x y) f
    where
      go : (a b : Ordering) → a ≡ ordering_reverse b → is_gt a ≡ true → is_gt b ≡ false
      go a Less e f = refl
      go a Equal e f = refl
      go a Greater e f = absurd (false≢true (ap is_gt (sym e) ∙ f))

  pub order_itself : (x : K) → is_gt (cmp x x) ≡ false
  order_itself x = ap is_gt (tied_itself o.total x)

  pub times-append : (k : K) (xs ys : List K) → times cmp k (xs ++ ys) ≡ times cmp k xs + times cmp k ys
  times-append k xs ys = ap length (filter-append (λ x. is_eq (cmp k x)) xs ys)
      ∙ length-append (filter (λ x. is_eq (cmp k x)) xs) (filter (λ x. is_eq (cmp k x)) ys)

  pub known-append : (k : K) (xs ys : List K) → Known cmp (xs ++ ys) k → Known cmp xs k ⊎ Known cmp ys k
  known-append k xs ys h = go (times cmp k xs) refl
    where
      go : (n : ℕ) → times cmp k xs ≡ n → Known cmp xs k ⊎ Known cmp ys k
      go zero e = inr (omega (arith, times-append k xs ys))
      go (suc n) e = inl (omega (arith, e))

  pub known-left : (k : K) (xs ys : List K) → Known cmp xs k → Known cmp (xs ++ ys) k
  known-left k xs ys h = omega (arith, times-append k xs ys)

  pub known-right : (k : K) (xs ys : List K) → Known cmp ys k → Known cmp (xs ++ ys) k
  known-right k xs ys h = omega (arith, times-append k xs ys)
