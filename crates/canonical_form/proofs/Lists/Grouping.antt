-- A list that ascends by a number is its elements number by number; and a list in pieces is joined again.
use Rattle.canonical_form.proofs.Common.{AllByRecursion, AreFull, Equal, Greater, IsInOrder, Known, Less, List, MatchOrdering, Ordering, [], add-one, all_weaker, ap, append-nil, ap₂, arith, cond, drop, drop-append_seam, drop_all, eq-eqb, false, false≢true, flat_map, inl, inr, is_eq, is_gt, known_all, known_cases, length, length-append, map, nat_cmp, nat_cmp_total, nat_keys, ne_eqb, numbered_from, of_number, on, ordering_then, pieces, range_with_len, ranked, refl, subst, suc, sym, take, take-append_seam, take_all, tied_itself, zero, ℕ, ◌++◌, ◌+◌, ◌<◌, ◌∙◌, ◌∷◌, ◌≡◌, ◌≤◌, ◌⊎◌}
use Rattle.std.specs.List.Sorted.{IsStrictlySortedBy}

below : (m n : ℕ) → nat_cmp m n ≡ Less → m < n
below m n e = ranked m n Less (sym e)

at_most_by : (m n : ℕ) (o : Ordering) → MatchOrdering o (m < n) (m ≡ n) (n < m) → is_gt o ≡ false → m ≤ n
at_most_by m n Less h g = omega arith
at_most_by m n Equal h g = omega arith
at_most_by m n Greater h g = absurd (false≢true (sym g))

-- a number that doesn't compare as greater isn't greater
pub at_most : (m n : ℕ) → is_gt (nat_cmp m n) ≡ false → m ≤ n
at_most m n g = at_most_by m n (nat_cmp m n) (ranked m n (nat_cmp m n) refl) g

pub in_order-weaker : {X : Type 0} (by to : X → X → Ordering) → ((x y : X) → is_gt (by x y) ≡ false → is_gt (to x y) ≡ false)
    → (xs : List X) → IsInOrder by xs → IsInOrder to xs
in_order-weaker by to w [] h = tt
in_order-weaker by to w (x ∷ xs) h =
    (all_weaker (λ y. is_gt (by x y) ≡ false) (λ y. is_gt (to x y) ≡ false) (w x) xs h.0, in_order-weaker by to w xs h.1)

pub then-first : (a b : Ordering) → is_gt (ordering_then a b) ≡ false → is_gt a ≡ false
then-first Less b e = refl
then-first Equal b e = refl
then-first Greater b e = e

pub then-second : (a b : Ordering) → a ≡ Equal → is_gt (ordering_then a b) ≡ false → is_gt b ≡ false
then-second a b f e = sym (ap (λ o. is_gt (ordering_then o b)) f) ∙ e

-- items that have one number, in the order of their numbers and then of their parts, are in the order of their parts
pub parts_in_order : {X K : Type 0} (number : X → ℕ) (part : X → K) (cmp : K → K → Ordering) (n : ℕ) (xs : List X)
    → AllByRecursion (λ x. number x ≡ n) xs → IsInOrder (λ x y. ordering_then (nat_cmp (number x) (number y)) (cmp (part x) (part y))) xs
    → IsInOrder cmp (map part xs)
parts_in_order number part cmp n [] a h = tt
parts_in_order {X} number part cmp n (x ∷ xs) a h = (each xs a.1 h.0, parts_in_order number part cmp n xs a.1 h.1)
  where
    each : (ys : List X) → AllByRecursion (λ y. number y ≡ n) ys
        → AllByRecursion (λ y. is_gt (ordering_then (nat_cmp (number x) (number y)) (cmp (part x) (part y))) ≡ false) ys
        → AllByRecursion (λ k. is_gt (cmp (part x) k) ≡ false) (map part ys)
    each [] l g = tt
    each (y ∷ ys) l g = (
      then-second (nat_cmp (number x) (number y)) (cmp (part x) (part y)) (ap (nat_cmp (number x)) (l.0 ∙ sym a.0)
          ∙ tied_itself nat_cmp_total (number x)) g.0,
      each ys l.1 g.1,
    )

module _ {X : Type 0} (key : X → ℕ) where
  no_number : (k : ℕ) (xs : List X) → AllByRecursion (λ x. k < key x) xs → of_number key k xs ≡ []
  no_number k [] a = refl
  no_number k (x ∷ xs) a =
      ap (λ b. cond b (x ∷ of_number key k xs) (of_number key k xs)) (ne_eqb (key x) k (λ e. let l : k < key x = a.0 in omega arith))
      ∙ no_number k xs a.1

  -- groups of greater numbers are the same without the first element
  others : (x : X) (xs : List X) (k : ℕ) → key x ≡ k → (ks : List ℕ) → AllByRecursion (λ j. nat_cmp k j ≡ Less) ks
      → flat_map (λ j. of_number key j (x ∷ xs)) ks ≡ flat_map (λ j. of_number key j xs) ks
  others x xs k e [] a = refl
  others x xs k e (j ∷ ks) a =
      ap₂ (λ ys zs. ys ++ zs)
      (ap (λ b. cond b (x ∷ of_number key j xs) (of_number key j xs))
      (ne_eqb (key x) j (λ f. let l : k < j = below k j a.0 in omega arith))) (others x xs k e ks a.1)

  first_group : (x : X) (xs : List X) → AllByRecursion (λ y. is_gt (nat_cmp (key x) (key y)) ≡ false) xs → (ks : List ℕ)
      → IsStrictlySortedBy nat_cmp ks → Known nat_cmp ks (key x)
      → flat_map (λ k. of_number key k (x ∷ xs)) ks ≡ x ∷ flat_map (λ k. of_number key k xs) ks
  unfolding IsStrictlySortedBy
  first_group x xs a [] s k = absurd (omega (arith, k))
  first_group x xs a (k ∷ ks) s m = go (known_cases nat_keys (key x) k ks m) (first_group x xs a ks s.1)
    where
      go : (key x ≡ k) ⊎ (Known nat_cmp ks (key x) × (is_eq (nat_cmp (key x) k) ≡ false))
          → (Known nat_cmp ks (key x) → flat_map (λ j. of_number key j (x ∷ xs)) ks ≡ x ∷ flat_map (λ j. of_number key j xs) ks)
          → flat_map (λ j. of_number key j (x ∷ xs)) (k ∷ ks) ≡ x ∷ flat_map (λ j. of_number key j xs) (k ∷ ks)
      go (inl e) ih = ap₂ (λ ys zs. ys ++ zs) (ap (λ b. cond b (x ∷ of_number key k xs) (of_number key k xs)) (eq-eqb (key x) k e))
          (others x xs k e ks s.0)
      go (inr r) ih =
          let lt : k < key x = below k (key x) (known_all nat_keys (λ j. nat_cmp k j ≡ Less) ks s.0 (key x) r.0) in
          let all : AllByRecursion (λ y. k < key y) xs =
          all_weaker (λ y. is_gt (nat_cmp (key x) (key y)) ≡ false) (λ y. k < key y) (λ y g. let l : key x ≤ key y =
          at_most (key x) (key y) g in omega arith) xs a in
          ap₂ (λ ys zs. ys ++ zs) (no_number k (x ∷ xs) (lt, all)) (ih r.0)
          ∙ ap (λ ys. x ∷ (ys ++ flat_map (λ j. of_number key j xs) ks)) (sym (no_number k xs all))

  no_groups : (ks : List ℕ) → flat_map (λ k. of_number key k []) ks ≡ []
  no_groups [] = refl
  no_groups (k ∷ ks) = no_groups ks

  pub grouped : (xs : List X) → IsInOrder (on key nat_cmp) xs → (ks : List ℕ) → IsStrictlySortedBy nat_cmp ks
      → AllByRecursion (λ x. Known nat_cmp ks (key x)) xs → flat_map (λ k. of_number key k xs) ks ≡ xs
  grouped [] h ks s a = no_groups ks
  grouped (x ∷ xs) h ks s a = first_group x xs h.0 ks s a.0 ∙ ap (λ ys. x ∷ ys) (grouped xs h.1 ks s a.1)

-- pieces
pieces-nil : {X : Type 0} (n most : ℕ) → pieces {X = X} n most [] ≡ []
pieces-nil n zero = refl
pieces-nil n (suc most) = refl

pub pieces-joined : {X : Type 0} (n : ℕ) → 1 ≤ n → (ls : List (List X)) → AreFull n ls → (most : ℕ) → length (flat_map (λ l. l) ls) ≤ most
    → pieces n most (flat_map (λ l. l) ls) ≡ ls
pieces-joined n one [] f most h = pieces-nil n most
pieces-joined n one ([] ∷ []) f most h = absurd (let t : 1 ≤ 0 = f.0 in omega arith)
pieces-joined n one ((x ∷ l) ∷ []) f zero h = absurd (omega arith)
pieces-joined n one ((x ∷ l) ∷ []) f (suc most) h =
    let whole : l ++ [] ≡ l = append-nil l in
    let le : length (x ∷ l) ≤ n = f.1 in
    ap (λ ys. take n (x ∷ ys) ∷ pieces n most (drop n (x ∷ ys))) whole
    ∙ ap₂ (λ ys zs. ys ∷ pieces n most zs) (take_all n (x ∷ l) le) (drop_all n (x ∷ l) le)
    ∙ ap (λ ys. (x ∷ l) ∷ ys) (pieces-nil n most)
pieces-joined n one ([] ∷ m ∷ ls) f most h = absurd (let t : 0 ≡ n = f.0 in omega arith)
pieces-joined n one ((x ∷ l) ∷ m ∷ ls) f zero h = absurd (omega arith)
pieces-joined n one ((x ∷ l) ∷ m ∷ ls) f (suc most) h =
    let rest : List _ = flat_map (λ l. l) (m ∷ ls) in
    let full : length (x ∷ l) ≡ n = f.0 in
    ap₂ (λ ys zs. ys ∷ pieces n most zs)
    (subst (λ k. take k ((x ∷ l) ++ rest) ≡ x ∷ l) full (take-append_seam (x ∷ l) rest))
    (subst (λ k. drop k ((x ∷ l) ++ rest) ≡ rest) full (drop-append_seam (x ∷ l) rest))
    ∙ ap (λ ys. (x ∷ l) ∷ ys) (pieces-joined n one (m ∷ ls) f.1 most (let t : length (l ++ rest) ≡ length l + length rest =
    length-append l rest in omega (arith, h)))

-- records with the RTSQs 1, 2, 3, .. are their contents with RTSQs
pub rtsqs-back : {X Y : Type 0} (tlid rtsq : X → ℕ) (content : X → Y) (make : ℕ → ℕ → Y → X)
    → ((r : X) → make (tlid r) (rtsq r) (content r) ≡ r) → (t i : ℕ) (rs : List X) → AllByRecursion (λ r. tlid r ≡ t) rs
    → map rtsq rs ≡ range_with_len i (length rs) → map (λ (p : ℕ × Y). make t p.0 p.1) (numbered_from i (map content rs)) ≡ rs
rtsqs-back tlid rtsq content make m t i [] a e = refl
rtsqs-back tlid rtsq content make m t i (r ∷ rs) a e =
    let here : rtsq r ≡ i = cc in
    let rest : map rtsq rs ≡ range_with_len (i + 1) (length rs) = cc in
    let next : map rtsq rs ≡ range_with_len (suc i) (length rs) = rest ∙ ap (λ j. range_with_len j (length rs)) (add-one i) in
    λ k. (ap₂ (λ s j. make s j (content r)) (sym a.0) (sym here) ∙ m r) k ∷ rtsqs-back tlid rtsq content make m t (suc i) rs a.1 next k
