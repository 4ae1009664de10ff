-- The lists gathered for linking: keys without repetition, landmarks in order, and tables that hold the records of a list.
use Rattle.tl_county.proofs.Common.{AllByRecursion, Bool, Coordinates, Equal, Fields7, Greater, IsInOrder, IsKeyOrder, Less, List, None, Option, Ordering, Some, [], all_known, all_weaker, ap, arith, before_all, bytes_cmp, cond, contains, dedup, dedup_from, distinct, false, false≢true, first_least, inl, inr, is_eq, is_gt, known_from_distinct, landmark_cmp, less_from, lt-ltb, nat_cmp, nat_lt, optional_point_cmp, ordering_then, point_cmp, put_in_order, refl, rules, same-itself, same_or_not, subst, sym, times, times-cons, times-yes, true, ◌∙◌, ◌∷◌, ◌≡◌, ◌⊎◌}

module _ {K : Type 0} {cmp : K → K → Ordering} (o : IsKeyOrder cmp) where
  -- a list in order without its repetitions has each key once
  dedup_from-distinct : (k : K) (ks : List K) → IsInOrder cmp (k ∷ ks) → dedup_from (λ x y. is_eq (cmp x y)) k ks ≡ distinct cmp (k ∷ ks)
  dedup_from-distinct k [] h = refl
  dedup_from-distinct k (j ∷ ks) h = go (is_eq (cmp j k)) refl (dedup_from-distinct k ks (h.0.1, h.1.1)) (dedup_from-distinct j ks h.1)
    where
      go : (b : Bool) → is_eq (cmp j k) ≡ b → dedup_from (λ x y. is_eq (cmp x y)) k ks ≡ distinct cmp (k ∷ ks)
          → dedup_from (λ x y. is_eq (cmp x y)) j ks ≡ distinct cmp (j ∷ ks)
          → cond b (dedup_from (λ x y. is_eq (cmp x y)) k ks) (k ∷ dedup_from (λ x y. is_eq (cmp x y)) j ks) ≡ distinct cmp (k ∷ j ∷ ks)
      go true e same other =
          let equal : k ≡ j = at (same_or_not o j k) in
          same ∙ ap (λ x. distinct cmp (x ∷ ks)) equal
          ∙ ap (λ b. cond b (distinct cmp (j ∷ ks)) (put_in_order cmp k (distinct cmp (j ∷ ks))))
          (sym (lt-ltb 0 (times cmp k (j ∷ ks)) (omega (arith, times-yes o k j ks equal))))
        where
          at : (j ≡ k) ⊎ (is_eq (cmp j k) ≡ false) → k ≡ j
          at (inl f) = sym f
          at (inr n) = absurd (false≢true (sym n ∙ e))
      go false e same other =
          let less : cmp k j ≡ Less = less_from o (cmp k j) h.0.0 (apart (same_or_not o k j)) in
          let none : contains cmp k (j ∷ ks) ≡ false = ap (nat_lt 0) (before_all o k j ks h.1 less) in
          ap (λ l. k ∷ l) other
          ∙ sym (front (distinct cmp (j ∷ ks)) (all_known o (λ i. is_gt (cmp k i) ≡ false) (distinct cmp (j ∷ ks))
          (λ i m. first_least o k (j ∷ ks) h i (omega (arith, times-cons o i k (j ∷ ks), known_from_distinct o (j ∷ ks) i m)))))
          ∙ ap (λ b. cond b (distinct cmp (j ∷ ks)) (put_in_order cmp k (distinct cmp (j ∷ ks)))) (sym none)
        where
          apart : (k ≡ j) ⊎ (is_eq (cmp k j) ≡ false) → is_eq (cmp k j) ≡ false
          apart (inr n) = n
          apart (inl f) = absurd (false≢true (sym e ∙ subst (λ x. is_eq (cmp x k) ≡ true) f (same-itself o k)))

          front : (ys : List K) → AllByRecursion (λ y. is_gt (cmp k y) ≡ false) ys → put_in_order cmp k ys ≡ k ∷ ys
          front [] a = refl
          front (y ∷ ys) a = ap (λ b. cond b (y ∷ put_in_order cmp k ys) (k ∷ y ∷ ys)) a.0

  pub dedup-distinct : (ks : List K) → IsInOrder cmp ks → dedup (λ x y. is_eq (cmp x y)) ks ≡ distinct cmp ks
  dedup-distinct [] h = refl
  dedup-distinct (k ∷ ks) h = dedup_from-distinct k ks h

-- in order by another order with the same results
pub in_order-alike : {X : Type 0} (by other : X → X → Ordering) → ((x y : X) → by x y ≡ other x y) → (xs : List X) → IsInOrder by xs
    → IsInOrder other xs
in_order-alike by other e [] h = tt
in_order-alike by other e (x ∷ xs) h = search (rules, all_weaker, in_order-alike by other e xs h.1)

-- landmarks by their fields, with any order of optional points that puts no point first
module _ (by : Option Coordinates → Option Coordinates → Ordering) (none : by None None ≡ Equal) (first : (p : Coordinates)
    → by None (Some p) ≡ Less) (last : (p : Coordinates) → by (Some p) None ≡ Greater) (both : (p q : Coordinates)
    → by (Some p) (Some q) ≡ point_cmp p q) where
  then_nothing : (a : Ordering) → a ≡ ordering_then a Equal
  then_nothing Less = refl
  then_nothing Equal = refl
  then_nothing Greater = refl

  points_alike : (o p : Option Coordinates) → by o p ≡ optional_point_cmp o p
  points_alike None None = none
  points_alike None (Some p) = first p
  points_alike (Some p) None = last p
  points_alike (Some p) (Some q) = both p q ∙ then_nothing (point_cmp p q)

  abbrev by_fields : Fields7 → Fields7 → Ordering
  by_fields a b = ordering_then (nat_cmp a.land b.land)
      (ordering_then (bytes_cmp a.body.file b.body.file)
      (ordering_then (bytes_cmp a.body.source b.body.source)
      (ordering_then (bytes_cmp a.body.cfcc b.body.cfcc)
      (ordering_then (bytes_cmp a.body.laname b.body.laname) (by a.body.point b.body.point)))))

  pub landmarks-in_order : (xs : List Fields7) → IsInOrder by_fields xs → IsInOrder landmark_cmp xs
  landmarks-in_order = in_order-alike by_fields landmark_cmp
      (λ a b. ap (λ c. ordering_then (nat_cmp a.land b.land)
      (ordering_then (bytes_cmp a.body.file b.body.file)
      (ordering_then (bytes_cmp a.body.source b.body.source)
      (ordering_then (bytes_cmp a.body.cfcc b.body.cfcc) (ordering_then (bytes_cmp a.body.laname b.body.laname) c)))))
      (points_alike a.body.point b.body.point))
