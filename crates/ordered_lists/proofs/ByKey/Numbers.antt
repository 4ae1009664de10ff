-- Elements by their numbers: how many have a number, and lists that ascend strictly.
use Rattle.ordered_lists.proofs.Common.{AllByRecursion, Bool, Equal, Greater, IsInOrder, Less, List, Ordering, [], ap, arith, cond, contains, distinct, false, filter, in_order, inl, inr, is_eq, is_gt, length, map, put_in_order, refl, suc, sym, times, true, true≢false, ◌∙◌, ◌∷◌, ◌≡◌, ◌≤◌}
use Rattle.ordered_lists.proofs.ByKey.Keys.{IsApart, IsKeyOrder, apart_tail, times-no, times-yes}
use Rattle.ordered_lists.proofs.Lists.Among.{Among, all_among}
use Rattle.ordered_lists.proofs.Lists.Distinct.{apart-distinct, count-put}
use Rattle.ordered_lists.proofs.Lists.Elements.{all_weaker}
use Rattle.ordered_lists.proofs.Lists.InOrder.{put-in_order}
use Rattle.std.specs.List.Sorted.{IsStrictlySortedBy}

pub all_themselves : {X : Type 0} (xs : List X) → AllByRecursion (λ x. Among x xs) xs
all_themselves [] = tt
all_themselves (x ∷ xs) = (inl refl, all_weaker (λ y. Among y xs) (λ y. Among y (x ∷ xs)) (λ y m. inr m) xs (all_themselves xs))

pub only_one : {X : Type 0} (xs : List X) → length xs ≡ 1 → (x : X) × (xs ≡ x ∷ [])
only_one [] e = absurd (omega (arith, e))
only_one (x ∷ []) e = (x, refl)
only_one (x ∷ y ∷ xs) e = absurd (omega (arith, e))

-- putting in order keeps the elements
pub count-in_order : {X : Type 0} (p : X → Bool) (by : X → X → Ordering) (xs : List X)
    → length (filter p (in_order by xs)) ≡ length (filter p xs)
count-in_order p by [] = refl
count-in_order p by (x ∷ xs) = count-put p by x (in_order by xs) ∙ go (p x) (count-in_order p by xs)
  where
    go : (b : Bool) → length (filter p (in_order by xs)) ≡ length (filter p xs)
        → length (cond b (x ∷ filter p (in_order by xs)) (filter p (in_order by xs))) ≡ length (cond b (x ∷ filter p xs) (filter p xs))
    go true ih = ap suc ih
    go false ih = ih

pub count-map : {X Y : Type 0} (p : Y → Bool) (f : X → Y) (xs : List X) → length (filter p (map f xs)) ≡ length (filter (λ x. p (f x)) xs)
count-map p f [] = refl
count-map p f (x ∷ xs) = go (p (f x)) (count-map p f xs)
  where
    go : (b : Bool) → length (filter p (map f xs)) ≡ length (filter (λ y. p (f y)) xs)
        → length (cond b (f x ∷ filter p (map f xs)) (filter p (map f xs))) ≡ length
        (cond b (x ∷ filter (λ y. p (f y)) xs) (filter (λ y. p (f y)) xs))
    go true ih = ap suc ih
    go false ih = ih

pub times-in_order : {X K : Type 0} (cmp : K → K → Ordering) (f : X → K) (by : X → X → Ordering) (xs : List X) (k : K)
    → times cmp k (map f (in_order by xs)) ≡ times cmp k (map f xs)
times-in_order cmp f by xs k = count-map (λ j. is_eq (cmp k j)) f (in_order by xs) ∙ count-in_order (λ x. is_eq (cmp k (f x))) by xs
    ∙ sym (count-map (λ j. is_eq (cmp k j)) f xs)

pub all-put : {X : Type 0} (P : X → Type 0) (by : X → X → Ordering) (x : X) (ys : List X) → P x → AllByRecursion P ys
    → AllByRecursion P (put_in_order by x ys)
all-put P by x [] p a = (p, tt)
all-put P by x (y ∷ ys) p a = go (is_gt (by x y)) (all-put P by x ys p a.1)
  where
    go : (b : Bool) → AllByRecursion P (put_in_order by x ys) → AllByRecursion P (cond b (y ∷ put_in_order by x ys) (x ∷ y ∷ ys))
    go true h = (a.0, h)
    go false h = (p, a)

pub all-in_order : {X : Type 0} (P : X → Type 0) (by : X → X → Ordering) (xs : List X) → AllByRecursion P xs
    → AllByRecursion P (in_order by xs)
all-in_order P by [] a = tt
all-in_order P by (x ∷ xs) a = all-put P by x (in_order by xs) a.0 (all-in_order P by xs a.1)

pub from_in_order : {X : Type 0} (by : X → X → Ordering) (xs : List X) (x : X) → Among x (in_order by xs) → Among x xs
from_in_order by xs x m = all_among (λ y. Among y xs) x (in_order by xs) (all-in_order (λ y. Among y xs) by xs (all_themselves xs)) m

module _ {K : Type 0} {cmp : K → K → Ordering} (o : IsKeyOrder cmp) where
  lower : (a : Ordering) → is_gt a ≡ false → is_eq a ≡ false → a ≡ Less
  lower Less g e = refl
  lower Equal g e = absurd (true≢false e)
  lower Greater g e = absurd (true≢false g)

  -- a list in order in which nothing occurs twice is strictly ascending
  pub strict_from_order : (ks : List K) → IsInOrder cmp ks → IsApart cmp ks → IsStrictlySortedBy cmp ks
  unfolding IsStrictlySortedBy
  strict_from_order [] h a = tt
  strict_from_order (k ∷ ks) h a = (each ks h.0 none, strict_from_order ks h.1 (apart_tail o k ks a))
    where
      none : times cmp k ks ≤ 0
      none = omega (arith, times-yes o k k ks refl, a k)

      each : (js : List K) → AllByRecursion (λ j. is_gt (cmp k j) ≡ false) js → times cmp k js ≤ 0 → AllByRecursion (λ j. cmp k j ≡ Less) js
      each [] g n = tt
      each (j ∷ js) g n = go (is_eq (cmp k j)) refl (each js g.1)
        where
          go : (b : Bool) → is_eq (cmp k j) ≡ b → (times cmp k js ≤ 0 → AllByRecursion (λ i. cmp k i ≡ Less) js)
              → AllByRecursion (λ i. cmp k i ≡ Less) (j ∷ js)
          go true e ih = absurd (let t : times cmp k (j ∷ js) ≡ suc (times cmp k js) =
              ap (λ b. length (cond b (j ∷ filter (λ x. is_eq (cmp k x)) js) (filter (λ x. is_eq (cmp k x)) js))) e in omega (arith, t, n))
          go false e ih = (lower (cmp k j) g.0 e, ih (omega (arith, times-no o k j js e, n)))

  pub distinct-in_order : (ks : List K) → IsInOrder cmp (distinct cmp ks)
  distinct-in_order [] = tt
  distinct-in_order (k ∷ ks) = go (contains cmp k ks) (distinct-in_order ks)
    where
      go : (b : Bool) → IsInOrder cmp (distinct cmp ks) → IsInOrder cmp (cond b (distinct cmp ks) (put_in_order cmp k (distinct cmp ks)))
      go true ih = ih
      go false ih = put-in_order o.total k (distinct cmp ks) ih

  pub distinct-strict : (ks : List K) → IsStrictlySortedBy cmp (distinct cmp ks)
  distinct-strict ks = strict_from_order (distinct cmp ks) (distinct-in_order ks) (apart-distinct o ks)

to_put : {X : Type 0} (by : X → X → Ordering) (x y : X) (ys : List X) → Among x (y ∷ ys) → Among x (put_in_order by y ys)
to_put by x y [] m = m
to_put {X} by x y (z ∷ ys) m = go (is_gt (by y z)) m (to_put by x y ys)
  where
    go : (b : Bool) → Among x (y ∷ z ∷ ys) → (Among x (y ∷ ys) → Among x (put_in_order by y ys))
        → Among x (cond b (z ∷ put_in_order by y ys) (y ∷ z ∷ ys))
    go true (inl e) ih = inr (ih (inl e))
    go true (inr (inl e)) ih = inl e
    go true (inr (inr n)) ih = inr (ih (inr n))
    go false n ih = n

pub to_in_order : {X : Type 0} (by : X → X → Ordering) (xs : List X) (x : X) → Among x xs → Among x (in_order by xs)
to_in_order by [] x m = m
to_in_order by (y ∷ xs) x (inl e) = to_put by x y (in_order by xs) (inl e)
to_in_order by (y ∷ xs) x (inr m) = to_put by x y (in_order by xs) (inr (to_in_order by xs x m))

pub each_from : {X : Type 0} (P : X → Type 0) (xs : List X) → ((x : X) → Among x xs → P x) → AllByRecursion P xs
each_from P xs h = all_weaker (λ x. Among x xs) P h xs (all_themselves xs)

length-put : {X : Type 0} (by : X → X → Ordering) (x : X) (ys : List X) → length (put_in_order by x ys) ≡ suc (length ys)
length-put by x [] = refl
length-put {X} by x (y ∷ ys) = go (is_gt (by x y)) (length-put by x ys)
  where
    go : (b : Bool) → length (put_in_order by x ys) ≡ suc (length ys)
        → length (cond b (y ∷ put_in_order by x ys) (x ∷ y ∷ ys)) ≡ suc (suc (length ys))
    go true ih = ap suc ih
    go false ih = refl

pub length-in_order : {X : Type 0} (by : X → X → Ordering) (xs : List X) → length (in_order by xs) ≡ length xs
length-in_order by [] = refl
length-in_order by (x ∷ xs) = length-put by x (in_order by xs) ∙ ap suc (length-in_order by xs)
