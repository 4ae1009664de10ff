-- Elements of a list: under a permutation, in a map, and when a test finds one.
use Rattle.ordered_lists.proofs.Common.{Bool, Contains, Contains-permutation, IsPermutation, List, None, Option, Ordering, Some, [], ap, arith, cons_option, false, false≢true, filter_map, flat_map, get_or, inl, inr, is_eq, length, list_any, map, or_cases, or_left, or_right, refl, subst, suc, sym, true, zero, ℕ, ◌++◌, ◌<◌, ◌∙◌, ◌∷◌, ◌≡◌, ◌⊎◌}
use Rattle.ordered_lists.proofs.Lists.Among.{Among}
use Rattle.ordered_lists.proofs.ByKey.Keys.{IsApart, IsKeyOrder, Known, apart_tail, known-here, known-later, known_cases, times-yes}

pub contains-among : {X : Type 0} (x : X) (xs : List X) → Among x xs → Contains xs x
contains-among x [] h = absurd h
contains-among x (y ∷ ys) (inl e) = (0, omega arith, sym e)
contains-among x (y ∷ ys) (inr h) =
    let c : Contains ys x = contains-among x ys h in
    (suc c.0, (let lt : c.0 < length ys = c.1 in omega arith), c.2)

pub among-contains : {X : Type 0} (x : X) (xs : List X) (k : ℕ) → k < length xs → get_or xs k x ≡ x → Among x xs
among-contains x [] k lt e = absurd (omega arith)
among-contains x (y ∷ ys) zero lt e = inl (sym e)
among-contains x (y ∷ ys) (suc k) lt e = inr (among-contains x ys k (omega arith) e)

pub among-permutation : {X : Type 0} (x : X) (xs ys : List X) → IsPermutation xs ys → Among x xs → Among x ys
among-permutation x xs ys p h =
    let c : Contains ys x = Contains-permutation xs ys x p (contains-among x xs h) in
    among-contains x ys c.0 c.1 c.2

pub among-map : {X Y : Type 0} (f : X → Y) (x : X) (xs : List X) → Among x xs → Among (f x) (map f xs)
among-map f x [] h = absurd h
among-map f x (y ∷ ys) (inl e) = inl (ap f e)
among-map f x (y ∷ ys) (inr h) = inr (among-map f x ys h)

pub among-unmap : {X Y : Type 0} (f : X → Y) (y : Y) (xs : List X) → Among y (map f xs) → (x : X) × Among x xs × (y ≡ f x)
among-unmap f y [] h = absurd h
among-unmap f y (x ∷ xs) (inl e) = (x, inl refl, e)
among-unmap f y (x ∷ xs) (inr h) =
    let r : (z : _) × Among z xs × (y ≡ f z) = among-unmap f y xs h in
    (r.0, inr r.1, r.2)

pub among-pieces : {X Y : Type 0} (f : X → List Y) (x : X) (y : Y) (xs : List X) → Among x xs → Among y (f x) → Among y (flat_map f xs)
among-pieces f x y [] h k = absurd h
among-pieces f x y (z ∷ xs) (inl e) k = among-left' (subst (λ w. Among y (f w)) e k)
  where
    left : (ys zs : List _) → Among y ys → Among y (ys ++ zs)
    left [] zs h = absurd h
    left (w ∷ ys) zs (inl e) = inl e
    left (w ∷ ys) zs (inr h) = inr (left ys zs h)

    among-left' : Among y (f z) → Among y (f z ++ flat_map f xs)
    among-left' h = left (f z) (flat_map f xs) h
among-pieces f x y (z ∷ xs) (inr h) k = right (f z) (among-pieces f x y xs h k)
  where
    right : (ys : List _) → Among y (flat_map f xs) → Among y (ys ++ flat_map f xs)
    right [] h = h
    right (w ∷ ys) h = inr (right ys h)

pub among_any : {X : Type 0} (p : X → Bool) (x : X) (xs : List X) → Among x xs → p x ≡ true → list_any p xs ≡ true
among_any p x [] h e = absurd h
among_any p x (y ∷ ys) (inl same) e = or_left (p y) (list_any p ys) (ap p (sym same) ∙ e)
among_any p x (y ∷ ys) (inr h) e = or_right (p y) (list_any p ys) (among_any p x ys h e)

pub any_among : {X : Type 0} (p : X → Bool) (xs : List X) → list_any p xs ≡ true → (x : X) × Among x xs × (p x ≡ true)
any_among p [] e = absurd (false≢true e)
any_among {X} p (y ∷ ys) e = go (or_cases (p y) (list_any p ys) e) (any_among p ys)
  where
    go : (p y ≡ true) ⊎ (list_any p ys ≡ true) → (list_any p ys ≡ true → (x : X) × Among x ys × (p x ≡ true))
        → (x : X) × Among x (y ∷ ys) × (p x ≡ true)
    go (inl t) ih = (y, inl refl, t)
    go (inr t) ih = let r : (x : X) × Among x ys × (p x ≡ true) = ih t in (r.0, inr r.1, r.2)

module _ {K : Type 0} {cmp : K → K → Ordering} (o : IsKeyOrder cmp) where
  pub among_known : (k : K) (ks : List K) → Among k ks → Known cmp ks k
  among_known k [] h = absurd h
  among_known k (j ∷ ks) (inl e) = subst (λ i. Known cmp (j ∷ ks) i) (sym e) (known-here o j ks)
  among_known k (j ∷ ks) (inr h) = known-later o k j ks (among_known k ks h)

  pub known_is_among : (k : K) (ks : List K) → Known cmp ks k → Among k ks
  known_is_among k [] h = absurd (omega (arith, h))
  known_is_among k (j ∷ ks) h = go (known_cases o k j ks h) (known_is_among k ks)
    where
      go : (k ≡ j) ⊎ (Known cmp ks k × (is_eq (cmp k j) ≡ false)) → (Known cmp ks k → Among k ks) → Among k (j ∷ ks)
      go (inl e) ih = inl e
      go (inr r) ih = inr (ih r.0)

-- the elements of a filtered map
pub in_filter_map : {X Y : Type 0} (h : X → Option Y) (y : Y) (xs : List X) → Among y (filter_map h xs)
    → (x : X) × Among x xs × (h x ≡ Some y)
in_filter_map h y [] m = absurd m
in_filter_map {X} {Y} h y (x ∷ xs) m = go (h x) refl m (in_filter_map h y xs)
  where
    go : (o : Option Y) → h x ≡ o → Among y (cons_option o (filter_map h xs))
        → (Among y (filter_map h xs) → (z : X) × Among z xs × (h z ≡ Some y)) → (z : X) × Among z (x ∷ xs) × (h z ≡ Some y)
    go None e n ih = let r : (z : X) × Among z xs × (h z ≡ Some y) = ih n in (r.0, inr r.1, r.2)
    go (Some w) e (inl f) ih = (x, inl refl, e ∙ ap Some (sym f))
    go (Some w) e (inr n) ih = let r : (z : X) × Among z xs × (h z ≡ Some y) = ih n in (r.0, inr r.1, r.2)

pub to_filter_map : {X Y : Type 0} (h : X → Option Y) (x : X) (y : Y) (xs : List X) → Among x xs → h x ≡ Some y → Among y (filter_map h xs)
to_filter_map h x y [] m e = absurd m
to_filter_map h x y (z ∷ xs) (inl f) e = subst (λ o. Among y (cons_option o (filter_map h xs))) (sym (ap h (sym f) ∙ e)) (inl refl)
to_filter_map {X} {Y} h x y (z ∷ xs) (inr m) e = go (h z) (to_filter_map h x y xs m e)
  where
    go : (o : Option Y) → Among y (filter_map h xs) → Among y (cons_option o (filter_map h xs))
    go None n = n
    go (Some w) n = inr n

-- if no left part occurs twice, two entries with the same left part are equal
pub one_entry : {K V : Type 0} {cmp : K → K → Ordering} (o : IsKeyOrder cmp) (es : List (K × V)) → IsApart cmp (map (λ e. e.0) es)
    → (p q : K × V) → Among p es → Among q es → p.0 ≡ q.0 → p ≡ q
one_entry o [] a p q m n same = absurd m
one_entry o (e ∷ es) a p q (inl f) (inl g) same = f ∙ sym g
one_entry {K} {V} o (e ∷ es) a p q (inl f) (inr n) same =
    absurd (let l = among_known o q.0 (map (λ (d : K × V). d.0) es) (among-map (λ (d : K × V). d.0) q es n) in
    let t = times-yes o q.0 e.0 (map (λ (d : K × V). d.0) es) (sym same ∙ ap (λ (d : K × V). d.0) f) in omega (arith, a q.0, t, l))
one_entry {K} {V} o (e ∷ es) a p q (inr m) (inl g) same =
    absurd (let l = among_known o p.0 (map (λ (d : K × V). d.0) es) (among-map (λ (d : K × V). d.0) p es m) in
    let t = times-yes o p.0 e.0 (map (λ (d : K × V). d.0) es) (same ∙ ap (λ (d : K × V). d.0) g) in omega (arith, a p.0, t, l))
one_entry {K} {V} o (e ∷ es) a p q (inr m) (inr n) same = one_entry o es (apart_tail o e.0 (map (λ (d : K × V). d.0) es) a) p q m n same
