-- Elements that are in a list.
use Rattle.std.proofs.Common.{List, Ordering, Some, [], ap, arith, false, inl, inr, is_eq, map, slice_get, subst, suc, sym, zero, ℕ, ◌++◌, ◌∷◌, ◌≡◌, ◌⊎◌}
use Rattle.std.specs.List.{AllByRecursion}
use Rattle.ordered_lists.proofs.ByKey.Keys.{IsKeyOrder, Known, known_cases}

-- x is in the list
abbrev pub Among : {X : Type 0} → X → List X → Type 0
Among x [] = ⊥
Among x (y ∷ ys) = (x ≡ y) ⊎ Among x ys

pub all_among : {X : Type 0} (P : X → Type 0) (x : X) (ys : List X) → AllByRecursion P ys → Among x ys → P x
all_among P x [] a h = absurd h
all_among P x (y ∷ ys) a (inl e) = subst P (sym e) a.0
all_among P x (y ∷ ys) a (inr h) = all_among P x ys a.1 h

-- the element at a place is in the list
pub among-get : {X : Type 0} (xs : List X) (i : ℕ) (x : X) → slice_get xs i ≡ Some x → Among x xs
among-get [] i x e = cc
among-get (y ∷ ys) zero x e = let t : x ≡ y = cc in inl t
among-get (y ∷ ys) (suc i) x e = inr (among-get ys i x e)

pub among_left : {X : Type 0} (x : X) (ys zs : List X) → Among x ys → Among x (ys ++ zs)
among_left x [] zs h = absurd h
among_left x (y ∷ ys) zs (inl e) = inl e
among_left x (y ∷ ys) zs (inr h) = inr (among_left x ys zs h)

pub among_right : {X : Type 0} (x : X) (ys zs : List X) → Among x zs → Among x (ys ++ zs)
among_right x [] zs h = h
among_right x (y ∷ ys) zs h = inr (among_right x ys zs h)

pub known_among : {K X : Type 0} {cmp : K → K → Ordering} (o : IsKeyOrder cmp) (f : K → X) (k : K) (ks : List K) → Known cmp ks k
    → Among (f k) (map f ks)
known_among o f k [] h = absurd (omega (arith, h))
known_among {cmp = cmp} o f k (j ∷ ks) h = go (known_cases o k j ks h) (known_among o f k ks)
  where
    go : (k ≡ j) ⊎ (Known cmp ks k × (is_eq (cmp k j) ≡ false)) → (Known cmp ks k → Among (f k) (map f ks)) → Among (f k) (f j ∷ map f ks)
    go (inl e) ih = inl (ap f e)
    go (inr r) ih = inr (ih r.0)
