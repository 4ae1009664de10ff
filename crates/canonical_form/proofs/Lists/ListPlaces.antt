-- Lists read by place, and parts of lists.
use Rattle.canonical_form.proofs.Common.{Equal, Greater, Less, List, None, Option, Ordering, Some, [], ap, arith, drop, length, length-drop, length-take, map, min, ordering_then, refl, slice_get, suc, sym, take, zero, ℕ, ◌++◌, ◌+◌, ◌<◌, ◌∙◌, ◌∷◌, ◌≡◌, ◌≤◌}

pub some-same : {X : Type 0} (o : Option X) (x y : X) → Some x ≡ o → o ≡ Some y → x ≡ y
some-same o x y e f = cc

pub none_past : {X : Type 0} (xs : List X) (i : ℕ) (x : X) → slice_get xs i ≡ Some x → i < length xs
none_past [] i x e = cc
none_past (y ∷ ys) zero x e = omega arith
none_past (y ∷ ys) (suc i) x e = omega (arith, none_past ys i x e)

-- the only element of its group
pub lone : {X : Type 0} (xs : List X) (x : X) (place : ℕ) → xs ≡ x ∷ [] → place < length xs → slice_get xs place ≡ Some x
lone xs x place e h = go place (let l : length xs ≡ 1 = ap length e in omega (arith, h)) ∙ refl
  where
    go : (k : ℕ) → k < 1 → slice_get xs k ≡ Some x
    go zero l = ap (λ ys. slice_get ys 0) e
    go (suc k) l = absurd (omega (arith, l))

pub map-append : {X Y : Type 0} (f : X → Y) (xs ys : List X) → map f (xs ++ ys) ≡ map f xs ++ map f ys
map-append f [] ys = refl
map-append f (x ∷ xs) ys = ap (λ zs. f x ∷ zs) (map-append f xs ys)

-- reading after elements were dropped
pub get_dropped : {X : Type 0} (n : ℕ) (xs : List X) (k : ℕ) → slice_get (drop n xs) k ≡ slice_get xs (n + k)
get_dropped zero xs k = ap (slice_get xs) (let e : k ≡ 0 + k = omega arith in e)
get_dropped {X} (suc n) [] k = sym (nothing (suc n + k))
  where
    nothing : (j : ℕ) → slice_get {X = X} [] j ≡ None
    nothing j = refl
get_dropped (suc n) (x ∷ xs) k = get_dropped n xs k ∙ ap (slice_get (x ∷ xs)) (let e : suc (n + k) ≡ suc n + k = omega arith in e)

-- a list around one of its elements
pub parted : {X : Type 0} (xs : List X) (place : ℕ) (x : X) → Some x ≡ slice_get xs place → xs ≡ take place xs ++ (x ∷ drop (suc place) xs)
parted [] place x e = cc
parted (y ∷ ys) zero x e = let same : y ≡ x = cc in ap (λ z. z ∷ ys) same
parted (y ∷ ys) (suc place) x e = ap (λ l. y ∷ l) (parted ys place x e)

-- reading the first elements
pub get_taken : {X : Type 0} (xs : List X) (n i : ℕ) → i < n → slice_get (take n xs) i ≡ slice_get xs i
get_taken xs zero i h = absurd (omega (arith, h))
get_taken [] (suc n) i h = refl
get_taken (x ∷ xs) (suc n) zero h = refl
get_taken (x ∷ xs) (suc n) (suc i) h = get_taken xs n i (omega (arith, h))

-- consecutive groups
pub length_headed : {X : Type 0} (xs : List X) (first n : ℕ) → first + n ≤ length xs → length (take n (drop first xs)) ≡ n
length_headed xs first n h = length-take n (drop first xs) ∙ ap (min n) (length-drop first xs) ∙ omega (arith, h)

-- the order of three tests
pub then_assoc : (a b c : Ordering) → ordering_then a (ordering_then b c) ≡ ordering_then (ordering_then a b) c
then_assoc Less b c = refl
then_assoc Equal b c = refl
then_assoc Greater b c = refl
