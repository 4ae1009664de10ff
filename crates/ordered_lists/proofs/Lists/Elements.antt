-- Lists: properties of each element, and maps that agree.
use Rattle.ordered_lists.proofs.Common.{All, AllByRecursion, Bool, List, None, Option, Some, [], ap, arith, cond, cons_option, false, filter, filter_map, flat_map, map, refl, suc, true, ◌++◌, ◌∷◌, ◌≡◌}

pub map_itself : {X : Type 0} (f : X → X) → ((x : X) → f x ≡ x) → (xs : List X) → map f xs ≡ xs
map_itself f h [] = refl
map_itself f h (x ∷ xs) = λ i. h x i ∷ map_itself f h xs i

-- a property of the element at each place is a property of each element
pub all_places : {X : Type 0} (P : X → Type 0) (xs : List X) → All P xs → AllByRecursion P xs
all_places P [] h = tt
all_places P (x ∷ xs) h = (h 0 x (omega arith), all_places P xs (λ k d l. h (suc k) d (omega arith)))

pub map-map : {X Y Z : Type 0} (g : Y → Z) (f : X → Y) (xs : List X) → map g (map f xs) ≡ map (λ x. g (f x)) xs
map-map g f [] = refl
map-map g f (x ∷ xs) = ap (λ ys. g (f x) ∷ ys) (map-map g f xs)

pub map_agree_all : {X Y : Type 0} (f g : X → Y) (P : X → Type 0) → ((x : X) → P x → f x ≡ g x) → (xs : List X) → AllByRecursion P xs
    → map f xs ≡ map g xs
map_agree_all f g P h [] a = refl
map_agree_all f g P h (x ∷ xs) a = λ i. h x a.0 i ∷ map_agree_all f g P h xs a.1 i

pub map_agree_everywhere : {X Y : Type 0} (f g : X → Y) → ((x : X) → f x ≡ g x) → (xs : List X) → map f xs ≡ map g xs
map_agree_everywhere f g h [] = refl
map_agree_everywhere f g h (x ∷ xs) = λ i. h x i ∷ map_agree_everywhere f g h xs i

pub all_weaker : {X : Type 0} (P Q : X → Type 0) → ((x : X) → P x → Q x) → (xs : List X) → AllByRecursion P xs → AllByRecursion Q xs
all_weaker P Q h [] a = tt
all_weaker P Q h (x ∷ xs) a = (h x a.0, all_weaker P Q h xs a.1)

pub all_both : {X : Type 0} (P Q : X → Type 0) (xs : List X) → AllByRecursion P xs → AllByRecursion Q xs
    → AllByRecursion (λ x. P x × Q x) xs
all_both P Q [] a b = tt
all_both P Q (x ∷ xs) a b = ((a.0, b.0), all_both P Q xs a.1 b.1)

pub all_everywhere : {X : Type 0} (P : X → Type 0) → ((x : X) → P x) → (xs : List X) → AllByRecursion P xs
all_everywhere P h [] = tt
all_everywhere P h (x ∷ xs) = (h x, all_everywhere P h xs)

pub all_map : {X Y : Type 0} (P : Y → Type 0) (f : X → Y) (xs : List X) → AllByRecursion (λ x. P (f x)) xs → AllByRecursion P (map f xs)
all_map P f [] a = tt
all_map P f (x ∷ xs) a = (a.0, all_map P f xs a.1)

pub all_unmap : {X Y : Type 0} (P : Y → Type 0) (f : X → Y) (xs : List X) → AllByRecursion P (map f xs) → AllByRecursion (λ x. P (f x)) xs
all_unmap P f [] a = tt
all_unmap P f (x ∷ xs) a = (a.0, all_unmap P f xs a.1)

pub all_left : {X : Type 0} (P : X → Type 0) (xs ys : List X) → AllByRecursion P (xs ++ ys) → AllByRecursion P xs
all_left P [] ys a = tt
all_left P (x ∷ xs) ys a = (a.0, all_left P xs ys a.1)

pub all_right : {X : Type 0} (P : X → Type 0) (xs ys : List X) → AllByRecursion P (xs ++ ys) → AllByRecursion P ys
all_right P [] ys a = a
all_right P (x ∷ xs) ys a = all_right P xs ys a.1

pub all_append : {X : Type 0} (P : X → Type 0) (xs ys : List X) → AllByRecursion P xs → AllByRecursion P ys → AllByRecursion P (xs ++ ys)
all_append P [] ys a b = b
all_append P (x ∷ xs) ys a b = (a.0, all_append P xs ys a.1 b)

pub all_pieces : {X Y : Type 0} (P : Y → Type 0) (f : X → List Y) (xs : List X) → AllByRecursion P (flat_map f xs)
    → AllByRecursion (λ x. AllByRecursion P (f x)) xs
all_pieces P f [] a = tt
all_pieces P f (x ∷ xs) a = (all_left P (f x) (flat_map f xs) a, all_pieces P f xs (all_right P (f x) (flat_map f xs) a))

pub all_joined : {X Y : Type 0} (P : Y → Type 0) (f : X → List Y) (xs : List X) → AllByRecursion (λ x. AllByRecursion P (f x)) xs
    → AllByRecursion P (flat_map f xs)
all_joined P f [] a = tt
all_joined P f (x ∷ xs) a = all_append P (f x) (flat_map f xs) a.0 (all_joined P f xs a.1)

pub all_filter : {X : Type 0} (P : X → Type 0) (test : X → Bool) (xs : List X) → AllByRecursion P xs → AllByRecursion P (filter test xs)
all_filter P test [] a = tt
all_filter P test (x ∷ xs) a = go (test x) (all_filter P test xs a.1)
  where
    go : (b : Bool) → AllByRecursion P (filter test xs) → AllByRecursion P (cond b (x ∷ filter test xs) (filter test xs))
    go true h = (a.0, h)
    go false h = h

pub flat_map_agree : {X Y : Type 0} (f g : X → List Y) → ((x : X) → f x ≡ g x) → (xs : List X) → flat_map f xs ≡ flat_map g xs
flat_map_agree f g h [] = refl
flat_map_agree f g h (x ∷ xs) = λ i. h x i ++ flat_map_agree f g h xs i

pub flat_map-map : {X Y Z : Type 0} (f : Y → List Z) (g : X → Y) (xs : List X) → flat_map f (map g xs) ≡ flat_map (λ x. f (g x)) xs
flat_map-map f g [] = refl
flat_map-map f g (x ∷ xs) = ap (λ zs. f (g x) ++ zs) (flat_map-map f g xs)

-- selecting from wrapped values returns the values
pub selected_own : {X Y : Type 0} (h : X → Option Y) (wrap : Y → X) → ((y : Y) → h (wrap y) ≡ Some y) → (ys : List Y)
    → filter_map h (map wrap ys) ≡ ys
selected_own h wrap e [] = refl
selected_own h wrap e (y ∷ ys) = λ i. cons_option (e y i) (selected_own h wrap e ys i)

pub selected_none : {X Y Z : Type 0} (h : X → Option Y) (wrap : Z → X) → ((z : Z) → h (wrap z) ≡ None) → (zs : List Z)
    → filter_map h (map wrap zs) ≡ []
selected_none h wrap e [] = refl
selected_none h wrap e (z ∷ zs) = λ i. cons_option (e z i) (selected_none h wrap e zs i)
