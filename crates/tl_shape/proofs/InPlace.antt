-- Mapping a list in place, item by item.
use Rattle.std.proofs.Common.{List, [], add-one, ap, arith, drop, get_or, length, map, refl, slice_set, suc, take, zero, ℕ, ◌++◌, ◌+◌, ◌<◌, ◌∙◌, ◌∷◌, ◌≡◌, ◌≤◌}
use Rattle.std.proofs.lemmas.List.{append-nil, drop_all, take_all}

-- the item at the position that is mapped next is still unmapped
at_place : {X : Type 0} (f : X → X) (xs : List X) (i : ℕ) (d : X) → get_or (map f (take i xs) ++ drop i xs) i d ≡ get_or xs i d
at_place f [] zero d = refl
at_place f [] (suc i) d = refl
at_place f (x ∷ xs) zero d = refl
at_place f (x ∷ xs) (suc i) d = at_place f xs i d

one_mapped : {X : Type 0} (f : X → X) (xs : List X) (i : ℕ) (d : X) → i < length xs
    → slice_set (map f (take i xs) ++ drop i xs) i (f (get_or xs i d)) ≡ map f (take (suc i) xs) ++ drop (suc i) xs
one_mapped f [] i d h = absurd (omega arith)
one_mapped f (x ∷ xs) zero d h = refl
one_mapped f (x ∷ xs) (suc i) d h = ap (λ (l : List _). f x ∷ l) (one_mapped f xs i d (omega arith))

-- the next item is mapped
pub mapped_next : {X : Type 0} (f : X → X) (xs now : List X) (i : ℕ) (x y : X) → i < length xs → now ≡ map f (take i xs) ++ drop i xs
    → x ≡ get_or now i x → y ≡ f x → slice_set now i y ≡ map f (take (i + 1) xs) ++ drop (i + 1) xs
mapped_next f xs now i x y h e was is =
    let item : x ≡ get_or xs i x = was ∙ (ap (λ l. get_or l i x) e ∙ at_place f xs i x) in
    rw (add-one, e, is) (ap (λ v. slice_set (map f (take i xs) ++ drop i xs) i (f v)) item ∙ one_mapped f xs i x h)

-- all items are mapped
pub mapped_all : {X : Type 0} (f : X → X) (xs now : List X) (i : ℕ) → length xs ≤ i → now ≡ map f (take i xs) ++ drop i xs → now ≡ map f xs
mapped_all f xs now i h e = e ∙ rw (take_all i xs h, drop_all i xs h) (append-nil (map f xs))
