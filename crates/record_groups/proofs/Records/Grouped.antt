-- Groups made from the entries of a list, and lists read by place.
use Rattle.record_groups.proofs.Common.{List, Option, Some, [], ap, append-nil, append_assoc, arith, drop, flat_map, flat_map-append, get_dropped, get_taken, group_at, grouped, length, map, option_map, refl, slice_get, slice_get-map, suc, sym, take, take-add, take-append-drop, unwrap_or, zero, ℕ, ◌++◌, ◌+◌, ◌<◌, ◌∙◌, ◌∷◌, ◌≡◌}

-- the group of an entry
pub group_of : {X Y : Type 0} (f : X → List Y) (xs : List X) (place : ℕ) (x : X) → slice_get xs place ≡ Some x → group_at (map f xs) place ≡
    f x
group_of f xs place x e = ap (λ (o : Option (List _)). unwrap_or o []) (slice_get-map f xs place ∙ ap (option_map f) e)

pub grouped_map : {X Y : Type 0} (f : X → List Y) (xs : List X) → grouped (map f xs) ≡ flat_map f xs
grouped_map f [] = refl
grouped_map f (x ∷ xs) = ap (λ ys. f x ++ ys) (grouped_map f xs)

pub grouped_lone : {X Y : Type 0} (f : X → Y) (xs : List X) → grouped (map (λ x. f x ∷ []) xs) ≡ map f xs
grouped_lone f [] = refl
grouped_lone f (x ∷ xs) = ap (λ ys. f x ∷ ys) (grouped_lone f xs)

-- groups up to a place, and up to the next one
pub next_grouped : {X : Type 0} (xs : List (List X)) (place : ℕ) → place < length xs
    → grouped (take (suc place) xs) ≡ grouped (take place xs) ++ group_at xs place
next_grouped [] place h = absurd (omega (arith, h))
next_grouped (y ∷ ys) zero h = append-nil y
next_grouped (y ∷ ys) (suc place) h = ap (λ l. y ++ l) (next_grouped ys place (omega (arith, h)))
    ∙ sym (append_assoc y (grouped (take place ys)) (group_at ys place))

pub grouped_parted : {X : Type 0} (xs : List (List X)) (place : ℕ) → place < length xs
    → grouped xs ≡ grouped (take place xs) ++ (group_at xs place ++ grouped (drop (suc place) xs))
grouped_parted [] place h = absurd (omega (arith, h))
grouped_parted (y ∷ ys) zero h = refl
grouped_parted (y ∷ ys) (suc place) h = ap (λ l. y ++ l) (grouped_parted ys place (omega (arith, h)))
    ∙ sym (append_assoc y (grouped (take place ys)) (group_at ys place ++ grouped (drop (suc place) ys)))

-- groups up to a place, the next ones, and the rest after them
pub grouped_up_to : {X : Type 0} (xs : List (List X)) (first n : ℕ)
    → grouped (take (first + n) xs) ≡ grouped (take first xs) ++ grouped (take n (drop first xs))
grouped_up_to xs first n = ap grouped (take-add first n xs) ∙ flat_map-append (λ group. group) (take first xs) (take n (drop first xs))

grouped_both : {X : Type 0} (xs : List (List X)) (n : ℕ) → grouped xs ≡ grouped (take n xs) ++ grouped (drop n xs)
grouped_both xs n = ap grouped (sym (take-append-drop n xs)) ∙ flat_map-append (λ group. group) (take n xs) (drop n xs)

pub grouped_around : {X : Type 0} (xs : List (List X)) (first n : ℕ)
    → grouped xs ≡ grouped (take first xs) ++ (grouped (take n (drop first xs)) ++ grouped (drop n (drop first xs)))
grouped_around xs first n = grouped_both xs first ∙ ap (λ rest. grouped (take first xs) ++ rest) (grouped_both (drop first xs) n)

pub group_headed : {X : Type 0} (xs : List (List X)) (first n ahead : ℕ) → ahead < n
    → group_at (take n (drop first xs)) ahead ≡ group_at xs (first + ahead)
group_headed xs first n ahead h =
    ap (λ (o : Option (List _)). unwrap_or o []) (get_taken (drop first xs) n ahead h ∙ get_dropped first xs ahead)
