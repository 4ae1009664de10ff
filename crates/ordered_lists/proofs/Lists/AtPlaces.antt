-- Lists read at places: in order, at all places in another order, and with each item turned into another.
use Rattle.ordered_lists.proofs.Common.{AllByRecursion, IsInOrder, IsPermutation, IsPermutation-map, IsPermutation-refl, List, None, Option, Some, [], ap, arith, at_places, cons_option, fill_by_all, get_or, length, length_permutation, map, nat_cmp, on, option_map, range_with_len, refl, slice_get, slice_get-get_or, slice_get-map, subst, sym, ℕ, ◌<◌, ◌∙◌, ◌∷◌, ◌≡◌}
use Rattle.ordered_lists.proofs.Lists.InOrder.{in_order-map}
use Rattle.ordered_lists.proofs.Lists.Ranges.{places_below}

-- at places that aren't past the end, each is read
read_each : {X : Type 0} (items : List X) (d : X) (places : List ℕ) → AllByRecursion (λ place. place < length items) places
    → at_places items places ≡ map (λ place. get_or items place d) places
read_each items d [] h = refl
read_each items d (place ∷ places) h =
    ap (λ found. cons_option found (at_places items places)) (slice_get-get_or items place d h.0)
    ∙ ap (λ rest. get_or items place d ∷ rest) (read_each items d places h.1)

-- the places in any order
module _ {X : Type 0} (items : List X) (places : List ℕ) (p : IsPermutation (range_with_len 0 (length items)) places) where
  pub read_all : (d : X) → at_places items places ≡ map (λ place. get_or items place d) places
  read_all d = read_each items d places (places_below (length items) places p)

-- at all places in order, the list is read as it is
pub at_all_places : {X : Type 0} (items : List X) → at_places items (range_with_len 0 (length items)) ≡ items
at_all_places [] = refl
at_all_places {X} (x ∷ xs) =
    let items = x ∷ xs in
    read_all items (range_with_len 0 (length items)) (IsPermutation-refl (range_with_len 0 (length items))) x
    ∙ sym (fill_by_all (λ place. get_or items place x) items (length items) x refl (λ k h. refl))

-- at all places in any order, the items are the same
pub all_at_places : {X : Type 0} (items : List X) (places : List ℕ) → IsPermutation (range_with_len 0 (length items)) places
    → IsPermutation items (at_places items places)
all_at_places [] [] p = IsPermutation-refl []
all_at_places [] (place ∷ places) p = absurd (omega (arith, length_permutation [] (place ∷ places) p))
all_at_places {X} (x ∷ xs) places p =
    let items = x ∷ xs in
    let read : ℕ → X = λ place. get_or items place x in
    let range : List ℕ = range_with_len 0 (length items) in
    subst (λ found. IsPermutation items found) (sym (read_all items places p x))
    (subst (λ all. IsPermutation all (map read places))
    (sym (read_all items range (IsPermutation-refl range) x) ∙ at_all_places items) (IsPermutation-map read range places p))

-- each item turned into another
pub map-at_places : {X Y : Type 0} (f : X → Y) (items : List X) (places : List ℕ)
    → map f (at_places items places) ≡ at_places (map f items) places
map-at_places f items [] = refl
map-at_places {X} f items (place ∷ places) =
    found (slice_get items place) (map-at_places f items places)
    ∙ ap (λ o. cons_option o (at_places (map f items) places)) (sym (slice_get-map f items place))
  where
    found : (o : Option X) → map f (at_places items places) ≡ at_places (map f items) places
        → map f (cons_option o (at_places items places)) ≡ cons_option (option_map f o) (at_places (map f items) places)
    found None ih = ih
    found (Some x) ih = ap (λ ys. f x ∷ ys) ih

-- in the order of the numbers there
pub numbers_in_order : (numbers places : List ℕ) → IsPermutation (range_with_len 0 (length numbers)) places
    → IsInOrder (on (λ place. get_or numbers place 0) nat_cmp) places → IsInOrder nat_cmp (at_places numbers places)
numbers_in_order numbers places p h =
    subst (IsInOrder nat_cmp) (sym (read_all numbers places p 0)) (in_order-map nat_cmp (λ place. get_or numbers place 0) places h)
