-- Lists put in order by orders that compare their elements alike, and lists filtered by tests.
use Rattle.tl_number.proofs.Common.{Among, Bool, IsKeyOrder, List, Ordering, Some, [], all_among, all_filter, all_themselves, ap, ap₂, cond, cond-false, cond_both, differ, false, false≢true, filter, filter-agree, filter-filtered, from_in_order, in_order, inl, inr, is_eq, is_gt, map, on, put_in_order, refl, sym, true, value_under, ◌&&◌, ◌∙◌, ◌∷◌, ◌≡◌}
use Rattle.tl_number.proofs.Ties.CountyParts.{all_pass}

-- an element is put before the same one by orders that compare it alike
put_alike : {X : Type 0} (by by_too : X → X → Ordering) (x : X) (ys : List X) → ((y : X) → Among y ys → by x y ≡ by_too x y)
    → put_in_order by x ys ≡ put_in_order by_too x ys
put_alike by by_too x [] alike = refl
put_alike by by_too x (y ∷ ys) alike =
    ap₂ (λ o (l : List _). cond (is_gt o) (y ∷ l) (x ∷ y ∷ ys)) (alike y (inl refl)) (put_alike by by_too x ys (λ z h. alike z (inr h)))

-- lists are put in the same order by orders that compare their elements alike
pub order_alike : {X : Type 0} (by by_too : X → X → Ordering) (xs : List X) → ((x y : X) → Among x xs → Among y xs → by x y ≡ by_too x y)
    → in_order by xs ≡ in_order by_too xs
order_alike by by_too [] alike = refl
order_alike by by_too (x ∷ xs) alike =
    put_alike by by_too x (in_order by xs) (λ y h. alike x y (inl refl) (inr (from_in_order by xs y h)))
    ∙ ap (put_in_order by_too x) (order_alike by by_too xs (λ y z h k. alike y z (inr h) (inr k)))

-- images are put in the order of what they are images of
put_mapped : {X L : Type 0} (by : L → L → Ordering) (f : X → L) (x : X) (ys : List X)
    → put_in_order by (f x) (map f ys) ≡ map f (put_in_order (on f by) x ys)
put_mapped by f x [] = refl
put_mapped by f x (y ∷ ys) = ap (λ l. cond (is_gt (by (f x) (f y))) (f y ∷ l) (f x ∷ f y ∷ map f ys)) (put_mapped by f x ys)
    ∙ through (is_gt (by (f x) (f y)))
  where
    through : (b : Bool) → cond b (f y ∷ map f (put_in_order (on f by) x ys)) (f x ∷ f y ∷ map f ys)
        ≡ map f (cond b (y ∷ put_in_order (on f by) x ys) (x ∷ y ∷ ys))
    through true = refl
    through false = refl

-- images put in order are the images of elements put in order by them
pub order_mapped : {X L : Type 0} (by : L → L → Ordering) (f : X → L) (xs : List X) → in_order by (map f xs) ≡ map f (in_order (on f by) xs)
order_mapped by f [] = refl
order_mapped by f (x ∷ xs) = ap (put_in_order by (f x)) (order_mapped by f xs) ∙ put_mapped by f x (in_order (on f by) xs)

-- so two images of a list are put in order alike
pub images_alike : {X L M : Type 0} (by : L → L → Ordering) (by_too : M → M → Ordering) (f : X → L) (f_too : X → M) (xs : List X)
    → ((x y : X) → Among x xs → Among y xs → by (f x) (f y) ≡ by_too (f_too x) (f_too y))
    → in_order by_too (map f_too xs) ≡ map f_too (in_order (on f by) xs)
images_alike by by_too f f_too xs alike = order_mapped by_too f_too xs ∙ ap (map f_too) (sym (order_alike (on f by) (on f_too by_too) xs alike))

-- an element of a filtered list is one of the list, and passes
pub among_filtered : {X : Type 0} (test : X → Bool) (x : X) (xs : List X) → Among x (filter test xs) → Among x xs × (test x ≡ true)
among_filtered test x xs h = (
  all_among (λ y. Among y xs) x (filter test xs) (all_filter (λ y. Among y xs) test xs (all_themselves xs)) h,
  all_among (λ y. test y ≡ true) x (filter test xs) (all_pass test xs) h,
)

-- two tests can be applied in any order
pub filters_swap : {X : Type 0} (test other : X → Bool) (xs : List X) → filter test (filter other xs) ≡ filter other (filter test xs)
filters_swap test other xs =
    filter-filtered other test xs ∙ filter-agree (λ x. other x && test x) (λ x. test x && other x) (λ x. swap (other x) (test x)) xs
    ∙ sym (filter-filtered test other xs)
  where
    swap : (b c : Bool) → (b && c) ≡ (c && b)
    swap true true = refl
    swap true false = refl
    swap false true = refl
    swap false false = refl

-- the value under a key that passes a test is there among the entries whose keys pass
pub value_filtered : {K V : Type 0} {cmp : K → K → Ordering} (o : IsKeyOrder cmp) (test : K → Bool) (entries : List (K × V)) (key : K) → test key ≡ true
    → value_under cmp key (filter (λ entry. test entry.0) entries) ≡ value_under cmp key entries
value_filtered o test [] key passes = refl
value_filtered {cmp = cmp} o test (entry ∷ entries) key passes =
    let rest = value_filtered o test entries key passes in
    cond_both (test entry.0) (entry ∷ filter (λ e. test e.0) entries) (filter (λ e. test e.0) entries)
    (λ es. value_under cmp key es ≡ value_under cmp key (entry ∷ entries)) (λ e. ap (cond (is_eq (cmp key entry.0)) (Some entry.1)) rest)
    (λ e. rest ∙ sym (cond-false (is_eq (cmp key entry.0)) (Some entry.1) (value_under cmp key entries)
    (differ o key entry.0 (λ same. false≢true (sym e ∙ ap test (sym same) ∙ passes)))))
