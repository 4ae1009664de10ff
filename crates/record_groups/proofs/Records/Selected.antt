-- Selecting from a list that is put in order.
use Rattle.record_groups.proofs.Common.{AllByRecursion, Bool, IsInOrder, List, None, Option, Ordering, Some, [], all_weaker, ap, cond, cons_option, false, filter_map, grouped, in_order, in_order-in_order, is_gt, map, nat_cmp, nat_cmp_total, on, on_total, option_to_list, put_in_order, refl, sym, true, upto, ℕ, ◌++◌, ◌∙◌, ◌∷◌, ◌≡◌}

pub grouped_selected : {X Y : Type 0} (h : X → Option Y) (xs : List X) → grouped (map (λ x. option_to_list (h x)) xs) ≡ filter_map h xs
grouped_selected h [] = refl
grouped_selected {X} {Y} h (x ∷ xs) = go (h x) (grouped_selected h xs)
  where
    go : (o : Option Y) → grouped (map (λ z. option_to_list (h z)) xs) ≡ filter_map h xs
        → option_to_list o ++ grouped (map (λ z. option_to_list (h z)) xs) ≡ cons_option o (filter_map h xs)
    go None ih = ih
    go (Some y) ih = ap (λ ys. y ∷ ys) ih

-- an element that none comes before
first_put : {Y : Type 0} (by : Y → Y → Ordering) (y : Y) (ys : List Y) → AllByRecursion (λ z. is_gt (by y z) ≡ false) ys → put_in_order by y
    ys ≡ y ∷ ys
first_put by y [] a = refl
first_put by y (z ∷ zs) a = ap (λ b. cond b (z ∷ put_in_order by y zs) (y ∷ z ∷ zs)) a.0

module _ {X Y : Type 0} (f : X → ℕ) (g : Y → ℕ) (h : X → Option Y) (agrees : (x : X) (y : Y) → h x ≡ Some y → f x ≡ g y) where
  -- an element that comes before a whole list comes before everything selected from it
  before_selected : (x : X) (y : Y) → h x ≡ Some y → (xs : List X) → AllByRecursion (λ z. is_gt (nat_cmp (f x) (f z)) ≡ false) xs
      → AllByRecursion (λ z. is_gt (nat_cmp (g y) (g z)) ≡ false) (filter_map h xs)
  before_selected x y e [] a = tt
  before_selected x y e (z ∷ zs) a = go (h z) refl (before_selected x y e zs a.1)
    where
      go : (o : Option Y) → h z ≡ o → AllByRecursion (λ z. is_gt (nat_cmp (g y) (g z)) ≡ false) (filter_map h zs)
          → AllByRecursion (λ z. is_gt (nat_cmp (g y) (g z)) ≡ false) (cons_option o (filter_map h zs))
      go None i r = r
      go (Some w) i r = ((λ j. is_gt (nat_cmp (sym (agrees x y e) j) (sym (agrees z w i) j))) ∙ a.0, r)

  -- an element that isn't selected may be anywhere
  put_left_out : (x : X) → h x ≡ None → (xs : List X) → filter_map h (put_in_order (on f nat_cmp) x xs) ≡ filter_map h xs
  put_left_out x e [] = ap (λ o. cons_option o []) e
  put_left_out x e (y ∷ ys) = go (is_gt (nat_cmp (f x) (f y))) (put_left_out x e ys)
    where
      go : (b : Bool) → filter_map h (put_in_order (on f nat_cmp) x ys) ≡ filter_map h ys
          → filter_map h (cond b (y ∷ put_in_order (on f nat_cmp) x ys) (x ∷ y ∷ ys)) ≡ filter_map h (y ∷ ys)
      go true ih = ap (cons_option (h y)) ih
      go false ih = ap (λ o. cons_option o (filter_map h (y ∷ ys))) e

  -- an element that is selected is put in order among the other selected ones
  put_selected : (x : X) (z : Y) → h x ≡ Some z → (xs : List X) → IsInOrder (on f nat_cmp) xs
      → filter_map h (put_in_order (on f nat_cmp) x xs) ≡ put_in_order (on g nat_cmp) z (filter_map h xs)
  put_selected x z e [] i = ap (λ o. cons_option o []) e
  put_selected x z e (y ∷ ys) i = go (is_gt (nat_cmp (f x) (f y))) refl (put_selected x z e ys i.1)
    where
      behind : (o : Option Y) → h y ≡ o → is_gt (nat_cmp (f x) (f y)) ≡ true
          → cons_option o (put_in_order (on g nat_cmp) z (filter_map h ys)) ≡ put_in_order (on g nat_cmp) z
          (cons_option o (filter_map h ys))
      behind None f b = refl
      behind (Some w) k b = sym (ap (λ c. cond c (w ∷ put_in_order (on g nat_cmp) z (filter_map h ys)) (z ∷ w ∷ filter_map h ys))
          ((λ j. is_gt (nat_cmp (sym (agrees x z e) j) (sym (agrees y w k) j))) ∙ b))

      go : (b : Bool) → is_gt (nat_cmp (f x) (f y)) ≡ b
          → filter_map h (put_in_order (on f nat_cmp) x ys) ≡ put_in_order (on g nat_cmp) z (filter_map h ys)
          → filter_map h (cond b (y ∷ put_in_order (on f nat_cmp) x ys) (x ∷ y ∷ ys)) ≡ put_in_order (on g nat_cmp) z
          (filter_map h (y ∷ ys))
      go true b ih = ap (cons_option (h y)) ih ∙ behind (h y) refl b
      go false b ih =
          let later : AllByRecursion (λ w. is_gt (nat_cmp (f x) (f w)) ≡ false) ys =
          all_weaker (λ w. is_gt (nat_cmp (f y) (f w)) ≡ false) (λ w. is_gt (nat_cmp (f x) (f w)) ≡ false)
          (λ w l. upto nat_cmp_total (f x) (f y) (f w) b l) ys i.0 in
          ap (λ o. cons_option o (filter_map h (y ∷ ys))) e
          ∙ sym (first_put (on g nat_cmp) z (filter_map h (y ∷ ys)) (before_selected x z e (y ∷ ys) (b, later)))

  -- selecting from a list in order is the selection, in order
  pub selected_in_order : (xs : List X) → filter_map h (in_order (on f nat_cmp) xs) ≡ in_order (on g nat_cmp) (filter_map h xs)
  selected_in_order [] = refl
  selected_in_order (x ∷ xs) = go (h x) refl (selected_in_order xs)
    where
      go : (o : Option Y) → h x ≡ o → filter_map h (in_order (on f nat_cmp) xs) ≡ in_order (on g nat_cmp) (filter_map h xs)
          → filter_map h (put_in_order (on f nat_cmp) x (in_order (on f nat_cmp) xs)) ≡ in_order (on g nat_cmp)
          (cons_option o (filter_map h xs))
      go None e ih = put_left_out x e (in_order (on f nat_cmp) xs) ∙ ih
      go (Some z) e ih = put_selected x z e (in_order (on f nat_cmp) xs) (in_order-in_order (on_total f nat_cmp_total) xs)
          ∙ ap (put_in_order (on g nat_cmp) z) ih
