-- Places in the order of their items, with classes: the classes are in the same order.
use Rattle.arranged_county.proofs.Common.{AgreeOn, AllByRecursion, AreClasses, Equal, Greater, IsInOrder, IsPermutation, IsPermutation-sym, IsPermutation-trans, IsTotalOrder, Less, List, Ordering, [], alike_right, all_map, all_permuted, all_weaker, ap, arith, class_after, classed_place, classes_along, cond, false, in_order, in_order-in_order, in_order-is_permutation, in_order-permutation, is_eq, is_gt, less, map, nat_cmp, nat_cmp_total, nat_keys, on, ordering_reverse, range_with_len, ranked, refl, subst, sym, tied_itself, true≢false, ℕ, ◌+◌, ◌∙◌, ◌∷◌, ◌≡◌, ◌≤◌}
use Rattle.ordered_lists.proofs.Lists.Elements.{all_both}
use Rattle.ordered_lists.proofs.Lists.EntryLists.{in_order-strict}
use Rattle.ordered_lists.proofs.Lists.Ranges.{range_strict}

-- orders that agree on a list agree on it in another order, and put it in the same order
module _ {X : Type 0} (by to : X → X → Ordering) where
  pub agree_permuted : (xs ys : List X) → IsPermutation xs ys → AgreeOn by to xs → AgreeOn by to ys
  agree_permuted xs ys p h = all_permuted (λ a. AllByRecursion (λ b. by a b ≡ to a b) ys) xs ys p
      (all_weaker (λ a. AllByRecursion (λ b. by a b ≡ to a b) xs) (λ a. AllByRecursion (λ b. by a b ≡ to a b) ys)
      (λ a. all_permuted (λ b. by a b ≡ to a b) xs ys p) xs h)

  pub agree_in_order : (xs : List X) → AgreeOn by to xs → IsInOrder by xs → IsInOrder to xs
  agree_in_order [] h ordered = tt
  agree_in_order (x ∷ xs) h ordered = (
    later xs h.0.1 ordered.0,
    agree_in_order xs
        (all_weaker (λ a. (by a x ≡ to a x) × AllByRecursion (λ b. by a b ≡ to a b) xs) (λ a. AllByRecursion (λ b. by a b ≡ to a b) xs)
        (λ a k. k.1) xs h.1) ordered.1,
  )
    where
      later : (ys : List X) → AllByRecursion (λ b. by x b ≡ to x b) ys → AllByRecursion (λ y. is_gt (by x y) ≡ false) ys
          → AllByRecursion (λ y. is_gt (to x y) ≡ false) ys
      later [] a g = tt
      later (y ∷ ys) a g = (ap is_gt (sym a.0) ∙ g.0, later ys a.1 g.1)

  pub agree_weaker : (by_too to_too : X → X → Ordering) → ((a b : X) → by a b ≡ to a b → by_too a b ≡ to_too a b) → (xs : List X)
      → AgreeOn by to xs → AgreeOn by_too to_too xs
  agree_weaker by_too to_too step xs h =
      all_weaker (λ a. AllByRecursion (λ b. by a b ≡ to a b) xs) (λ a. AllByRecursion (λ b. by_too a b ≡ to_too a b) xs)
      (λ a. all_weaker (λ b. by a b ≡ to a b) (λ b. by_too a b ≡ to_too a b) (step a) xs) xs h

  pub agree_map : {W : Type 0} (f : W → X) (ws : List W) → AgreeOn (on f by) (on f to) ws → AgreeOn by to (map f ws)
  agree_map f ws h =
      all_map (λ a. AllByRecursion (λ b. by a b ≡ to a b) (map f ws)) f ws
      (all_weaker (λ v. AllByRecursion (λ w. by (f v) (f w) ≡ to (f v) (f w)) ws) (λ v. AllByRecursion (λ b. by (f v) b ≡ to (f v) b) (map f ws))
      (λ v. all_map (λ b. by (f v) b ≡ to (f v) b) f ws) ws h)

pub places_kept : (cmp : ℕ → ℕ → Ordering) (class : ℕ) (places : List ℕ) → map classed_place (classes_along cmp class places) ≡ places
places_kept cmp class [] = refl
places_kept cmp class (place ∷ places) = ap (λ ps. place ∷ ps) (places_kept cmp (class_after cmp class place places) places)

module _ {cmp : ℕ → ℕ → Ordering} (o : IsTotalOrder cmp) where
  -- a later place has a class that is compared as its item, and no lesser one
  abbrev Fits : ℕ → ℕ → ℕ × ℕ → Type 0
  Fits class place later = (nat_cmp class later.0 ≡ cmp place later.1) × (class ≤ later.0)

  -- the next place, and those that fit it
  next_fits : (class place next c : ℕ) (r : Ordering) (later : List (ℕ × ℕ)) → cmp place next ≡ r → is_gt r ≡ false
      → c ≡ cond (is_eq r) class (class + 1) → AllByRecursion (Fits c next) later
      → Fits class place (c, next) × AllByRecursion (Fits class place) later
  next_fits class place next c Less later e g s h =
      ((less class c (omega (arith, s)) ∙ sym e, omega (arith, s)), all_weaker (Fits c next) (Fits class place) behind later h)
    where
      behind : (b : ℕ × ℕ) → Fits c next b → Fits class place b
      behind b k = (less class b.0 (let low = k.1 in omega (arith, s, low)) ∙ sym (go (cmp next b.1) refl), let low = k.1 in omega (arith, s, low))
        where
          go : (q : Ordering) → cmp next b.1 ≡ q → cmp place b.1 ≡ Less
          go Less f = o.trans place next b.1 e f
          go Equal f = sym (alike_right o next b.1 place f) ∙ e
          go Greater f = absurd (let low = k.1 in let high = ranked c b.0 Greater (sym (k.0 ∙ f)) in omega (arith, low, high))
  next_fits class place next c Equal later e g s h = (
    (ap (nat_cmp class) s ∙ tied_itself nat_cmp_total class ∙ sym e, omega (arith, s)),
    all_weaker (Fits c next) (Fits class place)
        (λ b k. (ap (λ n. nat_cmp n b.0) (sym s) ∙ k.0 ∙ sym (o.congr place next b.1 e), let low = k.1 in omega (arith, s, low))) later h,
  )
  next_fits class place next c Greater later e g s h = absurd (true≢false g)

  later_fit : (class place : ℕ) (places : List ℕ) → IsInOrder cmp (place ∷ places)
      → AllByRecursion (Fits class place) (classes_along cmp (class_after cmp class place places) places)
  later_fit class place [] h = tt
  later_fit class place (next ∷ places) h =
      let c : ℕ = class_after cmp class place (next ∷ places) in
      next_fits class place next c (cmp place next) (classes_along cmp (class_after cmp c next places) places) refl h.0.0 refl
      (later_fit c next places h.1)

  classes_agree : (class : ℕ) (places : List ℕ) → IsInOrder cmp places
      → AgreeOn (λ (a b : ℕ × ℕ). nat_cmp a.0 b.0) (λ a b. cmp a.1 b.1) (classes_along cmp class places)
  classes_agree class [] h = tt
  classes_agree class (place ∷ places) h =
      let next : ℕ = class_after cmp class place places in
      let later : List (ℕ × ℕ) = classes_along cmp next places in
      let fit = later_fit class place places h in (
        (
          tied_itself nat_cmp_total class ∙ sym (tied_itself o place),
          all_weaker (Fits class place) (λ b. nat_cmp class b.0 ≡ cmp place b.1) (λ b k. k.0) later fit,
        ),
        all_both (λ a. nat_cmp a.0 class ≡ cmp a.1 place) (λ a. AllByRecursion (λ (b : ℕ × ℕ). nat_cmp a.0 b.0 ≡ cmp a.1 b.1) later) later
            (all_weaker (Fits class place) (λ a. nat_cmp a.0 class ≡ cmp a.1 place)
            (λ a k. nat_cmp_total.antisymm a.0 class ∙ ap ordering_reverse k.0 ∙ sym (o.antisymm a.1 place)) later fit)
            (classes_agree next places h.1),
      )

  -- all places in order, each with its class
  pub are_classes : (count : ℕ) (places : List ℕ) → IsPermutation (range_with_len 0 count) places → IsInOrder cmp places
      → AreClasses count cmp (classes_along cmp 0 places)
  are_classes count places p ordered =
      let range = range_with_len 0 count in
      record {
        all = ap (in_order nat_cmp) (places_kept cmp 0 places)
            ∙ in_order-permutation nat_keys (in_order nat_cmp places) range (in_order-in_order nat_cmp_total places)
            (in_order-strict nat_cmp range (range_strict 0 count))
            (IsPermutation-trans (in_order nat_cmp places) places range (in_order-is_permutation nat_cmp places) (IsPermutation-sym range places p));
        agree = classes_agree 0 places ordered;
      }

-- the places with classes are all places
pub classes_all : (count : ℕ) (cmp : ℕ → ℕ → Ordering) (classed : List (ℕ × ℕ)) → AreClasses count cmp classed
    → IsPermutation (range_with_len 0 count) (map classed_place classed)
classes_all count cmp classed known = subst (λ ns. IsPermutation ns (map classed_place classed)) known.all
    (in_order-is_permutation nat_cmp (map classed_place classed))
