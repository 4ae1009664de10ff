-- Lists that count from a number: they ascend, and lists with the same length are equal.
use Rattle.canonical_form.proofs.Common.{AllByRecursion, AllWithin, Bool, Decides, Equal, Greater, HoldsAt, IsStrictlySortedBy, Less, List, MatchBool, Ordering, [], arith, false, false≢true, get_or-range_with_len, is_eq, is_gt, length, length-range_with_len, ltb-false, ltb-true, map, nat_cmp, nat_lt, range_strict, range_with_len, refl, subst, sym, true, true≢false, up_to, ℕ, ◌+◌, ◌-◌, ◌<◌, ◌∙◌, ◌∷◌, ◌≡◌, ◌≤◌}
use Rattle.ordered_lists.proofs.Lists.EntryLists.{entries-equal}

-- a comparison that finds neither greater nor equal
pub less_from : (o : Ordering) → is_gt o ≡ false → is_eq o ≡ false → o ≡ Less
less_from Less g e = refl
less_from Equal g e = absurd (true≢false e)
less_from Greater g e = absurd (true≢false g)

pub up_to-strict : (n : ℕ) → IsStrictlySortedBy nat_cmp (up_to n)
up_to-strict n = range_strict 1 n

-- entries with equal left parts and equal right parts are equal
pub entries_equal : {A B : Type 0} (xs ys : List (A × B)) → map (λ e. e.0) xs ≡ map (λ e. e.0) ys → map (λ e. e.1) xs ≡ map (λ e. e.1) ys
    → xs ≡ ys
entries_equal = entries-equal

pub map-equal_all : {X Y : Type 0} (f g : X → Y) (xs : List X) → map f xs ≡ map g xs → AllByRecursion (λ x. f x ≡ g x) xs
map-equal_all f g [] e = tt
map-equal_all f g (x ∷ xs) e = ((let t : f x ≡ g x = cc in t), map-equal_all f g xs (cc))

-- what a search of the places from one on for one without a property says of all places below the end
pub places_from_decide : (P : ℕ → Type 0) (first end : ℕ) → ((i : ℕ) → i < first → P i) → (r : Bool) → MatchBool r
    (AllWithin P (range_with_len first (end - first)) 0 (length (range_with_len first (end - first))))
    ((k : ℕ) × (k < length (range_with_len first (end - first))) × HoldsAt (λ i. P i → ⊥) (range_with_len first (end - first)) k)
    → Decides r ((i : ℕ) → i < end → P i)
places_from_decide P first end before true all = (λ e i l. go i l (nat_lt i first) refl, λ a. refl) where
  go : (i : ℕ) → i < end → (b : Bool) → nat_lt i first ≡ b → P i
  go i l true e = before i (ltb-true i first e)
  go i l false e =
      let from : first ≤ i = ltb-false i first e in
      let there : i - first < end - first = omega (arith, l, from) in
      let again : first + (i - first) ≡ i = omega (arith, from) in
      subst P (get_or-range_with_len first (end - first) (i - first) 0 there ∙ again)
      (all (i - first) 0 (omega arith) (omega (arith, there, length-range_with_len first (end - first))))
places_from_decide P first end before false found = (
  λ e. absurd (false≢true e),
  λ all.
      let there : found.0 < end - first = omega (arith, found.1, length-range_with_len first (end - first)) in
      let below : first + found.0 < end = omega (arith, there) in
      absurd (found.2 0 (subst P (sym (get_or-range_with_len first (end - first) found.0 0 there)) (all (first + found.0) below))),
)
