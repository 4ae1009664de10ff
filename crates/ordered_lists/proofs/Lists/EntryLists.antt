-- Entries as lists of keys and of values.
use Rattle.ordered_lists.proofs.Common.{AllByRecursion, IsInOrder, Less, List, None, Ordering, Some, [], ap, arith, cond, contains, entry_keys, entry_values, false, false≢true, inl, inr, is_eq, is_gt, length, lt-ltb, map, map_values, nat_lt, refl, slice_get, subst, suc, sym, times, true, value_under, zero, zip, ℕ, ◌∙◌, ◌∷◌, ◌≡◌, ◌⊎◌}
use Rattle.ordered_lists.proofs.ByKey.Keys.{IsKeyOrder, same-itself, same_or_not, times-no, times-yes}
use Rattle.ordered_lists.proofs.Lists.Elements.{all_weaker}
use Rattle.std.specs.List.Sorted.{IsStrictlySortedBy}

pub keys-zip : {K V : Type 0} (keys : List K) (values : List V) → length keys ≡ length values → entry_keys (zip keys values) ≡ keys
keys-zip [] [] e = refl
keys-zip [] (v ∷ vs) e = refl
keys-zip (k ∷ ks) [] e = absurd (omega (arith, e))
keys-zip (k ∷ ks) (v ∷ vs) e = ap (λ l. k ∷ l) (keys-zip ks vs (omega (arith, e)))

pub values-zip : {K V : Type 0} (keys : List K) (values : List V) → length keys ≡ length values → entry_values (zip keys values) ≡ values
values-zip [] [] e = refl
values-zip [] (v ∷ vs) e = absurd (omega (arith, e))
values-zip (k ∷ ks) [] e = absurd (omega (arith, e))
values-zip (k ∷ ks) (v ∷ vs) e = ap (λ l. v ∷ l) (values-zip ks vs (omega (arith, e)))

-- entries with other values
pub keys-map_values : {K V W : Type 0} (f : V → W) (xs : List (K × V)) → entry_keys (map_values f xs) ≡ entry_keys xs
keys-map_values f [] = refl
keys-map_values f (x ∷ xs) = ap (λ l. x.0 ∷ l) (keys-map_values f xs)

pub values-map_values : {K V W : Type 0} (f : V → W) (xs : List (K × V)) → entry_values (map_values f xs) ≡ map f (entry_values xs)
values-map_values f [] = refl
values-map_values f (x ∷ xs) = ap (λ l. f x.1 ∷ l) (values-map_values f xs)

pub map_values-id : {K V : Type 0} (xs : List (K × V)) → map_values (λ v. v) xs ≡ xs
map_values-id [] = refl
map_values-id (x ∷ xs) = ap (λ l. x ∷ l) (map_values-id xs)

-- entries are determined by their keys and their values
pub entries-equal : {K V : Type 0} (xs ys : List (K × V)) → entry_keys xs ≡ entry_keys ys → entry_values xs ≡ entry_values ys → xs ≡ ys
entries-equal [] [] e f = refl
entries-equal [] (y ∷ ys) e f = cc
entries-equal (x ∷ xs) [] e f = cc
entries-equal (x ∷ xs) (y ∷ ys) e f =
    let k : x.0 ≡ y.0 = cc in
    let v : x.1 ≡ y.1 = cc in
    let ks : entry_keys xs ≡ entry_keys ys = cc in
    let vs : entry_values xs ≡ entry_values ys = cc in
    λ i. (k i, v i) ∷ entries-equal xs ys ks vs i

-- a strictly ascending list is in order
pub in_order-strict : {K : Type 0} (cmp : K → K → Ordering) (ks : List K) → IsStrictlySortedBy cmp ks → IsInOrder cmp ks
unfolding IsStrictlySortedBy
in_order-strict cmp [] h = tt
in_order-strict cmp (k ∷ ks) h =
    (all_weaker (λ j. cmp k j ≡ Less) (λ j. is_gt (cmp k j) ≡ false) (λ j e. ap is_gt e) ks h.0, in_order-strict cmp ks h.1)

later_apart : {K : Type 0} {cmp : K → K → Ordering} (o : IsKeyOrder cmp) (key : K) (ks : List K) (place : ℕ)
    → AllByRecursion (λ j. cmp key j ≡ Less) ks → slice_get ks place ≡ Some key → ⊥
later_apart o key [] place h e = cc
later_apart {cmp = cmp} o key (k ∷ ks) zero h e =
    let f : k ≡ key = cc in
    false≢true (sym (ap is_eq (subst (λ j. cmp key j ≡ Less) f h.0)) ∙ same-itself o key)
later_apart o key (k ∷ ks) (suc place) h e = later_apart o key ks place h.1 e

module _ {K V : Type 0} {cmp : K → K → Ordering} (o : IsKeyOrder cmp) where
  -- a key that isn't in the list has no value
  pub none-under : (key : K) (entries : List (K × V)) → contains cmp key (entry_keys entries) ≡ false → value_under cmp key entries ≡ None
  none-under key [] e = refl
  none-under key (entry ∷ entries) e = go (same_or_not o key entry.0) (none-under key entries)
    where
      go : (key ≡ entry.0) ⊎ (is_eq (cmp key entry.0) ≡ false)
          → (contains cmp key (entry_keys entries) ≡ false → value_under cmp key entries ≡ None)
          → value_under cmp key (entry ∷ entries) ≡ None
      go (inl f) ih = absurd (false≢true (sym e ∙ lt-ltb 0 (times cmp key (entry_keys (entry ∷ entries)))
          (omega (arith, times-yes o key entry.0 (entry_keys entries) f))))
      go (inr n) ih = ap (λ b. cond b (Some entry.1) (value_under cmp key entries)) n
          ∙ ih (sym (ap (nat_lt 0) (times-no o key entry.0 (entry_keys entries) n)) ∙ e)

  -- the value at the place of a key is the value under it
  pub value-at_place : (key : K) (entries : List (K × V)) (place : ℕ) → IsStrictlySortedBy cmp (entry_keys entries)
      → slice_get (entry_keys entries) place ≡ Some key → slice_get (entry_values entries) place ≡ value_under cmp key entries
  unfolding IsStrictlySortedBy
  value-at_place key [] place h e = cc
  value-at_place key (entry ∷ entries) zero h e =
      let f : key ≡ entry.0 = cc in
      ap (λ b. cond b (Some entry.1) (value_under cmp key entries)) (sym (subst (λ k. is_eq (cmp key k) ≡ true) f (same-itself o key)))
  value-at_place key (entry ∷ entries) (suc place) h e = go (same_or_not o key entry.0) (value-at_place key entries place h.1 e)
    where
      go : (key ≡ entry.0) ⊎ (is_eq (cmp key entry.0) ≡ false) → slice_get (entry_values entries) place ≡ value_under cmp key entries
          → slice_get (entry_values entries) place ≡ value_under cmp key (entry ∷ entries)
      go (inl f) ih = absurd (later_apart o key (entry_keys entries) place
          (subst (λ k. AllByRecursion (λ j. cmp k j ≡ Less) (entry_keys entries)) (sym f) h.0) e)
      go (inr n) ih = ih ∙ ap (λ b. cond b (Some entry.1) (value_under cmp key entries)) (sym n)
