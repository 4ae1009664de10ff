-- Places: the elements up to a place, and the element at the place of a key, or past the end.
use Rattle.ordered_lists.proofs.Common.{IfSome, IsStrictlySortedBy, List, None, Option, Ordering, Some, [], ap, arith, contains, entry_keys, entry_values, is_some, length, refl, slice_get, slice_get_past, suc, sym, take, unwrap_or, value_under, zero, ℕ, ◌++◌, ◌+◌, ◌∙◌, ◌∷◌, ◌≡◌}
use Rattle.ordered_lists.proofs.ByKey.Keys.{IsKeyOrder}
use Rattle.ordered_lists.proofs.Lists.EntryLists.{none-under, value-at_place}

-- the elements up to a place, and those with the element at that place
pub next_taken : {X : Type 0} (xs : List X) (place : ℕ) (x : X) → Some x ≡ slice_get xs place
    → take (suc place) xs ≡ take place xs ++ (x ∷ [])
next_taken [] place x e = cc
next_taken (y ∷ ys) zero x e = let same : y ≡ x = cc in ap (λ z. z ∷ []) same
next_taken (y ∷ ys) (suc place) x e = ap (λ l. y ∷ l) (next_taken ys place x e)

pub one_more_taken : {X : Type 0} (xs : List X) (place : ℕ) (x : X) → Some x ≡ slice_get xs place
    → take (place + 1) xs ≡ take place xs ++ (x ∷ [])
one_more_taken xs place x e = ap (λ n. take n xs) (let next : place + 1 ≡ suc place = omega arith in next) ∙ next_taken xs place x e

pub length_keys : {K V : Type 0} (entries : List (K × V)) → length (entry_keys entries) ≡ length entries
length_keys [] = refl
length_keys (entry ∷ entries) = omega (arith, length_keys entries)

length_values : {K V : Type 0} (entries : List (K × V)) → length (entry_values entries) ≡ length entries
length_values [] = refl
length_values (entry ∷ entries) = omega (arith, length_values entries)

-- the value at the place of a key, or past the end if no entry has the key, is the value under the key
value-at_or_end : {K V : Type 0} {cmp : K → K → Ordering} (o : IsKeyOrder cmp) (key : K) (entries : List (K × V)) (found : Option ℕ)
    → IsStrictlySortedBy cmp (entry_keys entries) → IfSome found (λ place. slice_get (entry_keys entries) place ≡ Some key)
    → is_some found ≡ contains cmp key (entry_keys entries)
    → slice_get (entry_values entries) (unwrap_or found (length entries)) ≡ value_under cmp key entries
value-at_or_end o key entries (Some place) strict at known = value-at_place o key entries place strict at
value-at_or_end o key entries None strict at known =
    slice_get_past (entry_values entries) (length entries) (omega (arith, length_values entries))
    ∙ sym (none-under o key entries (sym known))

-- the same for a place that a chart returns, and for its number of entries
pub value-stated : {K V : Type 0} {cmp : K → K → Ordering} (o : IsKeyOrder cmp) (key : K) (entries : List (K × V)) (found : Option ℕ)
    {place count : ℕ} → place ≡ unwrap_or found count → count ≡ length entries → IsStrictlySortedBy cmp (entry_keys entries)
    → IfSome found (λ at. slice_get (entry_keys entries) at ≡ Some key) → is_some found ≡ contains cmp key (entry_keys entries)
    → slice_get (entry_values entries) place ≡ value_under cmp key entries
value-stated o key entries found is counted strict at known =
    ap (slice_get (entry_values entries)) (is ∙ ap (unwrap_or found) counted) ∙ value-at_or_end o key entries found strict at known
