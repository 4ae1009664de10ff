-- The rest of records in groups, from a place.
use Rattle.record_groups.proofs.Common.{Bool, List, Option, Some, [], add-one, ap, ap₂, arith, drop, drop_all, false, group_at, grouped, if◌then◌else◌, length, ltb-false, nat_lt, refl, rest_of, slice_get, slice_get_past, suc, sym, true, unwrap_or, zero, ℕ, ◌++◌, ◌+◌, ◌∙◌, ◌∷◌, ◌≡◌, ◌≤◌}
use Rattle.std.proofs.lemmas.Option.{get_or_from_slice_get}
use Rattle.canonical_form.proofs.Lists.ListPlaces.{none_past}
use Rattle.std.proofs.Common.{drop-cons}

-- an element, then the rest after it
dropped_before : {X : Type 0} (xs : List X) (n : ℕ) (x : X) → Some x ≡ slice_get xs n → drop n xs ≡ x ∷ drop (suc n) xs
dropped_before xs n x e =
    drop-cons xs n x (none_past xs n x (sym e)) ∙ ap (λ y. y ∷ drop (suc n) xs) (get_or_from_slice_get xs n x x (sym e))

grouped_behind : {X : Type 0} (groups : List (List X)) (n : ℕ) → grouped (drop n groups) ≡ group_at groups n ++ grouped (drop (suc n) groups)
grouped_behind {X} [] n = nothing n
  where
    nothing : (k : ℕ) → grouped {X = X} (drop k []) ≡ group_at {X = X} [] k ++ grouped (drop (suc k) [])
    nothing zero = refl
    nothing (suc k) = refl
grouped_behind (g ∷ groups) zero = refl
grouped_behind (g ∷ groups) (suc n) = grouped_behind groups n

-- a group, then the next ones
pub rest_of_group : {X : Type 0} (groups : List (List X)) (group : ℕ) → rest_of groups group 0 ≡ group_at groups group ++ rest_of groups (group + 1) 0
rest_of_group groups group = rw (add-one) (ap (λ xs. group_at groups group ++ xs) (grouped_behind groups (suc group)))

module _ {X : Type 0} (groups : List (List X)) where
  -- a record, then the rest after it
  pub rest_before : (group place : ℕ) (x : X) → Some x ≡ slice_get (group_at groups group) place
      → rest_of groups group place ≡ x ∷ rest_of groups group (place + 1)
  rest_before group place x e =
      rw (add-one) (ap (λ xs. xs ++ grouped (drop (suc group) groups)) (dropped_before (group_at groups group) place x e))

  -- after a group the next one begins
  pub rest_goes_on : (group place : ℕ) → length (group_at groups group) ≤ place → rest_of groups group place ≡ rest_of groups (group + 1) 0
  rest_goes_on group place h = rw (add-one) (ap (λ xs. xs ++ grouped (drop (suc group) groups)) (drop_all place (group_at groups group) h)
      ∙ grouped_behind groups (suc group))

  -- so after the last record of a group the next group may begin
  pub rest_passed : (group place records : ℕ) → length (group_at groups group) ≡ records → (next_group next_place : ℕ)
      → next_group ≡ (if nat_lt place records then group else group + 1) → next_place ≡ (if nat_lt place records then place else 0)
      → rest_of groups group place ≡ rest_of groups next_group next_place
  rest_passed group place records many next_group next_place e f = go (nat_lt place records) refl e f
    where
      go : (b : Bool) → nat_lt place records ≡ b → next_group ≡ (if b then group else group + 1) → next_place ≡ (if b then place else 0)
          → rest_of groups group place ≡ rest_of groups next_group next_place
      go true t e f = sym (ap₂ (rest_of groups) e f)
      go false t e f = rest_goes_on group place (omega (arith, many, ltb-false place records t)) ∙ sym (ap₂ (rest_of groups) e f)

  -- after the last group there is no rest
  pub rest_none : (group place : ℕ) → length groups ≤ group → rest_of groups group place ≡ []
  rest_none group place h =
      ap (λ xs. drop place xs ++ grouped (drop (suc group) groups))
      (ap (λ (o : Option (List X)). unwrap_or o []) (slice_get_past groups group h))
      ∙ ap (λ xs. xs ++ grouped (drop (suc group) groups)) (drop_all place [] (omega arith))
      ∙ ap grouped (drop_all (suc group) groups (omega (arith, h)))
