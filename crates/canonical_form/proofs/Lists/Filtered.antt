-- The elements of a list that pass a test.
use Rattle.canonical_form.proofs.Common.{AllByRecursion, Bool, List, [], ap, arith, cases_eq, common_steps, cond, eq-eqb, filter, inl, inr, map, ne_eqb, refl, sym, ℕ, ◌&&◌, ◌==◌, ◌∙◌, ◌∷◌, ◌≡◌, ◌⊎◌}

-- of a mapped list
pub filter-mapped : {X Y : Type 0} (p : Y → Bool) (f : X → Y) (xs : List X) → filter p (map f xs) ≡ map f (filter (λ x. p (f x)) xs)
filter-mapped p f [] = refl
filter-mapped p f (x ∷ xs) = grind (arith, common_steps, filter-mapped p f xs)

-- of those that pass another one
pub filter-filtered : {X : Type 0} (p q : X → Bool) (xs : List X) → filter q (filter p xs) ≡ filter (λ x. p x && q x) xs
filter-filtered p q [] = refl
filter-filtered p q (x ∷ xs) = grind (arith, common_steps, filter-filtered p q xs)

-- tests that agree on each element
pub filter-agree_all : {X : Type 0} (p q : X → Bool) (xs : List X) → AllByRecursion (λ x. p x ≡ q x) xs → filter p xs ≡ filter q xs
filter-agree_all p q [] a = refl
filter-agree_all p q (x ∷ xs) a = ap (λ b. cond b (x ∷ filter p xs) (filter p xs)) a.0 ∙ ap (λ l. cond (q x) (x ∷ l) l) (filter-agree_all p q xs a.1)

-- a test for a number, after a function that keeps numbers apart
pub same_after : (f : ℕ → ℕ) (Dom : ℕ → Type 0) → ((n m : ℕ) → Dom n → Dom m → f n ≡ f m → n ≡ m) → (n m : ℕ) → Dom n → Dom m
    → (f n == f m) ≡ (n == m)
same_after f Dom apart n m d e = go (cases_eq n m)
  where
    go : (n ≡ m) ⊎ (n ≡ m → ⊥) → (f n == f m) ≡ (n == m)
    go (inl same) = eq-eqb (f n) (f m) (ap f same) ∙ sym (eq-eqb n m same)
    go (inr differ) = ne_eqb (f n) (f m) (λ same. differ (apart n m d e same)) ∙ sym (ne_eqb n m differ)
