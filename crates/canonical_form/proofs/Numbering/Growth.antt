-- Numbers by first appearance are determined: two such numberings of one list of keys are equal if they distinguish the same keys.
use Rattle.canonical_form.proofs.Common.{AllByRecursion, Grows, GrowsFrom, List, [], arith, cases_lt, inl, inr, map, max, subst, sym, ℕ, ◌+◌, ◌<◌, ◌∙◌, ◌∷◌, ◌≡◌, ◌≤◌, ◌⊎◌}

module _ {K : Type 0} (f g : K → ℕ) (Dom : K → Type 0)
    (forth : (k j : K) → Dom k → Dom j → f k ≡ f j → g k ≡ g j)
    (back : (k j : K) → Dom k → Dom j → g k ≡ g j → f k ≡ f j) where
  -- each number up to m belongs to some key, and both numberings agree there
  abbrev pub Covers : ℕ → Type 0
  Covers m = (i : ℕ) → 1 ≤ i → i ≤ m → (k : K) × Dom k × (f k ≡ i) × (g k ≡ i)

  more : (m : ℕ) → Covers m → (k : K) → Dom k → f k ≡ g k → f k ≤ m + 1 → Covers (max m (f k))
  more m c k d e le i low high = go (cases_lt m i)
    where
      go : (m < i) ⊎ (i ≤ m) → (j : K) × Dom j × (f j ≡ i) × (g j ≡ i)
      go (inl lt) = (k, d, (let t : f k ≡ i = omega arith in t), (let t : g k ≡ i = omega arith in t))
      go (inr old) = c i low old

  pub grown_equal : (ks : List K) (m : ℕ) → Covers m → AllByRecursion Dom ks → GrowsFrom m (map f ks) → GrowsFrom m (map g ks)
      → AllByRecursion (λ k. f k ≡ g k) ks
  grown_equal [] m c d p q = tt
  grown_equal (k ∷ ks) m c d p q =
      (same, grown_equal ks (max m (f k)) (more m c k d.0 same p.1) d.1 p.2 (subst (λ n. GrowsFrom (max m n) (map g ks)) (sym same) q.2))
    where
      at : (m < f k) ⊎ (f k ≤ m) → (m < g k) ⊎ (g k ≤ m) → f k ≡ g k
      at (inr le) h = let j = c (f k) p.0 le in sym j.3 ∙ forth j.0 k j.1 d.0 j.2
      at (inl lt) (inr le) =
          let j = c (g k) q.0 le in
          let e : f j.0 ≡ f k = back j.0 k j.1 d.0 j.3 in
          absurd (omega (arith, e, j.2, lt, le))
      at (inl lt) (inl gt) = omega (arith, p.1, q.1)

      same : f k ≡ g k
      same = at (cases_lt m (f k)) (cases_lt m (g k))

  pub grown : (ks : List K) → AllByRecursion Dom ks → Grows (map f ks) → Grows (map g ks) → AllByRecursion (λ k. f k ≡ g k) ks
  grown ks d p q = grown_equal ks 0 (λ i low high. absurd (omega arith)) d p q
