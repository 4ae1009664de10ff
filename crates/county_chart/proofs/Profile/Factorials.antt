-- The running product of keys is the product of the factorials of how often each key occurs, and of twos. It is therefore the
-- same for every order of the keys.
use Rattle.county_chart.proofs.Common.{Bool, IsApart, IsKeyOrder, Known, List, Ordering, SameElements, [], ap, apart-distinct, apart_tail, arith, cond, contains, differ, distinct, distinct_same, factorial, false, filter, inl, inr, is_eq, is_gt, known-distinct, known_cases, known_from_distinct, length, ltb-false, ltb-true, map, map_agree, nat_lt, pow-succ', product, put_in_order, refl, running, subst, suc, sym, times, times-no, times-same, times-yes, true, ℕ, ◌*◌, ◌<◌, ◌^◌, ◌∙◌, ◌∷◌, ◌≡◌, ◌≤◌, ◌⊎◌}

module _ {K : Type 0} {cmp : K → K → Ordering} (o : IsKeyOrder cmp) where
  product-put : (f : K → ℕ) (k : K) (ds : List K) → product (map f (put_in_order cmp k ds)) ≡ f k * product (map f ds)
  product-put f k [] = refl
  product-put f k (d ∷ ds) = go (is_gt (cmp k d)) (product-put f k ds)
    where
      exchanged : (m n r : ℕ) → m * (n * r) ≡ n * (m * r)
      exchanged m n r = grind arith

      go : (b : Bool) → product (map f (put_in_order cmp k ds)) ≡ f k * product (map f ds)
          → product (map f (cond b (d ∷ put_in_order cmp k ds) (k ∷ d ∷ ds))) ≡ f k * (f d * product (map f ds))
      go true ih = ap (λ n. f d * n) ih ∙ exchanged (f d) (f k) (product (map f ds))
      go false ih = refl

  -- if f is n times g for one key and equal to g for all others, the product of f is n times the product of g
  product-more : (f g : K → ℕ) (n : ℕ) (k : K) → f k ≡ n * g k → ((j : K) → (j ≡ k → ⊥) → f j ≡ g j) → (ds : List K) → IsApart cmp ds
      → Known cmp ds k → product (map f ds) ≡ n * product (map g ds)
  product-more f g n k here other [] a m = absurd (omega (arith, m))
  product-more f g n k here other (d ∷ ds) a m =
      go (known_cases o k d ds m) (product-more f g n k here other ds (apart_tail o d ds a))
    where
      nested : (m n r : ℕ) → (n * m) * r ≡ n * (m * r)
      nested m n r = grind arith

      exchanged : (m n r : ℕ) → m * (n * r) ≡ n * (m * r)
      exchanged m n r = grind arith

      apart : (j : K) → Known cmp ds j → d ≡ j → ⊥
      apart j l e = omega (arith, a j, times-yes o j d ds (sym e), l)

      go : (k ≡ d) ⊎ (Known cmp ds k × (is_eq (cmp k d) ≡ false)) → (Known cmp ds k → product (map f ds) ≡ n * product (map g ds))
          → f d * product (map f ds) ≡ n * (g d * product (map g ds))
      go (inl e) ih =
          let first : f d ≡ n * g d = subst (λ j. f j ≡ n * g j) e here in
          let rest : map f ds ≡ map g ds = map_agree o f g ds (λ j l. other j (λ same. apart j l (sym e ∙ sym same))) in
          (λ i. first i * product (rest i)) ∙ nested (g d) n (product (map g ds))
      go (inr r) ih =
          let first : f d ≡ g d = other d (λ same. apart k r.0 same) in
          (λ i. first i * ih r.0 i) ∙ exchanged (g d) n (product (map g ds))

  -- the number of orders of the keys that are the same as this one
  abbrev pub orders : List K → K → ℕ
  orders ks k = factorial (times cmp k ks)

  abbrev pub factorials : List K → ℕ
  factorials ks = product (map (orders ks) (distinct cmp ks))

  factorials-more : (k : K) (ks : List K) → factorials (k ∷ ks) ≡ suc (times cmp k ks) * factorials ks
  factorials-more k ks = go (contains cmp k ks) refl
    where
      other : (j : K) → (j ≡ k → ⊥) → orders (k ∷ ks) j ≡ orders ks j
      other j ne = ap factorial (times-no o j k ks (differ o j k ne))

      here : orders (k ∷ ks) k ≡ suc (times cmp k ks) * orders ks k
      here = ap factorial (times-yes o k k ks refl)

      new : times cmp k ks ≡ 0 → orders (k ∷ ks) k ≡ suc (times cmp k ks)
      new none = ap factorial (times-yes o k k ks refl ∙ ap suc none) ∙ sym (ap suc none)

      go : (b : Bool) → contains cmp k ks ≡ b
          → product (map (orders (k ∷ ks)) (cond b (distinct cmp ks) (put_in_order cmp k (distinct cmp ks))))
          ≡ suc (times cmp k ks) * factorials ks
      go true e =
          product-more (orders (k ∷ ks)) (orders ks) (suc (times cmp k ks)) k here other (distinct cmp ks) (apart-distinct o ks)
          (known-distinct o ks k (ltb-true 0 (times cmp k ks) e))
      go false e =
          let few : times cmp k ks ≤ 0 = ltb-false 0 (times cmp k ks) e in
          let apart : (j : K) → Known cmp (distinct cmp ks) j → j ≡ k → ⊥ =
          λ j l same. (let m : 0 < times cmp k ks = subst (λ i. 0 < times cmp i ks) same (known_from_distinct o ks j l) in omega arith) in
          let rest : map (orders (k ∷ ks)) (distinct cmp ks) ≡ map (orders ks) (distinct cmp ks) =
          map_agree o (orders (k ∷ ks)) (orders ks) (distinct cmp ks) (λ j l. other j (apart j l)) in
          product-put (orders (k ∷ ks)) k (distinct cmp ks) ∙ (λ i. new (omega arith) i * product (rest i))

  module _ (either : K → Bool) where
    ways-more : (k : K) (ks : List K) → 2 ^ length (filter either (k ∷ ks)) ≡ cond (either k) 2 1 * 2 ^ length (filter either ks)
    ways-more k ks = go (either k)
      where
        go : (b : Bool) → 2 ^ length (cond b (k ∷ filter either ks) (filter either ks)) ≡ cond b 2 1 * 2 ^ length (filter either ks)
        go true = pow-succ' 2 (length (filter either ks))
        go false = omega arith

    -- the running product, written without the order of the keys
    pub running_is : (ks : List K) → running cmp either ks ≡ factorials ks * 2 ^ length (filter either ks)
    running_is [] = refl
    running_is (k ∷ ks) =
        let m : ℕ = suc (times cmp k ks) in
        let w : ℕ = cond (either k) 2 1 in
        ap (λ n. m * (w * n)) (running_is ks) ∙ regrouped m w (factorials ks) (2 ^ length (filter either ks))
        ∙ (λ i. sym (factorials-more k ks) i * sym (ways-more k ks) i)
      where
        regrouped : (m w f t : ℕ) → m * (w * (f * t)) ≡ (m * f) * (w * t)
        regrouped m w f t = grind arith

    -- lists with the same keys therefore have the same running product
    pub running-same : (ks js : List K) → SameElements ks js → running cmp either ks ≡ running cmp either js
    running-same ks js s =
        let often : (k : K) → times cmp k ks ≡ times cmp k js = times-same cmp ks js s in
        let keys : distinct cmp ks ≡ distinct cmp js = distinct_same o ks js (λ k. ap (nat_lt 0) (often k)) in
        running_is ks
        ∙ (λ i. product (map (λ k. factorial (often k i)) (keys i)) * 2 ^ s.counts either i)
        ∙ sym (running_is js)
