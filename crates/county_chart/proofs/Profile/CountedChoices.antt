-- A pass over ordered keys, from the last to the first: the running product, and the places with a choice.
use Rattle.county_chart.proofs.Common.{Bool, IsInOrder, IsKeyOrder, List, OpenPlace, Ordering, [], alike_first, ap, arith, before_all, cond, false, inl, inr, is_eq, is_first, is_settled, length, less_from, open_place_at, open_places, refl, reverse, reverse-append, running, same-true, same_or_not, suc, times, times-no, times-yes, true, ways_at, ℕ, ◌*◌, ◌++◌, ◌+◌, ◌∙◌, ◌∷◌, ◌≡◌, ◌≤◌, ◌⊎◌}

module _ {K : Type 0} {cmp : K → K → Ordering} (o : IsKeyOrder cmp) where
  -- in order, a key occurs after itself one time more than the next key does if they are the same, and never if they aren't
  pub run_on : (k j : K) (js : List K) → IsInOrder cmp (k ∷ j ∷ js)
      → times cmp k (j ∷ js) ≡ cond (is_eq (cmp k j)) (suc (times cmp j js)) 0
  run_on k j js h = go (is_eq (cmp k j)) refl
    where
      go : (b : Bool) → is_eq (cmp k j) ≡ b → times cmp k (j ∷ js) ≡ cond b (suc (times cmp j js)) 0
      go true e =
          let same : k ≡ j = same-true o k j e in
          times-yes o k j js same ∙ ap (λ i. suc (times cmp i js)) same
      go false e = before_all o k j js h.1 (less_from o (cmp k j) h.0.0 e)

  -- so the count of a key follows from the count of the next key
  pub alike-next : (k : K) (ks : List K) → IsInOrder cmp (k ∷ ks) → cond (is_first cmp k ks) (alike_first cmp ks + 1) 1 ≡ suc (times cmp k ks)
  alike-next k [] h = refl
  alike-next k (j ∷ js) h = go (is_eq (cmp k j)) (run_on k j js h)
    where
      go : (b : Bool) → times cmp k (j ∷ js) ≡ cond b (suc (times cmp j js)) 0
          → cond b (suc (times cmp j js) + 1) 1 ≡ suc (times cmp k (j ∷ js))
      go true e = omega (arith, e)
      go false e = omega (arith, e)

  pub times_few : (k : K) (ks : List K) → times cmp k ks ≤ length ks
  times_few k [] = omega arith
  times_few k (j ∷ js) = go (same_or_not o k j) (times_few k js)
    where
      go : (k ≡ j) ⊎ (is_eq (cmp k j) ≡ false) → times cmp k js ≤ length js → times cmp k (j ∷ js) ≤ length (j ∷ js)
      go (inl e) ih = omega (arith, times-yes o k j js e, ih)
      go (inr n) ih = omega (arith, times-no o k j js n, ih)

  pub alike_few : (ks : List K) → alike_first cmp ks ≤ length ks
  alike_few [] = omega arith
  alike_few (k ∷ ks) = omega (arith, times_few k ks)

module _ {K : Type 0} (cmp : K → K → Ordering) (either : K → Bool) where
  -- one more key leaves at least as many choices
  pub more_choices : (k : K) (ks : List K) → running cmp either ks ≤ running cmp either (k ∷ ks)
  more_choices k ks = go (either k)
    where
      grown : (m r : ℕ) → r ≤ suc m * r
      grown m r = grind arith

      doubled : (m r : ℕ) → r ≤ suc m * (2 * r)
      doubled m r = grind arith

      go : (b : Bool) → running cmp either ks ≤ suc (times cmp k ks) * (cond b 2 1 * running cmp either ks)
      go true = doubled (times cmp k ks) (running cmp either ks)
      go false = (let g = grown (times cmp k ks) (running cmp either ks) in omega arith)

  -- so do several more
  pub more_choices-append : (js ks : List K) → running cmp either ks ≤ running cmp either (js ++ ks)
  more_choices-append [] ks = omega arith
  more_choices-append (j ∷ js) ks =
      let rest : running cmp either ks ≤ running cmp either (js ++ ks) = more_choices-append js ks in
      let more : running cmp either (js ++ ks) ≤ running cmp either (j ∷ (js ++ ks)) = more_choices j (js ++ ks) in
      omega arith

  -- The state of a pass that has come from the last key to a place: the count and the open places of the keys from there on,
  -- and how many of these are the same as the first. The last place comes first.
  pub record IsCounted (place : ℕ) (keys : List K) (count alike : ℕ) (places : List OpenPlace) : Type 0 where
    pub count_is : count ≡ running cmp either keys
    pub alike_is : alike ≡ alike_first cmp keys
    pub places_are : reverse places ≡ open_places cmp either place keys

  -- one more key before the others
  pub counted_next : (place : ℕ) (k : K) (ks : List K) (count alike : ℕ) (places : List OpenPlace) → IsCounted (suc place) ks count alike places
      → (at : OpenPlace) → at ≡ open_place_at cmp either place k ks → (counted alike_now : ℕ) (now : List OpenPlace)
      → counted ≡ at.alike * (ways_at at * count) → alike_now ≡ at.alike → now ≡ cond (is_settled at) places (places ++ (at ∷ []))
      → IsCounted place (k ∷ ks) counted alike_now now
  counted_next place k ks count alike places was at is counted alike_now now c a p = record {
    count_is = c ∙ ap (λ (o : OpenPlace). o.alike * (ways_at o * count)) is
        ∙ ap (λ n. suc (times cmp k ks) * (cond (either k) 2 1 * n)) was.count_is;
    alike_is = a ∙ ap (λ (o : OpenPlace). o.alike) is;
    places_are = ap reverse (p ∙ ap (λ (o : OpenPlace). cond (is_settled o) places (places ++ (o ∷ []))) is)
        ∙ go (is_settled (open_place_at cmp either place k ks));
  }
    where
      here : OpenPlace
      here = open_place_at cmp either place k ks

      go : (b : Bool) → reverse (cond b places (places ++ (here ∷ [])))
          ≡ cond b (open_places cmp either (suc place) ks) (here ∷ open_places cmp either (suc place) ks)
      go true = was.places_are
      go false = reverse-append places (here ∷ []) ∙ ap (λ l. here ∷ l) was.places_are
