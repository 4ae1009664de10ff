-- Keys in the order of their first occurrence: each occurs once, the members are the same, and the numbers grow along the keys.
use Rattle.canonical_form.proofs.Common.{Bool, Grows, GrowsFrom, IsApart, IsKeyOrder, Known, List, Ordering, [], any-contains, ap, append-nil, append_assoc, arith, cond, contains, false, first_seen, first_seen_after, inl, inr, is_eq, known-append, known-here, known-later, known-left, known-right, known_cases, length, length-append, lt-ltb, ltb-false, ltb-true, map, max, nat_lt, not, position_or_len, refl, same-itself, same_or_not, subst, sym, times, times-append, times-no, times-yes, true, ℕ, ◌++◌, ◌+◌, ◌<◌, ◌∙◌, ◌∷◌, ◌≡◌, ◌≤◌, ◌⊎◌}
use Rattle.canonical_form.proofs.Numbering.FoundPlaces.{any_within, first_stays, none_at_end, place_behind}

module _ {K : Type 0} {cmp : K → K → Ordering} (o : IsKeyOrder cmp) where
  -- the place of a key in a list whose first place is i
  abbrev pub place_from : ℕ → List K → K → ℕ
  place_from i xs k = i + position_or_len (λ other. is_eq (cmp k other)) xs

  pub known_within : (xs : List K) (k : K) → Known cmp xs k → position_or_len (λ other. is_eq (cmp k other)) xs < length xs
  known_within xs k h = any_within (λ other. is_eq (cmp k other)) xs
      (any-contains (λ x y. is_eq (cmp x y)) cmp (λ x y. refl) k xs ∙ lt-ltb 0 (times cmp k xs) h)

  pub unknown_at_end : (xs : List K) (k : K) → times cmp k xs ≡ 0 → position_or_len (λ other. is_eq (cmp k other)) xs ≡ length xs
  unknown_at_end xs k h = none_at_end (λ other. is_eq (cmp k other)) xs
      (any-contains (λ x y. is_eq (cmp x y)) cmp (λ x y. refl) k xs ∙ ap (nat_lt 0) h)

  -- a known key has a place in the list
  pub place_bounds : (i : ℕ) (xs : List K) (k : K) → Known cmp xs k → (i ≤ place_from i xs k) × (place_from i xs k < i + length xs)
  place_bounds i xs k h = let within = known_within xs k h in (omega arith, omega (arith, within))

  -- a key has the same place in a longer list
  pub place-append : (i : ℕ) (xs ys : List K) (k : K) → Known cmp xs k → place_from i (xs ++ ys) k ≡ place_from i xs k
  place-append i xs ys k h = ap (λ n. i + n) (first_stays (λ other. is_eq (cmp k other)) xs ys (known_within xs k h))

  -- a new key comes after all others
  pub place-new : (i : ℕ) (xs : List K) (k : K) → times cmp k xs ≡ 0 → place_from i (xs ++ (k ∷ [])) k ≡ i + length xs
  place-new i xs k h =
      let end = unknown_at_end xs k h in
      ap (λ n. i + n) (place_behind (λ other. is_eq (cmp k other)) xs (k ∷ []) (omega (arith, end))
      ∙ ap (λ b. length xs + cond (not b) (1 + 0) 0) (same-itself o k) ∙ (let t : length xs + 0 ≡ length xs = omega arith in t))

  -- keys that were seen stay at the beginning
  pub seen_stays : (seen keys : List K) → (more : List K) × (first_seen_after cmp seen keys ≡ seen ++ more)
  seen_stays seen [] = ([], sym (append-nil seen))
  seen_stays seen (k ∷ keys) = go (contains cmp k seen) (seen_stays seen keys) (seen_stays (seen ++ (k ∷ [])) keys)
    where
      go : (b : Bool) → (more : List K) × (first_seen_after cmp seen keys ≡ seen ++ more)
          → (more : List K) × (first_seen_after cmp (seen ++ (k ∷ [])) keys ≡ (seen ++ (k ∷ [])) ++ more)
          → (more : List K) × (cond b (first_seen_after cmp seen keys) (first_seen_after cmp (seen ++ (k ∷ [])) keys) ≡ seen ++ more)
      go true old new = old
      go false old new = (k ∷ new.0, new.1 ∙ append_assoc seen (k ∷ []) new.0)

  new_apart : (seen : List K) (k : K) → IsApart cmp seen → contains cmp k seen ≡ false → IsApart cmp (seen ++ (k ∷ []))
  new_apart seen k a f j = go (same_or_not o j k)
    where
      none : times cmp k seen ≤ 0
      none = ltb-false 0 (times cmp k seen) f

      go : (j ≡ k) ⊎ (is_eq (cmp j k) ≡ false) → times cmp j (seen ++ (k ∷ [])) ≤ 1
      go (inl e) = let n : times cmp j seen ≤ 0 = subst (λ i. times cmp i seen ≤ 0) (sym e) none in
          omega (arith, times-append o j seen (k ∷ []), times-yes o j k [] e, n)
      go (inr ne) = omega (arith, times-append o j seen (k ∷ []), times-no o j k [] ne, a j)

  apart_after : (seen keys : List K) → IsApart cmp seen → IsApart cmp (first_seen_after cmp seen keys)
  apart_after seen [] a = a
  apart_after seen (k ∷ keys) a = go (contains cmp k seen) refl (apart_after seen keys a) (apart_after (seen ++ (k ∷ [])) keys)
    where
      go : (b : Bool) → contains cmp k seen ≡ b → IsApart cmp (first_seen_after cmp seen keys)
          → (IsApart cmp (seen ++ (k ∷ [])) → IsApart cmp (first_seen_after cmp (seen ++ (k ∷ [])) keys))
          → IsApart cmp (cond b (first_seen_after cmp seen keys) (first_seen_after cmp (seen ++ (k ∷ [])) keys))
      go true e old new = old
      go false e old new = new (new_apart seen k a e)

  pub first_seen-apart : (keys : List K) → IsApart cmp (first_seen cmp keys)
  first_seen-apart keys = apart_after [] keys (λ k. omega arith)

  pub known_after : (seen keys : List K) (k : K) → Known cmp (first_seen_after cmp seen keys) k → Known cmp seen k ⊎ Known cmp keys k
  known_after seen [] k h = inl h
  known_after seen (j ∷ keys) k h = go (contains cmp j seen) h (known_after seen keys k) (known_after (seen ++ (j ∷ [])) keys k)
    where
      split : Known cmp (seen ++ (j ∷ [])) k ⊎ Known cmp keys k → Known cmp seen k ⊎ Known cmp (j ∷ keys) k
      split (inr l) = inr (known-later o k j keys l)
      split (inl l) = at (known-append o k seen (j ∷ []) l)
        where
          at : Known cmp seen k ⊎ Known cmp (j ∷ []) k → Known cmp seen k ⊎ Known cmp (j ∷ keys) k
          at (inl m) = inl m
          at (inr m) = inr (known-left o k (j ∷ []) keys m)

      later : Known cmp seen k ⊎ Known cmp keys k → Known cmp seen k ⊎ Known cmp (j ∷ keys) k
      later (inl l) = inl l
      later (inr l) = inr (known-later o k j keys l)

      go : (b : Bool) → Known cmp (cond b (first_seen_after cmp seen keys) (first_seen_after cmp (seen ++ (j ∷ [])) keys)) k
          → (Known cmp (first_seen_after cmp seen keys) k → Known cmp seen k ⊎ Known cmp keys k)
          → (Known cmp (first_seen_after cmp (seen ++ (j ∷ [])) keys) k → Known cmp (seen ++ (j ∷ [])) k ⊎ Known cmp keys k)
          → Known cmp seen k ⊎ Known cmp (j ∷ keys) k
      go true l old new = later (old l)
      go false l old new = split (new l)

  -- only keys of the list are seen
  pub from_first_seen : (keys : List K) (k : K) → Known cmp (first_seen cmp keys) k → Known cmp keys k
  from_first_seen keys k h = go (known_after [] keys k h)
    where
      go : Known cmp [] k ⊎ Known cmp keys k → Known cmp keys k
      go (inl l) = absurd (omega (arith, l))
      go (inr l) = l

  pub seen_after : (seen keys : List K) (k : K) → Known cmp seen k → Known cmp (first_seen_after cmp seen keys) k
  seen_after seen keys k h = let m = seen_stays seen keys in subst (λ l. Known cmp l k) (sym m.1) (known-left o k seen m.0 h)

  pub all_after : (seen keys : List K) (k : K) → Known cmp keys k → Known cmp (first_seen_after cmp seen keys) k
  all_after seen [] k h = absurd (omega (arith, h))
  all_after seen (j ∷ keys) k h =
      go (contains cmp j seen) refl (all_after seen keys k) (all_after (seen ++ (j ∷ [])) keys k) (known_cases o k j keys h)
    where
      go : (b : Bool) → contains cmp j seen ≡ b → (Known cmp keys k → Known cmp (first_seen_after cmp seen keys) k)
          → (Known cmp keys k → Known cmp (first_seen_after cmp (seen ++ (j ∷ [])) keys) k)
          → (k ≡ j) ⊎ (Known cmp keys k × (is_eq (cmp k j) ≡ false))
          → Known cmp (cond b (first_seen_after cmp seen keys) (first_seen_after cmp (seen ++ (j ∷ [])) keys)) k
      go true e old new (inl same) = seen_after seen keys k (subst (λ i. 0 < times cmp i seen) (sym same) (ltb-true 0 (times cmp j seen) e))
      go true e old new (inr l) = old l.0
      go false e old new (inl same) =
          seen_after (seen ++ (j ∷ [])) keys k
          (known-right o k seen (j ∷ []) (subst (λ i. Known cmp (j ∷ []) i) (sym same) (known-here o j [])))
      go false e old new (inr l) = new l.0

  -- each key of the list is seen
  pub to_first_seen : (keys : List K) (k : K) → Known cmp keys k → Known cmp (first_seen cmp keys) k
  to_first_seen keys k h = all_after [] keys k h

  -- the places along the keys grow
  places_grow : (seen keys : List K) → GrowsFrom (length seen) (map (place_from 1 (first_seen_after cmp seen keys)) keys)
  places_grow seen [] = tt
  places_grow seen (k ∷ keys) = go (contains cmp k seen) refl (places_grow seen keys) (places_grow (seen ++ (k ∷ [])) keys)
    where
      old : (final : List K) (more : List K) → final ≡ seen ++ more → Known cmp seen k
          → GrowsFrom (length seen) (map (place_from 1 final) keys) → GrowsFrom (length seen) (map (place_from 1 final) (k ∷ keys))
      old final more e h ih =
          let p : place_from 1 final k ≡ place_from 1 seen k = ap (λ l. place_from 1 l k) e ∙ place-append 1 seen more k h in
          let b = place_bounds 1 seen k h in
          let low : 1 ≤ place_from 1 seen k = b.0 in
          let high : place_from 1 seen k < 1 + length seen = b.1 in
          let top : max (length seen) (place_from 1 final k) ≡ length seen = omega (arith, p, high) in (
            (let t : 1 ≤ place_from 1 final k = omega (arith, p, low) in t),
            (let t : place_from 1 final k ≤ length seen + 1 = omega (arith, p, high) in t),
            subst (λ n. GrowsFrom n (map (place_from 1 final) keys)) (sym top) ih,
          )

      new : (final : List K) (more : List K) → final ≡ (seen ++ (k ∷ [])) ++ more → times cmp k seen ≡ 0
          → GrowsFrom (length (seen ++ (k ∷ []))) (map (place_from 1 final) keys)
          → GrowsFrom (length seen) (map (place_from 1 final) (k ∷ keys))
      new final more e none ih =
          let here : Known cmp (seen ++ (k ∷ [])) k = known-right o k seen (k ∷ []) (known-here o k []) in
          let p : place_from 1 final k ≡ 1 + length seen = ap (λ l. place_from 1 l k) e ∙ place-append 1 (seen ++ (k ∷ [])) more k here
          ∙ place-new 1 seen k none in
          let longer : length (seen ++ (k ∷ [])) ≡ length seen + 1 = length-append seen (k ∷ []) in
          let top : length (seen ++ (k ∷ [])) ≡ max (length seen) (place_from 1 final k) = omega (arith, p, longer) in (
            (let t : 1 ≤ place_from 1 final k = omega (arith, p) in t),
            (let t : place_from 1 final k ≤ length seen + 1 = omega (arith, p) in t),
            subst (λ n. GrowsFrom n (map (place_from 1 final) keys)) top ih,
          )

      go : (b : Bool) → contains cmp k seen ≡ b → GrowsFrom (length seen) (map (place_from 1 (first_seen_after cmp seen keys)) keys)
          → GrowsFrom (length (seen ++ (k ∷ []))) (map (place_from 1 (first_seen_after cmp (seen ++ (k ∷ [])) keys)) keys)
          → GrowsFrom (length seen)
          (map (place_from 1 (cond b (first_seen_after cmp seen keys) (first_seen_after cmp (seen ++ (k ∷ [])) keys))) (k ∷ keys))
      go true e ih jh = let m = seen_stays seen keys in old (first_seen_after cmp seen keys) m.0 m.1 (ltb-true 0 (times cmp k seen) e) ih
      go false e ih jh = let m = seen_stays (seen ++ (k ∷ [])) keys in
          new (first_seen_after cmp (seen ++ (k ∷ [])) keys) m.0 m.1 (let n : times cmp k seen ≤ 0 = ltb-false 0 (times cmp k seen) e in
          omega arith) jh

  pub first_seen-grows : (keys : List K) → Grows (map (place_from 1 (first_seen cmp keys)) keys)
  first_seen-grows keys = places_grow [] keys
