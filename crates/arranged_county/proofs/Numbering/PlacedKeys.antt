-- Keys in a list that are found by marks or in a table of others: that one more key is found too, and where a key stands.
use Rattle.arranged_county.proofs.Common.{AreApart, ArePlaced, Bool, Err, IfOk, IfSome, IsKeyOrder, List, None, Ok, OnOk, Option, Ordering, Result, Some, [], any_within, ap, arith, contains, false, get_or, get_or-set_other, get_or-set_same, inl, inr, is_eq, is_some, known_at, length, length-append, length-set, lt-ltb, none-some, none_within, place_found, position, refl, same_Some, set, slice_get, subst, suc, sym, times, to_position, true, zero, ℕ, ◌%◌, ◌++◌, ◌+◌, ◌<◌, ◌∙◌, ◌∷◌, ◌≡◌, ◌⊎◌}
use Rattle.county_chart.proofs.ByKey.FoundKeys.{any-contains}
use Rattle.std.proofs.lemmas.Bool.{false≢true}
use Rattle.std.specs.List.{list_any}
use Rattle.ordered_lists.proofs.ByKey.Keys.{same-itself}

module _ {K : Type 0} where
  -- an element of a list with one more key is that key, or was in the list before
  before_last : (ks : List K) (k j : K) (i : ℕ) → slice_get (ks ++ k ∷ []) i ≡ Some j
      → (slice_get ks i ≡ Some j) ⊎ ((i ≡ length ks) × (k ≡ j))
  before_last [] k j zero e = inr (refl, same_Some k j e)
  before_last [] k j (suc i) e = absurd (none-some j e)
  before_last (x ∷ xs) k j zero e = inl e
  before_last (x ∷ xs) k j (suc i) e = go (before_last xs k j i e)
    where
      go : (slice_get xs i ≡ Some j) ⊎ ((i ≡ length xs) × (k ≡ j))
          → (slice_get xs i ≡ Some j) ⊎ ((suc i ≡ suc (length xs)) × (k ≡ j))
      go (inl l) = inl l
      go (inr r) = inr (ap suc r.0, r.1)

  -- a key that was at no place is at one place now
  pub apart_more : (ks : List K) (k : K) → AreApart ks → ((place : ℕ) → slice_get ks place ≡ Some k → ⊥) → AreApart (ks ++ k ∷ [])
  apart_more ks k apart new p q j e f = go (before_last ks k j p e) (before_last ks k j q f)
    where
      go : (slice_get ks p ≡ Some j) ⊎ ((p ≡ length ks) × (k ≡ j)) → (slice_get ks q ≡ Some j) ⊎ ((q ≡ length ks) × (k ≡ j)) → p ≡ q
      go (inl l) (inl m) = apart p q j l m
      go (inl l) (inr m) = absurd (new p (l ∙ ap Some (sym m.1)))
      go (inr l) (inl m) = absurd (new q (m ∙ ap Some (sym l.1)))
      go (inr l) (inr m) = l.0 ∙ sym m.0

  -- one more key, whose number had no mark
  pub marked_more : (number_of : K → ℕ) (others : K → Option ℕ) (marks : List ℕ) (ks : List K) (k : K) (n mark : ℕ)
      → ArePlaced number_of others marks ks → number_of k ≡ n → n < length marks → get_or marks n 0 ≡ 0 → mark ≡ length ks + 1
      → ArePlaced number_of others (set marks n mark) (ks ++ k ∷ [])
  marked_more number_of others marks ks k n mark placed is within free stated place j e = go (before_last ks k j place e)
    where
      old : (get_or marks (number_of j) 0 ≡ place + 1) ⊎ (others j ≡ Some place)
          → (get_or (set marks n mark) (number_of j) 0 ≡ place + 1) ⊎ (others j ≡ Some place)
      old (inl m) =
          let apart : number_of j ≡ n → ⊥ = λ same. (let none : get_or marks (number_of j) 0 ≡ 0 = ap (λ i. get_or marks i 0) same ∙ free in
          omega (arith, m, none)) in
          inl (get_or-set_other marks n (number_of j) mark 0 apart ∙ m)
      old (inr o) = inr o

      go : (slice_get ks place ≡ Some j) ⊎ ((place ≡ length ks) × (k ≡ j))
          → (get_or (set marks n mark) (number_of j) 0 ≡ place + 1) ⊎ (others j ≡ Some place)
      go (inl l) = old (placed place j l)
      go (inr r) =
          let here : number_of j ≡ n = ap number_of (sym r.1) ∙ is in
          let last : mark ≡ place + 1 = (let end = r.0 in omega (arith, stated, end)) in
          inl (ap (λ i. get_or (set marks n mark) i 0) here ∙ get_or-set_same marks n mark 0 within ∙ last)

  -- so it is where a slot is the remainder of a number by the length of the table, which stays
  pub slot_marked : (num : K → ℕ) (others : K → Option ℕ) (marks : List ℕ) (ks new : List K) (k : K) (n mark : ℕ)
      → ArePlaced (λ j. num j % length marks) others marks ks → num k % length marks ≡ n → n < length marks → get_or marks n 0 ≡ 0
      → mark ≡ length ks + 1 → new ≡ ks ++ k ∷ [] → ArePlaced (λ j. num j % length (set marks n mark)) others (set marks n mark) new
  slot_marked num others marks ks new k n mark placed is within free stated more =
      subst (λ len. ArePlaced (λ j. num j % len) others (set marks n mark) new) (sym (length-set marks n mark))
      (subst (λ l. ArePlaced (λ j. num j % length marks) others (set marks n mark) l) (sym more)
      (marked_more (λ j. num j % length marks) others marks ks k n mark placed is within free stated))

  -- one more key, which was put into the table of the others
  pub tabled_more : (number_of : K → ℕ) (others more : K → Option ℕ) (marks : List ℕ) (ks : List K) (k : K)
      → ArePlaced number_of others marks ks → more k ≡ Some (length ks) → ((j : K) → (j ≡ k → ⊥) → more j ≡ others j)
      → ((place : ℕ) → slice_get ks place ≡ Some k → ⊥) → ArePlaced number_of more marks (ks ++ k ∷ [])
  tabled_more number_of others more marks ks k placed here kept new place j e = go (before_last ks k j place e)
    where
      old : slice_get ks place ≡ Some j → (get_or marks (number_of j) 0 ≡ place + 1) ⊎ (others j ≡ Some place)
          → (get_or marks (number_of j) 0 ≡ place + 1) ⊎ (more j ≡ Some place)
      old l (inl m) = inl m
      old l (inr o) = inr (kept j (λ same. new place (l ∙ ap Some same)) ∙ o)

      go : (slice_get ks place ≡ Some j) ⊎ ((place ≡ length ks) × (k ≡ j))
          → (get_or marks (number_of j) 0 ≡ place + 1) ⊎ (more j ≡ Some place)
      go (inl l) = old l (placed place j l)
      go (inr r) = inr (ap more (sym r.1) ∙ here ∙ ap Some (sym r.0))

  -- a key that isn't in the list may be added to the table of the others first
  pub tabled_ahead : (number_of : K → ℕ) (others more : K → Option ℕ) (marks : List ℕ) (ks : List K) (k : K)
      → ArePlaced number_of others marks ks → ((j : K) → (j ≡ k → ⊥) → more j ≡ others j)
      → ((place : ℕ) → slice_get ks place ≡ Some k → ⊥) → ArePlaced number_of more marks ks
  tabled_ahead number_of others more marks ks k placed kept new place j e = go (placed place j e)
    where
      go : (get_or marks (number_of j) 0 ≡ place + 1) ⊎ (others j ≡ Some place)
          → (get_or marks (number_of j) 0 ≡ place + 1) ⊎ (more j ≡ Some place)
      go (inl m) = inl m
      go (inr o) = inr (kept j (λ same. new place (e ∙ ap Some same)) ∙ o)

module _ {K : Type 0} {cmp : K → K → Ordering} (o : IsKeyOrder cmp) where
  -- a key at a place is in the list
  pub there_contained : (ks : List K) (k : K) (place : ℕ) → slice_get ks place ≡ Some k → contains cmp k ks ≡ true
  there_contained ks k place e = lt-ltb 0 (times cmp k ks) (known_at o ks place k e)

  -- a key that isn't in the list is at no place
  pub nowhere : (ks : List K) (k : K) → contains cmp k ks ≡ false → (place : ℕ) → slice_get ks place ≡ Some k → ⊥
  nowhere ks k none place e = false≢true (sym none ∙ there_contained ks k place e)

  -- a key in the list has a first place
  found_first : (ks : List K) (k : K) → contains cmp k ks ≡ true
      → (place : ℕ) × (Some place ≡ position (λ other. is_eq (cmp k other)) ks) × (slice_get ks place ≡ Some k)
  found_first ks k there =
      let any : list_any (λ other. is_eq (cmp k other)) ks ≡ true = any-contains (λ x y. is_eq (cmp x y)) cmp (λ x y. refl) k ks ∙ there in
      let at = to_position (λ other. is_eq (cmp k other)) ks (any_within (λ other. is_eq (cmp k other)) ks any) in (
        _,
        at,
        subst (λ found. IfSome found (λ place. slice_get ks place ≡ Some k)) (sym at)
            (place_found (λ x y. is_eq (cmp x y)) cmp (λ x y. refl) o k ks),
      )

  -- if a place is found for every key in the list, and only places of the key are found, it is the first
  pub stated_first : (ks : List K) (k : K) (stated : Option ℕ) → IfSome stated (λ place. slice_get ks place ≡ Some k)
      → ((place : ℕ) → slice_get ks place ≡ Some k → stated ≡ Some place)
      → (stated ≡ position (λ other. is_eq (cmp k other)) ks) × (is_some stated ≡ contains cmp k ks)
  stated_first ks k stated found each = go (contains cmp k ks) refl stated found each
    where
      nowhere_first : contains cmp k ks ≡ false → (r : Option ℕ) → position (λ other. is_eq (cmp k other)) ks ≡ r
          → None ≡ position (λ other. is_eq (cmp k other)) ks
      nowhere_first none None e = sym e
      nowhere_first none (Some place) e = absurd (nowhere ks k none place
          (subst (λ found. IfSome found (λ place. slice_get ks place ≡ Some k)) e
          (place_found (λ x y. is_eq (cmp x y)) cmp (λ x y. refl) o k ks)))

      go : (b : Bool) → contains cmp k ks ≡ b → (r : Option ℕ) → IfSome r (λ place. slice_get ks place ≡ Some k)
          → ((place : ℕ) → slice_get ks place ≡ Some k → r ≡ Some place)
          → (r ≡ position (λ other. is_eq (cmp k other)) ks) × (is_some r ≡ b)
      go true e r f g =
          let first = found_first ks k e in
          let is : r ≡ Some first.0 = g first.0 first.2 in
          (is ∙ first.1, ap is_some is)
      go false e None f g = (nowhere_first e (position (λ other. is_eq (cmp k other)) ks) refl, refl)
      go false e (Some place) f g = absurd (nowhere ks k e place f)

  -- an added key comes after the others
  pub added_last : (ks : List K) (k : K) → contains cmp k ks ≡ false
      → Some (length ks) ≡ position (λ other. is_eq (cmp k other)) (ks ++ k ∷ [])
  added_last ks k none =
      let any : list_any (λ other. is_eq (cmp k other)) ks ≡ false = any-contains (λ x y. is_eq (cmp x y)) cmp (λ x y. refl) k ks ∙ none in
      let last = (none_within (λ other. is_eq (cmp k other)) ks k any (same-itself o k)).1 in
      let count = length-append ks (k ∷ []) in
      ap Some (sym last) ∙ to_position (λ other. is_eq (cmp k other)) (ks ++ (k ∷ [])) (omega (arith, last, count))

  -- the same if a call returns its place
  pub added_first : {E : Type 0} (r : Result ℕ E) (ks new : List K) (k : K) → contains cmp k ks ≡ false → OnOk r (new ≡ ks ++ k ∷ [])
      → IfOk r (λ place. place ≡ length ks) → IfOk r (λ place. Some place ≡ position (λ other. is_eq (cmp k other)) new)
  added_first (Ok place) ks new k none added at =
      ap Some at ∙ added_last ks k none ∙ ap (position (λ other. is_eq (cmp k other))) (sym added)
  added_first (Err e) ks new k none added at = tt
