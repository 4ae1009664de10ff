-- Keys along chains: which are seen first, their places, their groups, and the first fixed places of each.
use Rattle.tl_number.proofs.Common.{Bool, Chain, County, DirectedChain, IsApart, IsKeyOrder, Known, List, None, OpenPlace, Option, Ordering, Some, [], among-get, among_any, among_known, ap, apart_tail, append-nil, append_assoc, ap₂, arith, at_places, chain_at, cond, cons_option, contains, contains_alike, directed_chain, false, fill_by_all, filter, first_seen_after, fixed_keys, flat_map, group_at, grouped, grouped_map, has_new_at, inl, inr, is_eq, is_open, known-append, known-left, known-right, known_is_among, length, ltb-false, ltb-true, map, min, newly_seen, not, option_map, option_to_list, other_way, pieces_next, place_in, range_with_len, refl, same-itself, same_or_not, slice_get, subst, suc, sym, times, times-append, times-no, times-yes, true, turned, turned_if, unwrap_or, unwrap_or-slice_get, zero, ℕ, ◌&&◌, ◌++◌, ◌+◌, ◌-◌, ◌<◌, ◌∙◌, ◌∷◌, ◌≡◌, ◌≤◌, ◌⊎◌}
use Rattle.canonical_form.proofs.Numbering.SeenKeys.{found_key}

-- two lists have the same members
abbrev pub AreAlike : {K : Type 0} → (K → K → Ordering) → List K → List K → Type 0
AreAlike {K} cmp xs ys = (k : K) → (Known cmp xs k → Known cmp ys k) × (Known cmp ys k → Known cmp xs k)

module _ {K : Type 0} {cmp : K → K → Ordering} (o : IsKeyOrder cmp) where
  pub alike_append : (xs ys us vs : List K) → AreAlike cmp xs ys → AreAlike cmp us vs → AreAlike cmp (xs ++ us) (ys ++ vs)
  alike_append xs ys us vs first second k = (
    (λ h. there xs us ys vs (first k).0 (second k).0 (known-append o k xs us h)),
    (λ h. there ys vs xs us (first k).1 (second k).1 (known-append o k ys vs h)),
  ) where
    there : (ks ls ms ns : List K) → (Known cmp ks k → Known cmp ms k) → (Known cmp ls k → Known cmp ns k) → Known cmp ks k ⊎ Known cmp ls k
        → Known cmp (ms ++ ns) k
    there ks ls ms ns f g (inl l) = known-left o k ms ns (f l)
    there ks ls ms ns f g (inr l) = known-right o k ms ns (g l)

  pub alike_itself : (xs : List K) → AreAlike cmp xs xs
  alike_itself xs k = ((λ h. h), (λ h. h))

  -- the keys seen are those seen before and the new ones
  pub seen_newly : (seen keys : List K) → first_seen_after cmp seen keys ≡ seen ++ newly_seen cmp seen keys
  seen_newly seen [] = sym (append-nil seen)
  seen_newly seen (k ∷ keys) = go (contains cmp k seen) (seen_newly seen keys) (seen_newly (seen ++ (k ∷ [])) keys)
    where
      go : (b : Bool) → first_seen_after cmp seen keys ≡ seen ++ newly_seen cmp seen keys
          → first_seen_after cmp (seen ++ (k ∷ [])) keys ≡ (seen ++ (k ∷ [])) ++ newly_seen cmp (seen ++ (k ∷ [])) keys
          → cond b (first_seen_after cmp seen keys) (first_seen_after cmp (seen ++ (k ∷ [])) keys)
          ≡ seen ++ cond b (newly_seen cmp seen keys) (k ∷ newly_seen cmp (seen ++ (k ∷ [])) keys)
      go true old new = old
      go false old new = new ∙ append_assoc seen (k ∷ []) (newly_seen cmp (seen ++ (k ∷ [])) keys)

  pub newly_alike : (xs ys keys : List K) → AreAlike cmp xs ys → newly_seen cmp xs keys ≡ newly_seen cmp ys keys
  newly_alike xs ys [] alike = refl
  newly_alike xs ys (k ∷ keys) alike =
      λ i. cond (contains_alike o xs ys k (alike k).0 (alike k).1 i) (newly_alike xs ys keys alike i)
      (k ∷ newly_alike (xs ++ (k ∷ [])) (ys ++ (k ∷ [])) keys (alike_append xs ys (k ∷ []) (k ∷ []) alike (alike_itself (k ∷ []))) i)

  -- keys seen one list after another
  pub newly_append : (seen xs ys : List K)
      → newly_seen cmp seen (xs ++ ys) ≡ newly_seen cmp seen xs ++ newly_seen cmp (seen ++ newly_seen cmp seen xs) ys
  newly_append seen [] ys = ap (λ l. newly_seen cmp l ys) (sym (append-nil seen))
  newly_append seen (x ∷ xs) ys = go (contains cmp x seen) (newly_append seen xs ys) (newly_append (seen ++ (x ∷ [])) xs ys)
    where
      more : List K
      more = newly_seen cmp (seen ++ (x ∷ [])) xs

      go : (b : Bool) → newly_seen cmp seen (xs ++ ys) ≡ newly_seen cmp seen xs ++ newly_seen cmp (seen ++ newly_seen cmp seen xs) ys
          → newly_seen cmp (seen ++ (x ∷ [])) (xs ++ ys) ≡ more ++ newly_seen cmp ((seen ++ (x ∷ [])) ++ more) ys
          → cond b (newly_seen cmp seen (xs ++ ys)) (x ∷ newly_seen cmp (seen ++ (x ∷ [])) (xs ++ ys))
          ≡ cond b (newly_seen cmp seen xs) (x ∷ more) ++ newly_seen cmp (seen ++ cond b (newly_seen cmp seen xs) (x ∷ more)) ys
      go true old new = old
      go false old new = ap (λ l. x ∷ l) new ∙ ap (λ l. (x ∷ more) ++ newly_seen cmp l ys) (append_assoc seen (x ∷ []) more)

  -- a key is new once if it's among the keys and wasn't seen before
  pub times_new : (seen keys : List K) (k : K)
      → times cmp k (newly_seen cmp seen keys) ≡ min (1 - times cmp k seen) (times cmp k keys)
  times_new seen [] k = omega arith
  times_new seen (x ∷ keys) k =
      go (contains cmp x seen) refl (same_or_not o k x) (times_new seen keys k) (times_new (seen ++ (x ∷ [])) keys k)
    where
      more : List K
      more = newly_seen cmp (seen ++ (x ∷ [])) keys

      grown : times cmp k (seen ++ (x ∷ [])) ≡ times cmp k seen + times cmp k (x ∷ [])
      grown = times-append o k seen (x ∷ [])

      go : (b : Bool) → contains cmp x seen ≡ b → (k ≡ x) ⊎ (is_eq (cmp k x) ≡ false)
          → times cmp k (newly_seen cmp seen keys) ≡ min (1 - times cmp k seen) (times cmp k keys)
          → times cmp k more ≡ min (1 - times cmp k (seen ++ (x ∷ []))) (times cmp k keys)
          → times cmp k (cond b (newly_seen cmp seen keys) (x ∷ more)) ≡ min (1 - times cmp k seen) (times cmp k (x ∷ keys))
      go true e (inl same) old new =
          let there : Known cmp seen k = subst (Known cmp seen) (sym same) (ltb-true 0 (times cmp x seen) e) in
          omega (arith, there, old, times-yes o k x keys same)
      go true e (inr differ) old new = omega (arith, old, times-no o k x keys differ)
      go false e (inl same) old new =
          let none : times cmp k seen ≤ 0 = subst (λ j. times cmp j seen ≤ 0) (sym same) (ltb-false 0 (times cmp x seen) e) in
          omega (arith, none, new, grown, times-yes o k x [] same, times-yes o k x more same, times-yes o k x keys same)
      go false e (inr differ) old new =
          omega (arith, new, grown, times-no o k x [] differ, times-no o k x more differ, times-no o k x keys differ)

  -- a new key wasn't seen before
  pub newly_unseen : (seen keys : List K) (k : K) → Known cmp (newly_seen cmp seen keys) k → Known cmp seen k → ⊥
  newly_unseen seen keys k h old = omega (arith, times_new seen keys k)

  -- and is one of the keys
  pub newly_known : (seen keys : List K) (k : K) → Known cmp (newly_seen cmp seen keys) k → Known cmp keys k
  newly_known seen keys k h = omega (arith, times_new seen keys k)

  -- each key was seen before or is new
  pub seen_or_new : (seen keys : List K) (k : K) → Known cmp keys k → Known cmp seen k ⊎ Known cmp (newly_seen cmp seen keys) k
  seen_or_new seen keys k h = go (times cmp k seen) refl
    where
      go : (n : ℕ) → times cmp k seen ≡ n → Known cmp seen k ⊎ Known cmp (newly_seen cmp seen keys) k
      go zero e = inr (omega (arith, e, times_new seen keys k))
      go (suc n) e = inl (omega (arith, e))

  -- lists with the same members have the same new keys, each once
  pub newly_both : (seen xs ys : List K) → AreAlike cmp xs ys → AreAlike cmp (newly_seen cmp seen xs) (newly_seen cmp seen ys)
  newly_both seen xs ys alike k =
      let one = times_new seen xs k in
      let other = times_new seen ys k in
      let both = alike k in
      ((λ h. (omega (arith, h, one, other, both.0))), (λ h. (omega (arith, h, one, other, both.1))))

  pub newly_apart : (seen keys : List K) → IsApart cmp (newly_seen cmp seen keys)
  newly_apart seen keys k = omega (arith, times_new seen keys k)

-- ---- keys and their places in a list

module _ {K : Type 0} {cmp : K → K → Ordering} (o : IsKeyOrder cmp) where
  -- the place of the first key, and of a later one
  pub place_first : (x : K) (xs : List K) (k : K) → k ≡ x → place_in cmp (x ∷ xs) k ≡ 0
  place_first x xs k same =
      ap (λ b. cond (not b) (1 + place_in cmp xs k) 0) (ap (λ j. is_eq (cmp k j)) (sym same) ∙ same-itself o k)

  pub place_later : (x : K) (xs : List K) (k : K) → is_eq (cmp k x) ≡ false → place_in cmp (x ∷ xs) k ≡ 1 + place_in cmp xs k
  place_later x xs k apart = ap (λ b. cond (not b) (1 + place_in cmp xs k) 0) apart

  -- a key is found at its place
  pub there_found : (keys : List K) (k : K) → place_in cmp keys k < length keys → slice_get keys (place_in cmp keys k) ≡ Some k
  there_found keys k h = found_key (λ j x. is_eq (cmp j x)) cmp (λ x y. refl) o k keys h

  -- and one that occurs once, where it is
  pub found_there : (keys : List K) → IsApart cmp keys → (i : ℕ) (k : K) → slice_get keys i ≡ Some k → place_in cmp keys k ≡ i
  found_there [] apart i k e = cc
  found_there (x ∷ xs) apart zero k e = place_first x xs k (let same : k ≡ x = cc in same)
  found_there (x ∷ xs) apart (suc i) k e = go (same_or_not o k x) (found_there xs (apart_tail o x xs apart) i k e)
    where
      go : (k ≡ x) ⊎ (is_eq (cmp k x) ≡ false) → place_in cmp xs k ≡ i → place_in cmp (x ∷ xs) k ≡ suc i
      go (inl same) there = absurd (let once = apart k in let later = among_known o k xs (among-get xs i k e) in
          omega (arith, once, later, times-yes o k x xs same))
      go (inr differ) there = place_later x xs k differ ∙ (let t : 1 + place_in cmp xs k ≡ suc i = omega (arith, there) in t)

-- ---- keys of chains in groups, and in the chains' other direction

-- groups, read one by one
pub groups_listed : {X : Type 0} (groups : List (List X)) → map (group_at groups) (range_with_len 0 (length groups)) ≡ groups
groups_listed groups = sym (fill_by_all (group_at groups) groups (length groups) [] refl (λ k l. sym (unwrap_or-slice_get groups k [])))

-- a place past the end has no group, and adds nothing
pub groups_at : {X : Type 0} (groups : List (List X)) (places : List ℕ) → grouped (at_places groups places) ≡ grouped (map (group_at groups) places)
groups_at groups [] = refl
groups_at {X} groups (place ∷ places) = added (slice_get groups place) ∙ ap (λ l. group_at groups place ++ l) (groups_at groups places)
  where
    added : (o : Option (List X)) → grouped (cons_option o (at_places groups places)) ≡ unwrap_or o [] ++ grouped (at_places groups places)
    added None = refl
    added (Some group) = refl

-- joined lists have the same keys in either order
pub swapped_alike : {K : Type 0} {cmp : K → K → Ordering} (o : IsKeyOrder cmp) (xs ys : List K) → AreAlike cmp (xs ++ ys) (ys ++ xs)
swapped_alike o xs ys k =
    let there = times-append o k xs ys in let back = times-append o k ys xs in
    ((λ h. omega (arith, h, there, back)), (λ h. omega (arith, h, there, back)))

-- a directed chain has the same keys in its other direction, if chains do
pub turned_alike : (county : County) {K : Type 0} {cmp : K → K → Ordering} (o : IsKeyOrder cmp) (keys : Chain → List K)
    → ((chain : Chain) → AreAlike cmp (keys (turned chain)) (keys chain)) → (directed : DirectedChain)
    → AreAlike cmp (flat_map keys (option_to_list (directed_chain county (other_way directed))))
    (flat_map keys (option_to_list (directed_chain county directed)))
turned_alike county {K} {cmp} o keys turned_keys directed = go (chain_at county directed.place) directed.turned
  where
    lone : (xs ys : List K) → AreAlike cmp xs ys → AreAlike cmp (xs ++ []) (ys ++ [])
    lone xs ys alike = subst (λ l. AreAlike cmp l (ys ++ [])) (sym (append-nil xs)) (subst (AreAlike cmp xs) (sym (append-nil ys)) alike)

    go : (chain : Option Chain) (t : Bool) → AreAlike cmp (flat_map keys (option_to_list (option_map (turned_if (not t)) chain)))
        (flat_map keys (option_to_list (option_map (turned_if t) chain)))
    go None t = alike_itself o []
    go (Some chain) true = lone (keys chain) (keys (turned chain)) (λ k. ((turned_keys chain k).1, (turned_keys chain k).0))
    go (Some chain) false = lone (keys (turned chain)) (keys chain) (turned_keys chain)

-- ---- the first fixed places of the keys of a list

-- groups of a part of a list, one after another
pub flat_map_filter : {X Y : Type 0} (test : X → Bool) (f : X → List Y) (xs : List X)
    → flat_map f (filter test xs) ≡ flat_map (λ x. cond (test x) (f x) []) xs
flat_map_filter test f [] = refl
flat_map_filter test f (x ∷ xs) = go (test x) (flat_map_filter test f xs)
  where
    go : (b : Bool) → flat_map f (filter test xs) ≡ flat_map (λ x. cond (test x) (f x) []) xs
        → flat_map f (cond b (x ∷ filter test xs) (filter test xs)) ≡ cond b (f x) [] ++ flat_map (λ x. cond (test x) (f x) []) xs
    go true rest = ap (λ l. f x ++ l) rest
    go false rest = rest

-- the keys at one more place are added if it's fixed
pub fixed_more : {K : Type 0} (places : List OpenPlace) (along : List (List K)) (place : ℕ)
    → fixed_keys places along (place + 1) ≡ fixed_keys places along place ++ cond (not (is_open places place)) (group_at along place) []
fixed_more {K} places along place = read (place + 1) ∙ sym (pieces_next part place) ∙ ap (λ l. l ++ part place) (sym (read place))
  where
    part : ℕ → List K
    part q = cond (not (is_open places q)) (group_at along q) []

    read : (count : ℕ) → fixed_keys places along count ≡ flat_map part (range_with_len 0 count)
    read count = grouped_map (group_at along) (filter (λ q. not (is_open places q)) (range_with_len 0 count))
        ∙ flat_map_filter (λ q. not (is_open places q)) (group_at along) (range_with_len 0 count)

module _ {K : Type 0} {cmp : K → K → Ordering} (o : IsKeyOrder cmp) (places : List OpenPlace) (along : List (List K))
    (opened : List K) where
  -- a key of the list that no fixed place before has is new
  key_is_new : (place : ℕ) (k : K) → contains cmp k opened ≡ true → contains cmp k (fixed_keys places along place) ≡ false
      → Known cmp (group_at along place) k → has_new_at cmp places opened along place ≡ true
  key_is_new place k is_opened new here =
      among_any (λ key. contains cmp key opened && not (contains cmp key (fixed_keys places along place))) k (group_at along place)
      (known_is_among o k (group_at along place) here) (ap₂ (λ x y. x && not y) is_opened new)

  -- at its first fixed place a wanted key is new
  pub record FirstFixed (k : K) : Type 0 where
    pub first : ℕ
    pub fixed : is_open places first ≡ false
    pub new_there : has_new_at cmp places opened along first ≡ true
    pub here : Known cmp (group_at along first) k

  -- each of these keys at fixed places has such a place
  first_fixed : (place : ℕ) (k : K) → contains cmp k opened ≡ true → Known cmp (fixed_keys places along place) k
      → (f : FirstFixed k) × (f.first < place)
  first_fixed zero k is_opened h = absurd (omega (arith, h))
  first_fixed (suc place) k is_opened h =
      go (contains cmp k (fixed_keys places along place)) refl (is_open places place) refl (first_fixed place k is_opened)
      (known-append o k (fixed_keys places along place) (cond (not (is_open places place)) (group_at along place) [])
      (subst (λ l. Known cmp l k) (ap (fixed_keys places along) (let t : suc place ≡ place + 1 = omega arith in t)
      ∙ fixed_more places along place) h))
    where
      later : (f : FirstFixed k) × (f.first < place) → (f : FirstFixed k) × (f.first < suc place)
      later f = (f.0, (let l = f.1 in omega (arith, l)))

      go : (b : Bool) → contains cmp k (fixed_keys places along place) ≡ b → (c : Bool) → is_open places place ≡ c
          → (Known cmp (fixed_keys places along place) k → (f : FirstFixed k) × (f.first < place))
          → Known cmp (fixed_keys places along place) k ⊎ Known cmp (cond (not c) (group_at along place) []) k
          → (f : FirstFixed k) × (f.first < suc place)
      go b e c f ih (inl l) = later (ih l)
      go b e true f ih (inr l) = absurd (omega (arith, l))
      go true e false f ih (inr l) = later (ih (ltb-true 0 (times cmp k (fixed_keys places along place)) e))
      go false e false f ih (inr l) =
          (record { first = place; fixed = f; new_there = key_is_new place k is_opened e l; here = l }, omega arith)

  -- a place without a new key has such keys only after their first fixed places
  pub fixed_before : (place : ℕ) → has_new_at cmp places opened along place ≡ false → (k : K) → contains cmp k opened ≡ true
      → Known cmp (group_at along place) k → (f : FirstFixed k) × (f.first < place)
  fixed_before place nothing_new k is_opened here =
      first_fixed place k is_opened (old (contains cmp k (fixed_keys places along place)) refl)
    where
      old : (c : Bool) → contains cmp k (fixed_keys places along place) ≡ c → Known cmp (fixed_keys places along place) k
      old true f = ltb-true 0 (times cmp k (fixed_keys places along place)) f
      old false f = let both : false ≡ true = sym nothing_new ∙ key_is_new place k is_opened f here in cc
