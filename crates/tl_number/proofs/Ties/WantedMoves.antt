-- Moves at open places change the order of wanted keys alone.
use Rattle.tl_number.proofs.Common.{AllByRecursion, AreWithin, Bool, IsKeyOrder, Known, List, OpenPlace, Ordering, Some, [], all_after, ap, append_assoc, ap₂, arith, cond, drop, false, false≢true, filter, first_seen_after, first_stood, flat_map, inl, inr, insert, known-append, known-left, known-right, length, map, moved, moved_count, newly_seen, open_keys, range_with_len, refl, seen_after, seen_append, slice_get, subst, suc, sym, take, true, turned_by, zero, ℕ, ⊤, ◌%◌, ◌++◌, ◌+◌, ◌/◌, ◌<◌, ◌∙◌, ◌∷◌, ◌≡◌, ◌≤◌, ◌⊎◌}
use Rattle.tl_number.proofs.Ties.Keys.{AreAlike, alike_itself, flat_map_filter, newly_known, seen_or_new, swapped_alike}
use Rattle.tl_number.proofs.Ties.Places.{Covers}
use Rattle.tl_number.proofs.Ties.Ranks.{AreReordered, reordered_before, reordered_block, reordered_itself, reordered_then}

-- the keys of the elements at kept places, of a list whose first place is given
abbrev pub kept_keys : {X K : Type 0} → (ℕ → Bool) → (X → List K) → ℕ → List X → List K
kept_keys keep keys_of place [] = []
kept_keys keep keys_of place (x ∷ xs) = cond (keep place) (keys_of x) [] ++ kept_keys keep keys_of (place + 1) xs

-- if all are kept, these are the keys of all elements
pub all_kept : {X K : Type 0} (keys_of : X → List K) (place : ℕ) (xs : List X)
    → kept_keys (λ p. true) keys_of place xs ≡ flat_map keys_of xs
all_kept keys_of place [] = refl
all_kept keys_of place (x ∷ xs) = ap (λ l. keys_of x ++ l) (all_kept keys_of (place + 1) xs)

-- they can be read at the kept places
pub kept_there : {X K : Type 0} (keep : ℕ → Bool) (keys_of : X → List K) (read : ℕ → List K) (place : ℕ) (xs : List X)
    → ((i : ℕ) (x : X) → slice_get xs i ≡ Some x → read (place + i) ≡ keys_of x)
    → kept_keys keep keys_of place xs ≡ flat_map read (filter keep (range_with_len place (length xs)))
kept_there {X} keep keys_of read place xs reads = each place xs reads ∙ sym (flat_map_filter keep read (range_with_len place (length xs)))
  where
    each : (p : ℕ) (ys : List X) → ((i : ℕ) (y : X) → slice_get ys i ≡ Some y → read (p + i) ≡ keys_of y)
        → kept_keys keep keys_of p ys ≡ flat_map (λ q. cond (keep q) (read q) []) (range_with_len p (length ys))
    each p [] h = refl
    each p (y ∷ ys) h = ap₂ (λ k l. cond (keep p) k [] ++ l) (sym (ap read (let t : p ≡ p + 0 = omega arith in t) ∙ h 0 y refl))
        (each (p + 1) ys (λ i z e. ap read (let t : p + 1 + i ≡ p + suc i = omega arith in t) ∙ h (suc i) z e))

module _ {X K : Type 0} {cmp : K → K → Ordering} (o : IsKeyOrder cmp) (keys_of : X → List K) (is_open keep : ℕ → Bool)
    (open_kept : (place : ℕ) → is_open place ≡ true → keep place ≡ true) (wanted : K → Bool) where
  abbrev kept : ℕ → List X → List K
  kept = kept_keys keep keys_of

  -- each key of an element is wanted, or is an earlier one
  abbrev pub IsEarlier : List K → X → Type 0
  IsEarlier earlier x = (k : K) → wanted k ≡ false → Known cmp (keys_of x) k → Known cmp earlier k

  -- the earlier keys when one more place is passed: those at kept fixed places
  abbrev pub earlier_at : List K → ℕ → X → List K
  earlier_at earlier place x = cond (is_open place) earlier (earlier ++ cond (keep place) (keys_of x) [])

  -- each key at an open place is wanted, or is at a kept fixed place before it
  abbrev pub AreEarlier : List K → ℕ → List X → Type 0
  AreEarlier earlier place [] = ⊤
  AreEarlier earlier place (x ∷ xs) = (is_open place ≡ true → IsEarlier earlier x) × AreEarlier (earlier_at earlier place x) (place + 1) xs

  -- it's so if all keys at open places are wanted,
  pub wanted_earlier : (earlier : List K) (place : ℕ) (xs : List X) → ((k : K) → Known cmp (kept_keys is_open keys_of place xs) k → wanted k ≡ true)
      → AreEarlier earlier place xs
  wanted_earlier earlier place [] all = tt
  wanted_earlier earlier place (x ∷ xs) all = (
    (λ e k f h. absurd (false≢true (sym f ∙ all k (known-left o k (cond (is_open place) (keys_of x) []) later (rw e h))))),
    wanted_earlier (earlier_at earlier place x) (place + 1) xs (λ k h. all k (known-right o k (cond (is_open place) (keys_of x) []) later h)),
  ) where
    later : List K
    later = kept_keys is_open keys_of (place + 1) xs

  -- or if all places are kept, and those are wanted that first appear at open places
  pub first_earlier : ((place : ℕ) → keep place ≡ true) → (seen earlier : List K) (place : ℕ) (xs : List X)
      → ((k : K) → wanted k ≡ false → Known cmp seen k → Known cmp earlier k)
      → ((k : K) → Known cmp (open_keys cmp is_open seen place (map keys_of xs)) k → wanted k ≡ true) → AreEarlier earlier place xs
  first_earlier every seen earlier place [] old new = tt
  first_earlier every seen earlier place (x ∷ xs) old new = (
    (λ e k f h. old k f (not_new e k f (seen_or_new o seen (keys_of x) k h))),
    first_earlier every (seen ++ fresh) (earlier_at earlier place x) (place + 1) xs
        (λ k f h. grown (is_open place) refl k f (known-append o k seen fresh h))
        (λ k h. new k (known-right o k (cond (is_open place) fresh []) later h)),
  ) where
    fresh : List K
    fresh = newly_seen cmp seen (keys_of x)

    later : List K
    later = open_keys cmp is_open (seen ++ fresh) (place + 1) (map keys_of xs)

    not_new : is_open place ≡ true → (k : K) → wanted k ≡ false → Known cmp seen k ⊎ Known cmp fresh k → Known cmp seen k
    not_new e k f (inl h) = h
    not_new e k f (inr h) = absurd (false≢true (sym f ∙ new k (known-left o k (cond (is_open place) fresh []) later (rw e h))))

    grown : (b : Bool) → is_open place ≡ b → (k : K) → wanted k ≡ false → Known cmp seen k ⊎ Known cmp fresh k
        → Known cmp (cond b earlier (earlier ++ cond (keep place) (keys_of x) [])) k
    grown true e k f h = old k f (not_new e k f h)
    grown false e k f (inl h) = known-left o k earlier (cond (keep place) (keys_of x) []) (old k f h)
    grown false e k f (inr h) =
        known-right o k earlier (cond (keep place) (keys_of x) []) (rw (every place) (newly_known o seen (keys_of x) k h))

  -- The keys of two lists of elements, seen after all earlier keys: only wanted ones have other places.
  pub record AreMoved (earlier : List K) (place : ℕ) (xs ys : List X) : Type 0 where
    pub earlier_too : AreEarlier earlier place ys
    pub reordered : (seen : List K) → ((k : K) → Known cmp earlier k → Known cmp seen k)
        → AreReordered o wanted (first_seen_after cmp seen (kept place xs)) (first_seen_after cmp seen (kept place ys))

  moved_then : (earlier : List K) (place : ℕ) (xs ys zs : List X) → AreMoved earlier place xs ys → AreMoved earlier place ys zs
      → AreMoved earlier place xs zs
  moved_then earlier place xs ys zs first next = record {
    earlier_too = next.earlier_too;
    reordered = λ seen more. reordered_then o wanted _ _ _ (first.reordered seen more) (next.reordered seen more);
  }

  -- elements behind another one
  moved_behind : (earlier : List K) (place : ℕ) (x : X) (xs ys : List X) → (is_open place ≡ true → IsEarlier earlier x)
      → AreMoved (earlier_at earlier place x) (place + 1) xs ys → AreMoved earlier place (x ∷ xs) (x ∷ ys)
  moved_behind earlier place x xs ys all later = record {
    earlier_too = (all, later.earlier_too);
    reordered = λ seen more. rw (seen_append cmp seen here (kept (place + 1) xs), seen_append cmp seen here (kept (place + 1) ys))
        (later.reordered (first_seen_after cmp seen here) (λ k h. all_seen seen more k (is_open place) h));
  } where
    here : List K
    here = cond (keep place) (keys_of x) []

    all_seen : (seen : List K) → ((k : K) → Known cmp earlier k → Known cmp seen k) → (k : K) (b : Bool)
        → Known cmp (cond b earlier (earlier ++ here)) k → Known cmp (first_seen_after cmp seen here) k
    all_seen seen more k true h = seen_after o seen here k (more k h)
    all_seen seen more k false h = go (known-append o k earlier here h)
      where
        go : Known cmp earlier k ⊎ Known cmp here k → Known cmp (first_seen_after cmp seen here) k
        go (inl l) = seen_after o seen here k (more k l)
        go (inr l) = all_after o seen here k l

  -- elements whose first keys are in another order
  moved_block : (earlier : List K) (place : ℕ) (xs ys : List X) (block block_too rest : List K) → kept place xs ≡ block ++ rest
      → kept place ys ≡ block_too ++ rest → AreAlike cmp block block_too
      → ((k : K) → wanted k ≡ false → Known cmp block k → Known cmp earlier k) → AreEarlier earlier place ys → AreMoved earlier place xs ys
  moved_block earlier place xs ys block block_too rest e f alike known all = record {
    earlier_too = all;
    reordered = λ seen more. rw (e, f, seen_append cmp seen block rest, seen_append cmp seen block_too rest)
        (reordered_before o wanted (first_seen_after cmp seen block) (first_seen_after cmp seen block_too) rest
        (reordered_block o wanted seen block block_too alike (λ k g h. more k (known k g h))));
  }

  -- an open place adds no earlier keys
  passed : (earlier : List K) (place : ℕ) (x : X) → is_open place ≡ true → earlier_at earlier place x ≡ earlier
  passed earlier place x opened = ap (λ b. cond b earlier (earlier ++ cond (keep place) (keys_of x) [])) opened

  -- the first element turns
  turned_first : (earlier : List K) (place : ℕ) (x t : X) (rest : List X) → AreAlike cmp (keys_of t) (keys_of x) → is_open place ≡ true
      → AreEarlier earlier place (x ∷ rest) → AreMoved earlier place (x ∷ rest) (t ∷ rest)
  turned_first earlier place x t rest alike opened all =
      moved_block earlier place (x ∷ rest) (t ∷ rest) (keys_of x) (keys_of t) (kept (place + 1) rest) (one x) (one t)
      (λ k. ((alike k).1, (alike k).0)) (all.0 opened) (
        (λ e k f h. all.0 e k f ((alike k).0 h)),
        subst (λ l. AreEarlier l (place + 1) rest) (passed earlier place x opened ∙ sym (passed earlier place t opened)) all.1,
      )
    where
      one : (y : X) → kept place (y ∷ rest) ≡ keys_of y ++ kept (place + 1) rest
      one y = rw (open_kept place opened)

  -- the first two elements change places
  swapped : (earlier : List K) (place : ℕ) (x y : X) (rest : List X) → is_open place ≡ true → is_open (place + 1) ≡ true
      → AreEarlier earlier place (x ∷ y ∷ rest) → AreMoved earlier place (x ∷ y ∷ rest) (y ∷ x ∷ rest)
  swapped earlier place x y rest one two all =
      moved_block earlier place (x ∷ y ∷ rest) (y ∷ x ∷ rest) (keys_of x ++ keys_of y) (keys_of y ++ keys_of x) (kept (place + 1 + 1) rest)
      (pair x y) (pair y x) (swapped_alike o (keys_of x) (keys_of y)) (λ k f h. known k f (known-append o k (keys_of x) (keys_of y) h)) (
        (λ e. behind.0 two),
        subst (λ l. AreEarlier l (place + 1) (x ∷ rest)) (sym (passed earlier place y one)) (
          (λ e. all.0 one),
          subst (λ l. AreEarlier l (place + 1 + 1) rest) (passed earlier (place + 1) y two ∙ sym (passed earlier (place + 1) x two)) behind.1,
        ),
      )
    where
      pair : (u v : X) → kept place (u ∷ v ∷ rest) ≡ (keys_of u ++ keys_of v) ++ kept (place + 1 + 1) rest
      pair u v = rw (open_kept place one, open_kept (place + 1) two)
          (sym (append_assoc (keys_of u) (keys_of v) (kept (place + 1 + 1) rest)))

      behind : AreEarlier earlier (place + 1) (y ∷ rest)
      behind = subst (λ l. AreEarlier l (place + 1) (y ∷ rest)) (passed earlier place x one) all.1

      known : (k : K) → wanted k ≡ false → Known cmp (keys_of x) k ⊎ Known cmp (keys_of y) k → Known cmp earlier k
      known k f (inl h) = all.0 one k f h
      known k f (inr h) = behind.0 two k f h

  module _ (turn : X → X) (turned : (x : X) → AreAlike cmp (keys_of (turn x)) (keys_of x)) where
    -- a turned element has the same keys
    turned_by_alike : (digit : ℕ) (x : X) → AreAlike cmp (keys_of (turned_by turn digit x)) (keys_of x)
    turned_by_alike zero x = alike_itself o (keys_of x)
    turned_by_alike (suc digit) x = turned x

    -- One move: the element at an open place turns, and goes behind some later ones.
    module _ (at : OpenPlace) (covered : (place : ℕ) → Covers at place → is_open place ≡ true) where
      moved_in : (j : ℕ) (earlier : List K) (place : ℕ) (x t : X) (rest : List X) → AreAlike cmp (keys_of t) (keys_of x) → at.place ≤ place
          → place + j < at.place + at.alike → j ≤ length rest → AreEarlier earlier place (x ∷ rest)
          → AreMoved earlier place (x ∷ rest) (insert rest j t)
      moved_in zero earlier place x t rest alike low high few all =
          turned_first earlier place x t rest alike (covered place (low, omega (arith, high))) all
      moved_in (suc j) earlier place x t [] alike low high few all = absurd (omega (arith, few))
      moved_in (suc j) earlier place x t (y ∷ rest) alike low high few all =
          let swap = swapped earlier place x y rest (covered place (low, omega (arith, high)))
          (covered (place + 1) (omega (arith, low), omega (arith, high))) all in
          moved_then earlier place (x ∷ y ∷ rest) (y ∷ x ∷ rest) (y ∷ insert rest j t) swap
          (moved_behind earlier place y (x ∷ rest) (insert rest j t) swap.earlier_too.0
          (moved_in j (earlier_at earlier place y) (place + 1) x t rest alike (omega (arith, low)) (omega (arith, high)) (omega (arith, few))
          swap.earlier_too.1))

      moved_once : (n q : ℕ) (earlier : List K) (place : ℕ) (xs : List X) → 0 < at.alike → at.place ≡ place + q → q + at.alike ≤ length xs
          → AreEarlier earlier place xs → AreMoved earlier place xs (take q xs ++ (first_stood turn at (drop q xs) n).0)
      moved_once n zero earlier place [] some e long all = absurd (omega (arith, some, long))
      moved_once n zero earlier place (x ∷ rest) some e long all =
          let digit : ℕ = n / at.alike % cond at.either_way 2 1 in
          let j : ℕ = n % at.alike in
          moved_in j earlier place x (turned_by turn digit x) rest (turned_by_alike digit x) (omega (arith, e)) (omega (arith, e, some))
          (omega (arith, some, long)) all
      moved_once n (suc q) earlier place [] some e long all = absurd (omega (arith, long))
      moved_once n (suc q) earlier place (x ∷ xs) some e long all =
          moved_behind earlier place x xs (take q xs ++ (first_stood turn at (drop q xs) n).0) all.0
          (moved_once n q (earlier_at earlier place x) (place + 1) xs some (omega (arith, e)) (omega (arith, long)) all.1)

    -- all moves
    pub all_moved : (places : List OpenPlace) (xs : List X) (n : ℕ) → AreWithin (length xs) places
        → AllByRecursion (λ at. (place : ℕ) → Covers at place → is_open place ≡ true) places → AreEarlier [] 0 xs
        → AreMoved [] 0 xs (moved turn places (xs, n)).0
    all_moved [] xs n within covered all =
        record { earlier_too = all; reordered = λ seen more. reordered_itself o wanted (first_seen_after cmp seen (kept 0 xs)) }
    all_moved (at ∷ places) xs n within covered all =
        let later = moved turn places (xs, n) in
        let first = all_moved places xs n within.1 covered.1 all in
        let count = moved_count turn places xs n within.1 in
        let fits = within.0.there in
        moved_then [] 0 xs later.0 (take at.place later.0 ++ (first_stood turn at (drop at.place later.0) later.1).0) first
        (moved_once at covered.0 later.1 at.place [] 0 later.0 within.0.some (omega arith) (omega (arith, fits, count)) first.earlier_too)
