-- Lists of keys that differ in wanted keys alone: the places of all other keys, and how wanted keys compare.
use Rattle.tl_number.proofs.Common.{AllByRecursion, Among, Bool, Equal, Greater, IsApart, IsKeyOrder, Known, Less, List, None, Option, Ordering, Some, [], all_among, all_everywhere, all_filter, all_known, among-get, among-pieces, among_known, ap, apart-permutation_of, append-nil, ap₂, arith, cases_Bool, cond, contains, differ, false, filter, filter-append, filter_all, first_seen, first_seen_after, flat_map, from_permutation, get_or-range_with_len, inl, inr, is_eq, known-here, known-later, known_is_among, length, length-range_with_len, lt-ltb, ltb-true, map, map-append, nat_cmp, nat_cmp_is, nat_lt, nat_tests, newly_seen, not, one_cmp, ordering_then, pieces_next, place_in, range_with_len, refl, same_Some, seen_append, slice_cmp, slice_get, slice_get-get_or, slice_get_within, subst, suc, sym, times, times-filter, to_first_seen, true, zero, ℕ, ◌++◌, ◌+◌, ◌<◌, ◌||◌, ◌∙◌, ◌∷◌, ◌≡◌, ◌⊎◌}
use Rattle.tl_number.proofs.Ties.Keys.{AreAlike, alike_append, alike_itself, flat_map_filter, found_there, newly_alike, newly_apart, newly_both, newly_known, newly_unseen, place_later, seen_newly, there_found}
use Rattle.tl_number.proofs.Ties.ListsAlike.{among_filtered}

-- the keys with nothing instead of each wanted one
abbrev pub masked_by : {K : Type 0} → (K → Bool) → List K → List (Option K)
masked_by wanted keys = map (λ key. cond (wanted key) None (Some key)) keys

-- numbers one greater compare alike
pub next_cmp : (m n : ℕ) → nat_cmp (1 + m) (1 + n) ≡ nat_cmp m n
next_cmp m n =
    one_cmp (1 + m) (1 + n) m n (record { less = λ l. omega (arith, l); same = λ l. omega (arith, l); more = λ l. omega (arith, l) })

-- a number below a bound is among those below it
pub in_range : (n i : ℕ) → i < n → Among i (range_with_len 0 n)
in_range n i l = among-get (range_with_len 0 n) i i
    (slice_get-get_or (range_with_len 0 n) i 0 (omega (arith, l, length-range_with_len 0 n))
    ∙ ap Some (get_or-range_with_len 0 n i 0 l ∙ (let same : 0 + i ≡ i = omega arith in same)))

-- lists of one length whose elements have equal images place by place have equal images
mapped_alike : {X Y : Type 0} (f : X → Y) (xs ys : List X) → length xs ≡ length ys
    → ((i : ℕ) (x y : X) → slice_get xs i ≡ Some x → slice_get ys i ≡ Some y → f x ≡ f y) → map f xs ≡ map f ys
mapped_alike f [] [] long same = refl
mapped_alike f [] (y ∷ ys) long same = absurd (omega (arith, long))
mapped_alike f (x ∷ xs) [] long same = absurd (omega (arith, long))
mapped_alike f (x ∷ xs) (y ∷ ys) long same = ap₂ (λ u us. u ∷ us) (same 0 x y refl refl)
    (mapped_alike f xs ys (omega (arith, long)) (λ i u v e g. same (suc i) u v e g))

-- as many wanted keys look alike
wanted_masked : {K : Type 0} (wanted : K → Bool) (xs ys : List K) → AllByRecursion (λ k. wanted k ≡ true) xs
    → AllByRecursion (λ k. wanted k ≡ true) ys → length xs ≡ length ys → masked_by wanted xs ≡ masked_by wanted ys
wanted_masked wanted xs ys h l e = mapped_alike (λ k. cond (wanted k) None (Some k)) xs ys e (λ i x y p q.
    (let one = all_among (λ k. wanted k ≡ true) x xs h (among-get xs i x p) in
    let other = all_among (λ k. wanted k ≡ true) y ys l (among-get ys i y q) in rw (one, other)))

-- A property of two lists that differ in wanted keys alone, by recursion: both begin with a wanted key, or with one other key.
masked_cases : {K : Type 0} (wanted : K → Bool) (P : List K → List K → Type 0) → P [] []
    → ((x y : K) (xs ys : List K) → wanted x ≡ true → wanted y ≡ true → P xs ys → P (x ∷ xs) (y ∷ ys))
    → ((x : K) (xs ys : List K) → wanted x ≡ false → P xs ys → P (x ∷ xs) (x ∷ ys))
    → (xs ys : List K) → masked_by wanted xs ≡ masked_by wanted ys → P xs ys
masked_cases wanted P none two one [] [] e = none
masked_cases wanted P none two one [] (y ∷ ys) e = cc
masked_cases wanted P none two one (x ∷ xs) [] e = cc
masked_cases wanted P none two one (x ∷ xs) (y ∷ ys) e =
    go (wanted x) (wanted y) refl refl (cc) (masked_cases wanted P none two one xs ys (cc))
  where
    go : (a b : Bool) → wanted x ≡ a → wanted y ≡ b → cond a None (Some x) ≡ cond b None (Some y) → P xs ys → P (x ∷ xs) (y ∷ ys)
    go true true f g same rest = two x y xs ys f g rest
    go true false f g same rest = cc
    go false true f g same rest = cc
    go false false f g same rest = let both : x ≡ y = cc in subst (λ z. P (x ∷ xs) (z ∷ ys)) both (one x xs ys f rest)

-- Values read from such lists compare as the values of their wanted keys do, if each other key has equal values.
pub wanted_decide : {K L : Type 0} (wanted : K → Bool) (by : L → L → Ordering) (f g : K → L) (xs ys : List K)
    → masked_by wanted xs ≡ masked_by wanted ys → ((k : K) → Among k xs → wanted k ≡ false → by (f k) (g k) ≡ Equal)
    → slice_cmp by (map f xs) (map g ys) ≡ slice_cmp by (map f (filter wanted xs)) (map g (filter wanted ys))
wanted_decide {K} wanted by f g = masked_cases wanted
    (λ xs ys. ((k : K) → Among k xs → wanted k ≡ false → by (f k) (g k) ≡ Equal)
    → slice_cmp by (map f xs) (map g ys) ≡ slice_cmp by (map f (filter wanted xs)) (map g (filter wanted ys))) (λ same. refl)
    (λ x y xs ys a b rest same. rw (a, b) (ap (ordering_then (by (f x) (g y))) (rest (λ k h. same k (inr h)))))
    (λ x xs ys a rest same. rw (a, same x (inl refl) a) (rest (λ k h. same k (inr h))))

module _ {K : Type 0} {cmp : K → K → Ordering} (o : IsKeyOrder cmp) where
  -- a key among those that pass a test is in the list, and passes
  pub in_filtered : (test : K → Bool) (ks : List K) (k : K) → Known cmp (filter test ks) k → Known cmp ks k × (test k ≡ true)
  in_filtered test ks k h =
      let there = among_filtered test k ks (known_is_among o k (filter test ks) h) in (among_known o k ks there.0, there.1)

  -- and a key that does is among them
  pub to_filtered : (test : K → Bool) (ks : List K) (k : K) → Known cmp ks k → test k ≡ true → Known cmp (filter test ks) k
  to_filtered test ks k h e = let same = times-filter o test k ks ∙ ap (λ b. cond b (times cmp k ks) 0) e in omega (arith, h, same)

  -- keys of which only one passes a test differ
  tested_apart : (test : K → Bool) (x k : K) (b : Bool) → test x ≡ b → test k ≡ not b → is_eq (cmp k x) ≡ false
  tested_apart test x k b e f = differ o k x (λ same. no b (sym e ∙ ap test (sym same) ∙ f))
    where
      no : (c : Bool) → c ≡ not c → ⊥
      no true h = cc
      no false h = cc

  -- Lists that differ in wanted keys alone: a key that isn't wanted has one place in both,
  pub same_place : (wanted : K → Bool) (xs ys : List K) → masked_by wanted xs ≡ masked_by wanted ys → (k : K) → wanted k ≡ false
      → place_in cmp xs k ≡ place_in cmp ys k
  same_place wanted xs ys e k f = masked_cases wanted (λ us vs. place_in cmp us k ≡ place_in cmp vs k) refl
      (λ x y us vs a b rest. place_later o x us k (tested_apart wanted x k true a f) ∙ ap (λ n. 1 + n) rest
      ∙ sym (place_later o y vs k (tested_apart wanted y k true b f)))
      (λ x us vs a rest. ap (λ n. cond (not (is_eq (cmp k x))) (1 + n) 0) rest) xs ys e

  -- and two wanted keys compare as in the lists of wanted keys
  pub places_alike : (wanted : K → Bool) (xs ys : List K) → masked_by wanted xs ≡ masked_by wanted ys → (j k : K) → wanted j ≡ true
      → wanted k ≡ true → nat_cmp (place_in cmp xs j) (place_in cmp ys k)
      ≡ nat_cmp (place_in cmp (filter wanted xs) j) (place_in cmp (filter wanted ys) k)
  places_alike wanted xs ys e j k f g = masked_cases wanted (λ us vs. nat_cmp (place_in cmp us j) (place_in cmp vs k)
      ≡ nat_cmp (place_in cmp (filter wanted us) j) (place_in cmp (filter wanted vs) k)) refl
      (λ x y us vs a b rest. rw (a, b) (both (is_eq (cmp j x)) (is_eq (cmp k y)) (place_in cmp us j) (place_in cmp vs k)
      (place_in cmp (filter wanted us) j) (place_in cmp (filter wanted vs) k) rest))
      (λ x us vs a rest. rw (a, tested_apart wanted x j false a f, tested_apart wanted x k false a g)
      (next_cmp (place_in cmp us j) (place_in cmp vs k) ∙ rest)) xs ys e
    where
      both : (b c : Bool) (m n p q : ℕ) → nat_cmp m n ≡ nat_cmp p q
          → nat_cmp (cond (not b) (1 + m) 0) (cond (not c) (1 + n) 0) ≡ nat_cmp (cond (not b) (1 + p) 0) (cond (not c) (1 + q) 0)
      both true true m n p q h = refl
      both true false m n p q h = sym (nat_cmp_is 0 (1 + n) Less (omega arith)) ∙ nat_cmp_is 0 (1 + q) Less (omega arith)
      both false true m n p q h = sym (nat_cmp_is (1 + m) 0 Greater (omega arith)) ∙ nat_cmp_is (1 + p) 0 Greater (omega arith)
      both false false m n p q h = next_cmp m n ∙ h ∙ sym (next_cmp p q)

  -- Lists of as many distinct keys differ in wanted keys alone if each other key has one place in both.
  pub masked_from_stay : (wanted : K → Bool) (xs ys : List K) → IsApart cmp xs → IsApart cmp ys → length xs ≡ length ys
      → ((k : K) → wanted k ≡ false → place_in cmp xs k ≡ place_in cmp ys k) → masked_by wanted xs ≡ masked_by wanted ys
  masked_from_stay wanted xs ys a b long stay = mapped_alike (λ k. cond (wanted k) None (Some k)) xs ys long
      (λ i x y e f. each i x y e f (cases_Bool (wanted x)) (cases_Bool (wanted y)))
    where
      -- a key that isn't wanted is at its place in both
      there : (us vs : List K) → IsApart cmp us → length us ≡ length vs
          → ((k : K) → wanted k ≡ false → place_in cmp us k ≡ place_in cmp vs k)
          → (i : ℕ) (x y : K) → slice_get us i ≡ Some x → slice_get vs i ≡ Some y → wanted x ≡ false → x ≡ y
      there us vs apart as_many same i x y e f g =
          let at : place_in cmp vs x ≡ i = sym (same x g) ∙ found_there o us apart i x e in
          let within = slice_get_within us i x e in
          same_Some x y (sym (there_found o vs x (omega (arith, at, within, as_many))) ∙ ap (slice_get vs) at ∙ f)

      each : (i : ℕ) (x y : K) → slice_get xs i ≡ Some x → slice_get ys i ≡ Some y → (wanted x ≡ true) ⊎ (wanted x ≡ false)
          → (wanted y ≡ true) ⊎ (wanted y ≡ false) → cond (wanted x) None (Some x) ≡ cond (wanted y) None (Some y)
      each i x y e f (inl g) (inl h) = rw (g, h)
      each i x y e f (inr g) other = ap (λ k. cond (wanted k) None (Some k)) (there xs ys a long stay i x y e f g)
      each i x y e f (inl g) (inr h) =
          ap (λ k. cond (wanted k) None (Some k)) (sym (there ys xs b (sym long) (λ k l. sym (stay k l)) i y x f e h))

  -- Lists with the same keys, which differ in wanted keys alone, even after any test of their keys.
  pub record AreReordered (wanted : K → Bool) (xs ys : List K) : Type 0 where
    pub alike : AreAlike cmp xs ys
    pub masked : (test : K → Bool) → masked_by wanted (filter test xs) ≡ masked_by wanted (filter test ys)

  pub reordered_itself : (wanted : K → Bool) (xs : List K) → AreReordered wanted xs xs
  reordered_itself wanted xs = record { alike = alike_itself o xs; masked = λ test. refl }

  pub reordered_then : (wanted : K → Bool) (xs ys zs : List K) → AreReordered wanted xs ys → AreReordered wanted ys zs
      → AreReordered wanted xs zs
  reordered_then wanted xs ys zs first next = record {
    alike = λ k. ((λ h. (next.alike k).0 ((first.alike k).0 h)), (λ h. (first.alike k).1 ((next.alike k).1 h)));
    masked = λ test. first.masked test ∙ next.masked test;
  }

  pub reordered_back : (wanted : K → Bool) (xs ys : List K) → AreReordered wanted xs ys → AreReordered wanted ys xs
  reordered_back wanted xs ys h = record { alike = λ k. ((h.alike k).1, (h.alike k).0); masked = λ test. sym (h.masked test) }

  -- they differ in wanted keys alone without a test, too
  pub reordered_all : (wanted : K → Bool) (xs ys : List K) → AreReordered wanted xs ys → masked_by wanted xs ≡ masked_by wanted ys
  reordered_all wanted xs ys h = ap (masked_by wanted) (sym (all xs)) ∙ h.masked (λ k. true) ∙ ap (masked_by wanted) (all ys)
    where
      all : (ks : List K) → filter (λ k. true) ks ≡ ks
      all ks = filter_all (λ k. true) ks (all_everywhere (λ k. true ≡ true) (λ k. refl) ks)

  reordered_append : (wanted : K → Bool) (xs ys us vs : List K) → AreReordered wanted xs ys → AreReordered wanted us vs
      → AreReordered wanted (xs ++ us) (ys ++ vs)
  reordered_append wanted xs ys us vs first second = record {
    alike = alike_append o xs ys us vs first.alike second.alike;
    masked = λ test. both test xs us ∙ ap₂ (λ k l. k ++ l) (first.masked test) (second.masked test) ∙ sym (both test ys vs);
  } where
    both : (test : K → Bool) (ks ls : List K) → masked_by wanted (filter test (ks ++ ls))
        ≡ masked_by wanted (filter test ks) ++ masked_by wanted (filter test ls)
    both test ks ls = ap (masked_by wanted) (filter-append test ks ls)
        ∙ map-append (λ k. cond (wanted k) None (Some k)) (filter test ks) (filter test ls)

  -- It stays so if the same keys are seen after them.
  pub reordered_before : (wanted : K → Bool) (xs ys keys : List K) → AreReordered wanted xs ys
      → AreReordered wanted (first_seen_after cmp xs keys) (first_seen_after cmp ys keys)
  reordered_before wanted xs ys keys h =
      rw (seen_newly o xs keys, seen_newly o ys keys, newly_alike o xs ys keys h.alike)
      (reordered_append wanted xs ys (newly_seen cmp ys keys) (newly_seen cmp ys keys) h (reordered_itself wanted (newly_seen cmp ys keys)))

  -- A block of keys in another order: if each of them was seen before or is wanted, the keys seen differ in wanted keys alone.
  pub reordered_block : (wanted : K → Bool) (seen block block_too : List K) → AreAlike cmp block block_too
      → ((k : K) → wanted k ≡ false → Known cmp block k → Known cmp seen k)
      → AreReordered wanted (first_seen_after cmp seen block) (first_seen_after cmp seen block_too)
  reordered_block wanted seen block block_too alike known =
      rw (seen_newly o seen block, seen_newly o seen block_too)
      (reordered_append wanted seen seen one other (reordered_itself wanted seen) record {
        alike = both;
        masked = λ test. wanted_masked wanted (filter test one) (filter test other) (wanted_of test one new_wanted)
            (wanted_of test other (λ k h. new_wanted k ((both k).1 h)))
            ((from_permutation one other (apart-permutation_of o one other (newly_apart o seen block) (newly_apart o seen block_too)
            (λ k. (both k).0) (λ k. (both k).1))).counts test);
      })
    where
      one : List K
      one = newly_seen cmp seen block

      other : List K
      other = newly_seen cmp seen block_too

      both : AreAlike cmp one other
      both = newly_both o seen block block_too alike

      new_wanted : (k : K) → Known cmp one k → wanted k ≡ true
      new_wanted k h = go (wanted k) refl
        where
          go : (b : Bool) → wanted k ≡ b → wanted k ≡ true
          go true e = e
          go false e = absurd (newly_unseen o seen block k h (known k e (newly_known o seen block k h)))

      wanted_of : (test : K → Bool) (ks : List K) → ((k : K) → Known cmp ks k → wanted k ≡ true)
          → AllByRecursion (λ k. wanted k ≡ true) (filter test ks)
      wanted_of test ks h = all_filter (λ k. wanted k ≡ true) test ks (all_known o (λ k. wanted k ≡ true) ks h)

  -- whether a key comes before another depends on these two alone
  abbrev is_either : K → K → K → Bool
  is_either j k x = is_eq (cmp j x) || is_eq (cmp k x)

  comes_before : (j k : K) (xs : List K)
      → nat_lt (place_in cmp xs j) (place_in cmp xs k) ≡ nat_lt 0 (place_in cmp (filter (is_either j k) xs) k)
  comes_before j k [] = refl
  comes_before j k (x ∷ xs) = go (is_eq (cmp j x)) (is_eq (cmp k x)) refl (comes_before j k xs)
    where
      others : List K
      others = filter (is_either j k) xs

      next : (m n : ℕ) → nat_lt (1 + m) (1 + n) ≡ nat_lt m n
      next m n = grind (arith, nat_tests)

      zero_last : (m : ℕ) → nat_lt (1 + m) 0 ≡ false
      zero_last m = grind (arith, nat_tests)

      go : (a b : Bool) → is_eq (cmp k x) ≡ b → nat_lt (place_in cmp xs j) (place_in cmp xs k) ≡ nat_lt 0 (place_in cmp others k)
          → nat_lt (cond (not a) (1 + place_in cmp xs j) 0) (cond (not b) (1 + place_in cmp xs k) 0)
          ≡ nat_lt 0 (place_in cmp (cond (a || b) (x ∷ others) others) k)
      go true true e ih = rw e
      go true false e ih = rw e (lt-ltb 0 (1 + place_in cmp xs k) (omega arith) ∙ sym (lt-ltb 0 (1 + place_in cmp others k) (omega arith)))
      go false true e ih = rw e (zero_last (place_in cmp xs j))
      go false false e ih = next (place_in cmp xs j) (place_in cmp xs k) ∙ ih

  -- So a key comes before one that isn't wanted in both lists or in neither.
  pub before_alike : (wanted : K → Bool) (xs ys : List K) → AreReordered wanted xs ys → (k : K) → wanted k ≡ false → (j : K)
      → (place_in cmp xs j < place_in cmp xs k → place_in cmp ys j < place_in cmp ys k)
      × (place_in cmp ys j < place_in cmp ys k → place_in cmp xs j < place_in cmp xs k)
  before_alike wanted xs ys h k e j = (
    (λ l. ltb-true (place_in cmp ys j) (place_in cmp ys k) (sym both ∙ lt-ltb (place_in cmp xs j) (place_in cmp xs k) l)),
    (λ l. ltb-true (place_in cmp xs j) (place_in cmp xs k) (both ∙ lt-ltb (place_in cmp ys j) (place_in cmp ys k) l)),
  ) where
    both : nat_lt (place_in cmp xs j) (place_in cmp xs k) ≡ nat_lt (place_in cmp ys j) (place_in cmp ys k)
    both = comes_before j k xs
        ∙ ap (nat_lt 0) (same_place wanted (filter (is_either j k) xs) (filter (is_either j k) ys) (h.masked (is_either j k)) k e)
        ∙ sym (comes_before j k ys)

  -- keys by first appearance that pass a test are those that pass, by first appearance
  pub seen_filtered : (test : K → Bool) (seen keys : List K)
      → filter test (first_seen_after cmp seen keys) ≡ first_seen_after cmp (filter test seen) (filter test keys)
  seen_filtered test seen [] = refl
  seen_filtered test seen (k ∷ keys) =
      go (test k) refl (contains cmp k seen) refl (seen_filtered test seen keys) (seen_filtered test (seen ++ (k ∷ [])) keys)
    where
      after : List K → List K
      after s = first_seen_after cmp s (filter test keys)

      grown : (b : Bool) → test k ≡ b → filter test (seen ++ (k ∷ [])) ≡ filter test seen ++ cond b (k ∷ []) []
      grown b e = filter-append test seen (k ∷ []) ∙ ap (λ a. filter test seen ++ cond a (k ∷ []) []) e

      passed : (c : Bool) → test k ≡ true → contains cmp k seen ≡ c → first_seen_after cmp (filter test seen) (k ∷ filter test keys)
          ≡ cond c (after (filter test seen)) (after (filter test seen ++ (k ∷ [])))
      passed c e f = ap (λ b. cond b (after (filter test seen)) (after (filter test seen ++ (k ∷ []))))
          (ap (nat_lt 0) (times-filter o test k seen ∙ ap (λ b. cond b (times cmp k seen) 0) e) ∙ f)

      go : (b : Bool) → test k ≡ b → (c : Bool) → contains cmp k seen ≡ c
          → filter test (first_seen_after cmp seen keys) ≡ after (filter test seen)
          → filter test (first_seen_after cmp (seen ++ (k ∷ [])) keys) ≡ after (filter test (seen ++ (k ∷ [])))
          → filter test (cond c (first_seen_after cmp seen keys) (first_seen_after cmp (seen ++ (k ∷ [])) keys))
          ≡ first_seen_after cmp (filter test seen) (cond b (k ∷ filter test keys) (filter test keys))
      go true e true f old new = old ∙ sym (passed true e f)
      go true e false f old new = new ∙ ap after (grown true e) ∙ sym (passed false e f)
      go false e true f old new = old
      go false e false f old new = new ∙ ap after (grown false e ∙ append-nil (filter test seen))

  -- keys that were all seen add nothing
  none_new : (seen keys : List K) → ((k : K) → Known cmp keys k → Known cmp seen k) → first_seen_after cmp seen keys ≡ seen
  none_new seen [] all = refl
  none_new seen (k ∷ keys) all =
      ap (λ b. cond b (first_seen_after cmp seen keys) (first_seen_after cmp (seen ++ (k ∷ [])) keys))
      (lt-ltb 0 (times cmp k seen) (all k (known-here o k keys)))
      ∙ none_new seen keys (λ j h. all j (known-later o j k keys h))

  -- Leaving groups out changes no first appearance if each of their keys is in an earlier group.
  part_seen : (all part : ℕ → List K) → ((place : ℕ) → (all place ≡ part place)
      ⊎ ((part place ≡ []) × ((k : K) → Known cmp (all place) k → Known cmp (flat_map part (range_with_len 0 place)) k)))
      → (count : ℕ) → first_seen cmp (flat_map all (range_with_len 0 count)) ≡ first_seen cmp (flat_map part (range_with_len 0 count))
  part_seen all part each zero = refl
  part_seen all part each (suc count) = ap (first_seen cmp) (next all) ∙ go (each count) (part_seen all part each count)
      ∙ sym (ap (first_seen cmp) (next part))
    where
      before : List K
      before = flat_map all (range_with_len 0 count)

      part_before : List K
      part_before = flat_map part (range_with_len 0 count)

      next : (f : ℕ → List K) → flat_map f (range_with_len 0 (suc count)) ≡ flat_map f (range_with_len 0 count) ++ f count
      next f = (let t : suc count ≡ count + 1 = omega arith in ap (λ n. flat_map f (range_with_len 0 n)) t) ∙ sym (pieces_next f count)

      go : (all count ≡ part count) ⊎ ((part count ≡ []) × ((k : K) → Known cmp (all count) k → Known cmp part_before k))
          → first_seen cmp before ≡ first_seen cmp part_before
          → first_seen cmp (before ++ all count) ≡ first_seen cmp (part_before ++ part count)
      go (inl same) ih = seen_append cmp [] before (all count) ∙ ap₂ (first_seen_after cmp) ih same
          ∙ sym (seen_append cmp [] part_before (part count))
      go (inr out) ih = seen_append cmp [] before (all count) ∙ ap (λ s. first_seen_after cmp s (all count)) ih
          ∙ none_new (first_seen cmp part_before) (all count) (λ k h. to_first_seen o part_before k (out.1 k h))
          ∙ sym (ap (first_seen cmp) (ap (λ l. part_before ++ l) out.0 ∙ append-nil part_before))

  -- an earlier place that is kept has the key
  pub record IsKeptEarlier (keep : ℕ → Bool) (keys_at : ℕ → List K) (place : ℕ) (k : K) : Type 0 where
    pub before : ℕ
    pub less : before < place
    pub kept : keep before ≡ true
    pub here : Known cmp (keys_at before) k

  -- So the wanted keys are the same by first appearance, if each of them at a place that is left out is at an earlier one that is kept.
  pub same_wanted : (wanted : K → Bool) (keep : ℕ → Bool) (keys_at : ℕ → List K)
      → ((place : ℕ) → keep place ≡ false → (k : K) → Known cmp (keys_at place) k → wanted k ≡ true → IsKeptEarlier keep keys_at place k)
      → (count : ℕ) → filter wanted (first_seen cmp (flat_map keys_at (range_with_len 0 count)))
      ≡ filter wanted (first_seen cmp (flat_map keys_at (filter keep (range_with_len 0 count))))
  same_wanted wanted keep keys_at kept_earlier count =
      wanted_of (range_with_len 0 count) ∙ part_seen wanted_at kept_at (λ place. each place (keep place) refl) count
      ∙ ap (first_seen cmp) (sym (flat_map_filter keep wanted_at (range_with_len 0 count)))
      ∙ sym (wanted_of (filter keep (range_with_len 0 count)))
    where
      wanted_at : ℕ → List K
      wanted_at place = filter wanted (keys_at place)

      kept_at : ℕ → List K
      kept_at place = cond (keep place) (wanted_at place) []

      joined : (places : List ℕ) → filter wanted (flat_map keys_at places) ≡ flat_map wanted_at places
      joined [] = refl
      joined (place ∷ places) = filter-append wanted (keys_at place) (flat_map keys_at places)
          ∙ ap (λ l. wanted_at place ++ l) (joined places)

      wanted_of : (places : List ℕ) → filter wanted (first_seen cmp (flat_map keys_at places)) ≡ first_seen cmp (flat_map wanted_at places)
      wanted_of places = seen_filtered wanted [] (flat_map keys_at places) ∙ ap (first_seen cmp) (joined places)

      each : (place : ℕ) (b : Bool) → keep place ≡ b → (wanted_at place ≡ cond b (wanted_at place) [])
          ⊎ ((cond b (wanted_at place) [] ≡ []) × ((k : K) → Known cmp (wanted_at place) k
          → Known cmp (flat_map kept_at (range_with_len 0 place)) k))
      each place true e = inl refl
      each place false e = inr (
        refl,
        λ k h.
            let there = in_filtered wanted (keys_at place) k h in
            let b = kept_earlier place e k there.0 there.1 in
            among_known o k (flat_map kept_at (range_with_len 0 place))
            (among-pieces kept_at b.before k (range_with_len 0 place) (in_range place b.before b.less)
            (known_is_among o k (kept_at b.before) (rw b.kept (to_filtered wanted (keys_at b.before) k b.here there.1)))),
      )
