-- Sources that were read one after another.
use Rattle.tigercanon.proofs.Common.{AreRead, AreReadFirst, Gave, IsAtEnd, IsUnread, List, LoadedInto, NoneFailed, OneFailed, Option, Record, SomeUnread, WasFedInto, [], ap, arith, get_or, inl, inr, length, map-set_same, most_records, refl, set, subst, suc, sym, zero, ℕ, ◌++◌, ◌+◌, ◌<◌, ◌∙◌, ◌∷◌, ◌≡◌}
use Rattle.tigercanon.proofs.FileParts.{head_of, tail_of}

module _ {R : Type 0} (remaining : R → Option (List ℕ)) (given : R → ℕ) where
  -- the first sources were read to their ends and returned these parts, and the others are unchanged
  abbrev pub GaveParts : List R → List R → List (List ℕ) → Type 0
  GaveParts = AreReadFirst remaining given (λ before after. after ≡ before)

  -- this many of the sources were read, and the loader was fed their bytes
  abbrev pub HasRead : {K : Type 0} → (K → List Record → Type 0) → List R → List R → ℕ → LoadedInto K → Type 0
  HasRead holds before after count loader = (parts : List (List ℕ)) × GaveParts before after parts × (length parts ≡ count)
      × WasFedInto holds most_records loader parts []

  -- the next source is unchanged
  pub untouched : (bs ns : List R) (parts : List (List ℕ)) (i : ℕ) (d : R) → GaveParts bs ns parts → length parts ≡ i
      → get_or ns i d ≡ get_or bs i d
  untouched bs ns [] i d g e = ap (λ (rs : List R). get_or rs i d) g
  untouched (b ∷ bs) (n ∷ ns) (part ∷ parts) zero d g e = absurd (omega (arith, e))
  untouched (b ∷ bs) (n ∷ ns) (part ∷ parts) (suc i) d g e = untouched bs ns parts i d g.2 (omega (arith, e))
  untouched bs ns parts i d g e = absurd g

  -- what holds for the next source and the rest, once that source has changed
  pub next_changed : (others : List R → List R → Type 0) (bs ns : List R) (parts : List (List ℕ)) (i : ℕ) (d x : R) → GaveParts bs ns parts
      → length parts ≡ i → i < length bs → ((rest : List R) → others (get_or ns i d ∷ rest) (x ∷ rest))
      → AreReadFirst remaining given others bs (set ns i x) parts
  next_changed others [] ns parts i d x g e l h = absurd (omega (arith, l))
  next_changed others (b ∷ bs) ns [] zero d x g e l h =
      subst (λ (rs : List R). ((rest : List R) → others (get_or rs 0 d ∷ rest) (x ∷ rest)) → others (b ∷ bs) (set rs 0 x)) (sym g)
      (λ h. h bs) h
  next_changed others (b ∷ bs) ns [] (suc i) d x g e l h = absurd (omega (arith, e))
  next_changed others (b ∷ bs) (n ∷ ns) (part ∷ parts) zero d x g e l h = absurd (omega (arith, e))
  next_changed others (b ∷ bs) (n ∷ ns) (part ∷ parts) (suc i) d x g e l h =
      (g.0, g.1, next_changed others bs ns parts i d x g.2 (omega (arith, e)) (omega (arith, l)) h)
  next_changed others bs ns parts i d x g e l h = absurd g

  -- the parts of the first sources, and then of the next ones
  parts_joined : (others : List R → List R → Type 0) (more : List (List ℕ)) (bs ns : List R) (parts : List (List ℕ))
      → AreReadFirst remaining given (λ b n. AreReadFirst remaining given others b n more) bs ns parts
      → AreReadFirst remaining given others bs ns (parts ++ more)
  parts_joined others more bs ns [] g = g
  parts_joined others more (b ∷ bs) (n ∷ ns) (part ∷ parts) g = (g.0, g.1, parts_joined others more bs ns parts g.2)
  parts_joined others more bs ns parts g = absurd g

  -- the next source was read to its end too
  pub one_more : (bs ns : List R) (parts : List (List ℕ)) (i : ℕ) (d x : R) (part : List ℕ) → GaveParts bs ns parts → length parts ≡ i
      → i < length bs → Gave remaining given (get_or ns i d) x part → IsAtEnd (remaining x)
      → GaveParts bs (set ns i x) (parts ++ part ∷ [])
  one_more bs ns parts i d x part g e l gave end =
      parts_joined _ (part ∷ []) bs (set ns i x) parts (next_changed _ bs ns parts i d x g e l (λ rest. (gave, end, refl)))

  -- as many parts as sources are all
  pub all_read : (bs ns : List R) (parts : List (List ℕ)) → GaveParts bs ns parts → length parts ≡ length bs
      → AreRead remaining given bs ns parts
  all_read [] ns [] g e = subst (λ (rs : List R). AreRead remaining given [] rs []) (sym g) tt
  all_read (b ∷ bs) ns [] g e = absurd (omega arith)
  all_read (b ∷ bs) (n ∷ ns) (part ∷ parts) g e = (g.0, g.1, all_read bs ns parts g.2 (omega arith))
  all_read bs ns parts g e = absurd g

-- ---- failures

module _ {R : Type 0} (failed : R → ℕ) where
  -- a read that didn't fail
  pub none_more : (bs ns : List R) (i : ℕ) (d x : R) → NoneFailed failed bs ns → failed x ≡ failed (get_or ns i d)
      → NoneFailed failed bs (set ns i x)
  none_more bs ns i d x none same = map-set_same failed ns i x d same ∙ none

  -- a read that failed
  pub one_failed : (bs ns : List R) (i : ℕ) (d x : R) → NoneFailed failed bs ns → i < length bs → failed x ≡ failed (get_or ns i d) + 1
      → OneFailed failed bs (set ns i x)
  one_failed [] ns i d x none l rose = absurd (omega arith)
  one_failed (b ∷ bs) [] i d x none l rose = absurd cc
  one_failed (b ∷ bs) (n ∷ ns) zero d x none l rose = inl
      (rose ∙ ap (λ (k : ℕ). k + 1) (head_of _ _ _ _ none), tail_of _ _ _ _ none)
  one_failed (b ∷ bs) (n ∷ ns) (suc i) d x none l rose = inr
      (head_of _ _ _ _ none, one_failed bs ns i d x (tail_of _ _ _ _ none) (omega arith) rose)

  -- a source that couldn't be read
  pub unread_at : (reads : R → ℕ) (bs ns : List R) (i : ℕ) (d x : R) → NoneFailed failed bs ns → i < length bs
      → IsUnread failed reads (get_or bs i d) x → SomeUnread failed reads bs (set ns i x)
  unread_at reads [] ns i d x none l unread = absurd (omega arith)
  unread_at reads (b ∷ bs) [] i d x none l unread = absurd cc
  unread_at reads (b ∷ bs) (n ∷ ns) zero d x none l unread = inl unread
  unread_at reads (b ∷ bs) (n ∷ ns) (suc i) d x none l unread =
      inr (unread_at reads bs ns i d x (tail_of _ _ _ _ none) (omega arith) unread)
