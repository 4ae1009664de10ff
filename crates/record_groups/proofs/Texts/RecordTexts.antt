-- Texts are ordered by the spellings of their records, one after the other.
use Rattle.record_groups.proofs.Common.{AllByRecursion, Eight, Equal, FitsRecord, Five, Four, Greater, I, IsLine, Less, List, One, Ordering, P, Record, Seven, Six, Two, [], ap, arith, cond, exact_unsigned, inl, inr, length, length-append, nat_cmp, ordering_then, records_cmp, refl, slice_cmp, spelling_is_line, spelling_of, subst, sym, text_of, then_assoc, ℕ, ◌++◌, ◌+◌, ◌==◌, ◌∙◌, ◌∷◌, ◌≡◌, ◌⊎◌}
use Rattle.tl_layout.specs.RecordText.{len_of, type_of}

-- a second comparison that finds both equal decides nothing
pub then_equal : (a : Ordering) → ordering_then a Equal ≡ a
then_equal Less = refl
then_equal Equal = refl
then_equal Greater = refl

-- lists with the same length decide before the lists after them
pub cmp-append : {X : Type 0} (cmp : X → X → Ordering) (xs ys us vs : List X) → length xs ≡ length ys
    → slice_cmp cmp (xs ++ us) (ys ++ vs) ≡ ordering_then (slice_cmp cmp xs ys) (slice_cmp cmp us vs)
cmp-append cmp [] [] us vs e = refl
cmp-append cmp [] (y ∷ ys) us vs e = absurd (omega (arith, e))
cmp-append cmp (x ∷ xs) [] us vs e = absurd (omega (arith, e))
cmp-append cmp (x ∷ xs) (y ∷ ys) us vs e = ap (ordering_then (cmp x y)) (cmp-append cmp xs ys us vs (omega (arith, e)))
    ∙ then_assoc (cmp x y) (slice_cmp cmp xs ys) (slice_cmp cmp us vs)

-- if the first elements of lists differ, they decide, whatever follows
first_decides : {X : Type 0} (cmp : X → X → Ordering) (x y : X) (xs ys us vs : List X) (rest : Ordering)
    → (cmp x y ≡ Less) ⊎ (cmp x y ≡ Greater)
    → slice_cmp cmp (x ∷ us) (y ∷ vs) ≡ ordering_then (slice_cmp cmp (x ∷ xs) (y ∷ ys)) rest
first_decides cmp x y xs ys us vs rest (inl e) = ap (λ o. ordering_then o (slice_cmp cmp us vs)) e
    ∙ sym (ap (λ o. ordering_then (ordering_then o (slice_cmp cmp xs ys)) rest) e)
first_decides cmp x y xs ys us vs rest (inr e) = ap (λ o. ordering_then o (slice_cmp cmp us vs)) e
    ∙ sym (ap (λ o. ordering_then (ordering_then o (slice_cmp cmp xs ys)) rest) e)

-- the type of a record determines the length of its line
len_by : ℕ → ℕ
len_by t = cond (t == 49) 228 (cond (t == 50) 208 (cond (t == 52) 58 (cond (t == 53) 56 (cond (t == 54) 76
    (cond (t == 55) 74 (cond (t == 56) 36 (cond (t == 73) 127 45)))))))

len_stated : (r : Record) → len_of r ≡ len_by (type_of r)
unfolding len_of type_of len_by
len_stated (One r) = refl
len_stated (Two r) = refl
len_stated (Four r) = refl
len_stated (Five r) = refl
len_stated (Six r) = refl
len_stated (Seven r) = refl
len_stated (Eight r) = refl
len_stated (I r) = refl
len_stated (P r) = refl

-- two lines, each with its line ending, are compared before the rest
line_decides : (t u : ℕ) (line other : List ℕ) → IsLine t (len_by t) line → IsLine u (len_by u) other → (us vs : List ℕ)
    → slice_cmp nat_cmp ((line ++ 10 ∷ []) ++ us) ((other ++ 10 ∷ []) ++ vs)
    ≡ ordering_then (slice_cmp nat_cmp line other) (slice_cmp nat_cmp us vs)
line_decides t u [] other l m us vs = absurd (let none : [] ≡ t ∷ [] = l.begins in cc)
line_decides t u (x ∷ line) [] l m us vs = absurd (let none : [] ≡ u ∷ [] = m.begins in cc)
line_decides t u (x ∷ line) (y ∷ other) l m us vs = go (nat_cmp x y) refl
  where
    first : (x ≡ t) × (y ≡ u)
    first = (let e : x ∷ [] ≡ t ∷ [] = l.begins in cc, let e : y ∷ [] ≡ u ∷ [] = m.begins in cc)

    ends : nat_cmp x y ≡ Equal → length ((x ∷ line) ++ 10 ∷ []) ≡ length ((y ∷ other) ++ 10 ∷ [])
    ends e =
        let types : t ≡ u = sym first.0 ∙ exact_unsigned x y e ∙ first.1 in
        length-append (x ∷ line) (10 ∷ []) ∙ ap (λ n. n + 1) (l.text.len ∙ ap len_by types ∙ sym m.text.len)
        ∙ sym (length-append (y ∷ other) (10 ∷ []))

    go : (o : Ordering) → nat_cmp x y ≡ o → slice_cmp nat_cmp (((x ∷ line) ++ 10 ∷ []) ++ us) (((y ∷ other) ++ 10 ∷ []) ++ vs)
        ≡ ordering_then (slice_cmp nat_cmp (x ∷ line) (y ∷ other)) (slice_cmp nat_cmp us vs)
    go Less e = first_decides nat_cmp x y line other ((line ++ 10 ∷ []) ++ us) ((other ++ 10 ∷ []) ++ vs) (slice_cmp nat_cmp us vs) (inl e)
    go Greater e = first_decides nat_cmp x y line other ((line ++ 10 ∷ []) ++ us) ((other ++ 10 ∷ []) ++ vs) (slice_cmp nat_cmp us vs) (inr e)
    go Equal e = cmp-append nat_cmp ((x ∷ line) ++ 10 ∷ []) ((y ∷ other) ++ 10 ∷ []) us vs (ends e)
        ∙ ap (λ o. ordering_then o (slice_cmp nat_cmp us vs))
        (cmp-append nat_cmp (x ∷ line) (y ∷ other) (10 ∷ []) (10 ∷ []) (omega (
          arith,
          ends e,
          length-append (x ∷ line) (10 ∷ []),
          length-append (y ∷ other) (10 ∷ []),
        ))
        ∙ then_equal (slice_cmp nat_cmp (x ∷ line) (y ∷ other)))

-- a text of records isn't empty
some_line : (s rest : List ℕ) → (slice_cmp nat_cmp [] ((s ++ 10 ∷ []) ++ rest) ≡ Less) × (slice_cmp nat_cmp ((s ++ 10 ∷ []) ++ rest) [] ≡ Greater)
some_line [] rest = (refl, refl)
some_line (x ∷ s) rest = (refl, refl)

-- The texts of records that fit are in the order of the records.
pub text_cmp : (rs ss : List Record) → AllByRecursion FitsRecord rs → AllByRecursion FitsRecord ss
    → slice_cmp nat_cmp (text_of rs) (text_of ss) ≡ records_cmp rs ss
text_cmp [] [] f g = refl
text_cmp [] (s ∷ ss) f g = (some_line (spelling_of s) (text_of ss)).0
text_cmp (r ∷ rs) [] f g = (some_line (spelling_of r) (text_of rs)).1
text_cmp (r ∷ rs) (s ∷ ss) f g =
    line_decides (type_of r) (type_of s) (spelling_of r) (spelling_of s)
    (subst (λ n. IsLine (type_of r) n (spelling_of r)) (len_stated r) (spelling_is_line r f.0))
    (subst (λ n. IsLine (type_of s) n (spelling_of s)) (len_stated s) (spelling_is_line s g.0)) (text_of rs) (text_of ss)
    ∙ ap (ordering_then (slice_cmp nat_cmp (spelling_of r) (spelling_of s))) (text_cmp rs ss f.1 g.1)
