-- The contents of a buffer after a part of it was written.
use Rattle.tl_layout.proofs.Common.{List, [], ap, append-nil, arith, codes, drop, drop_all, joined, length, slice_set, sym, take, take-put_mid, take_all, ℕ, ◌++◌, ◌+◌, ◌-◌, ◌∙◌, ◌∷◌, ◌≡◌, ◌≤◌}
use borrow.Rule.Slice.PartMut.{put_mid}

-- the first position was written, and then all others
pub first_then_rest : (out : List ℕ) (first : ℕ) (rest : List ℕ) → 1 ≤ length out
    → put_mid 1 (length out - 1) (slice_set out 0 first) rest ≡ first ∷ rest
first_then_rest [] first rest h = absurd (omega arith)
first_then_rest (x ∷ xs) first rest h =
    let none : drop (length (x ∷ xs) - 1) xs ≡ [] = drop_all (length (x ∷ xs) - 1) xs (omega arith) in
    ap (λ (left : List ℕ). first ∷ (rest ++ left)) none ∙ ap (λ (l : List ℕ). first ∷ l) (append-nil rest)

-- The buffer up to the last written column: the old contents before the first one, and the text.
pub columns_written : (first last k : ℕ) (old text : List ℕ) → first - 1 ≤ length old → last ≡ (first - 1) + length text
    → take last (put_mid (first - 1) k old text) ≡ take (first - 1) old ++ text
columns_written first last k old text f l = take-put_mid (first - 1) k old text last l f

-- the record type was written, and then the four bytes after it
pub head_written : (out : List ℕ) (rtype : ℕ) (version : List ℕ) → 5 ≤ length out → version ≡ codes "2006"
    → take 5 (put_mid 1 4 (slice_set out 0 rtype) version) ≡ rtype ∷ codes "2006"
head_written [] rtype version h e = absurd (omega arith)
head_written (x ∷ xs) rtype version h e =
    let five : 5 ≡ 1 + length (codes "2006") = omega arith in
    rw e (take-put_mid 1 4 (rtype ∷ xs) (codes "2006") 5 five (omega arith))

-- A text was written after the contents so far.
pub behind : {new rest before text text' : List ℕ} → new ≡ rest ++ text → rest ≡ before → text ≡ text' → new ≡ before ++ text'
behind w h e = (cc)

-- The same for columns from left to right: how each was written, and its text.
infixl 10 ◌▸◌
pub ◌▸◌ : {new rest before text text' : List ℕ} → rest ≡ before → (new ≡ rest ++ text) × (text ≡ text') → new ≡ before ++ text'
stood ▸ column = behind column.0 stood column.1

-- The last column is the last byte of the buffer.
pub whole : (last : ℕ) (out text : List ℕ) → length out ≡ last → take last out ≡ text → out ≡ text
whole last out text l h = sym (take_all last out (omega arith)) ∙ h

-- The texts of a group were written after the contents so far.
pub group_behind : {new rest before : List ℕ} (texts : List (List ℕ)) → new ≡ joined rest texts → rest ≡ before → new ≡ joined before texts
group_behind texts w h = w ∙ ap (λ l. joined l texts) h
