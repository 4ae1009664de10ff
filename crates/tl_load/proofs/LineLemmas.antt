-- The lines of consecutive bytes.
use Rattle.tl_load.proofs.Common.{Bool, IsWithoutLineFeed, List, [], ap, append-nil, append_assoc, arith, common_steps, cond, eqb, eqb-true, false, get_or, get_or-append_seam, is_line_feed, length, length-append, length-take, refl, rules, slice_split, suc, sym, take, take-append_seam, true, ℕ, ◌++◌, ◌+◌, ◌-◌, ◌<◌, ◌∙◌, ◌∷◌, ◌≡◌, ◌≤◌}
use Rattle.std.proofs.lemmas.List.Splits.{length-slice_split, slice_split_at, slice_split_none}
use Rattle.tl_layout.specs.Bytes.{AreAllowed}
use Rattle.tl_load.specs.Lines.{last_line, lines, lines_of_pieces, without_return}

-- a nonempty list has a first piece
cons_of : (pieces : List (List ℕ)) → 0 < length pieces → (first : List ℕ) × (rest : List (List ℕ)) × (pieces ≡ first ∷ rest)
cons_of [] h = absurd (omega arith)
cons_of (x ∷ xs) h = (x, xs, refl)

first_piece : (bytes : List ℕ) → (first : List ℕ) × (rest : List (List ℕ)) × (slice_split is_line_feed bytes ≡ first ∷ rest)
first_piece bytes = cons_of (slice_split is_line_feed bytes) (omega (arith, length-slice_split is_line_feed bytes))

line_then : (a : List ℕ) (pieces : List (List ℕ)) (first : List ℕ) (rest : List (List ℕ)) → pieces ≡ first ∷ rest
    → lines_of_pieces (a ∷ pieces) ≡ without_return a ∷ lines_of_pieces pieces
unfolding lines_of_pieces
line_then a [] first rest e = absurd cc
line_then a (x ∷ xs) first rest e = refl

-- an LF ends the first line
pub lines_line : (a more : List ℕ) → IsWithoutLineFeed a → lines (a ++ 10 ∷ more) ≡ without_return a ∷ lines more
unfolding lines
lines_line a more h =
    let p = first_piece more in
    ap lines_of_pieces (slice_split_at is_line_feed a 10 more h refl) ∙ line_then a (slice_split is_line_feed more) p.0 p.1 p.2

-- bytes without LF are the last line
pub lines_rest : (a : List ℕ) → IsWithoutLineFeed a → lines a ≡ last_line a
unfolding lines lines_of_pieces
lines_rest a h = ap lines_of_pieces (slice_split_none is_line_feed a h)

pub lines_none : lines [] ≡ []
unfolding lines lines_of_pieces last_line
lines_none = refl

pub take_past : (a b : List ℕ) (n : ℕ) → take (length a + n) (a ++ b) ≡ a ++ take n b
take_past [] b n = ap (λ (k : ℕ). take k b) (omega arith)
take_past (x ∷ a) b n =
    let e : length (x ∷ a) + n ≡ suc (length a + n) = omega arith in
    ap (λ (k : ℕ). take k (x ∷ (a ++ b))) e ∙ ap (λ (l : List ℕ). x ∷ l) (take_past a b n)

-- the bytes before the last one are kept, whether or not that is a CR
pub without_return_front : (a : List ℕ) (c : ℕ) (z : List ℕ) → (y : List ℕ) × (without_return (a ++ c ∷ z) ≡ a ++ y)
unfolding without_return
without_return_front a c z = go (eqb (get_or (a ++ c ∷ z) (length (a ++ c ∷ z) - 1) 0) 13)
  where
    len : length (a ++ c ∷ z) - 1 ≡ length a + length z
    len = omega (arith, length-append a (c ∷ z))

    go : (b : Bool) → (y : List ℕ) × (cond b (take (length (a ++ c ∷ z) - 1) (a ++ c ∷ z)) (a ++ c ∷ z) ≡ a ++ y)
    go true = (take (length z) (c ∷ z), ap (λ (k : ℕ). take k (a ++ c ∷ z)) len ∙ take_past a (c ∷ z) (length z))
    go false = (c ∷ z, refl)

-- at most one byte is dropped
pub without_return_length : (a : List ℕ) → length a ≤ length (without_return a) + 1
unfolding without_return
without_return_length a = search (rules, length-take)

-- a CR at the end is dropped
pub without_return_drops : (a : List ℕ) → without_return (a ++ 13 ∷ []) ≡ a
unfolding without_return
without_return_drops a =
    let len : length (a ++ 13 ∷ []) - 1 ≡ length a = omega (arith, length-append a (13 ∷ [])) in
    rw (len, get_or-append_seam a 13 [] 0) (take-append_seam a (13 ∷ []))

-- clean bytes stay clean
pub clean_without_return : (a : List ℕ) → AreAllowed a → AreAllowed (without_return a)
unfolding without_return AreAllowed
clean_without_return a clean = search rules

pub without_feed_cons : (a : List ℕ) (c : ℕ) → IsWithoutLineFeed a → is_line_feed c ≡ false → IsWithoutLineFeed (a ++ c ∷ [])
without_feed_cons a c h n = grind (arith, common_steps)

-- whatever follows, the first line begins with these bytes
pub record BeginsWith (a bytes : List ℕ) : Type 0 where
  pub more : List ℕ
  pub rest : List (List ℕ)
  pub first : lines bytes ≡ without_return (a ++ more) ∷ rest

last_is : (b : ℕ) (a : List ℕ) → last_line (b ∷ a) ≡ without_return (b ∷ a) ∷ []
unfolding last_line
last_is b a = refl

pub first_line : (b : ℕ) (a more : List ℕ) → IsWithoutLineFeed (b ∷ a) → BeginsWith (b ∷ a) ((b ∷ a) ++ more)
first_line b a [] h = record {
  more = [];
  rest = [];
  first = search (rules, append-nil, lines_rest, last_is);
}
first_line b a (c ∷ more) h = go (eqb c 10) refl (λ e. first_line b (a ++ c ∷ []) more (without_feed_cons (b ∷ a) c h e))
  where
    go : (t : Bool) → eqb c 10 ≡ t → (is_line_feed c ≡ false → BeginsWith (b ∷ a ++ c ∷ []) ((b ∷ a ++ c ∷ []) ++ more))
        → BeginsWith (b ∷ a) ((b ∷ a) ++ c ∷ more)
    go true e _ =
        let is : c ≡ 10 = eqb-true c 10 e in
        record {
          more = [];
          rest = lines more;
          first = ap (λ (k : ℕ). lines ((b ∷ a) ++ k ∷ more)) is ∙ lines_line (b ∷ a) more h
              ∙ ap (λ (l : List ℕ). without_return l ∷ lines more) (sym (append-nil (b ∷ a)));
        }
    go false e later =
        let next = later e in
        record {
          more = c ∷ next.more;
          rest = next.rest;
          first = ap lines (sym (append_assoc (b ∷ a) (c ∷ []) more)) ∙ next.first
              ∙ ap (λ (l : List ℕ). without_return l ∷ next.rest) (append_assoc (b ∷ a) (c ∷ []) next.more);
        }

pub first_line_of : (a more : List ℕ) → 0 < length a → IsWithoutLineFeed a → BeginsWith a (a ++ more)
first_line_of [] more some h = absurd (omega arith)
first_line_of (b ∷ a) more some h = first_line b a more h
