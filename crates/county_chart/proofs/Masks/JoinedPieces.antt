-- Pieces of a list to which others are appended.
use Rattle.county_chart.proofs.Common.{AreWithin, List, [], ap, drop-append-le, drop-append_seam, length, length-append, length-drop, pieces_in, rules, slice_range, take-append-le, take_all, ℕ, ◌++◌, ◌∙◌, ◌∷◌, ◌≡◌, ◌≤◌}

module _ {X : Type 0} (xs ys : List X) where
  -- a piece of the list is the same piece after more is appended
  piece_kept : (start end : ℕ) → start ≤ end → end ≤ length xs → slice_range (xs ++ ys) start end ≡ slice_range xs start end
  piece_kept start end h k = search (rules, drop-append-le, take-append-le, length-drop)

  -- and the appended list is a piece
  new_piece : (end : ℕ) → end ≡ length (xs ++ ys) → slice_range (xs ++ ys) (length xs) end ≡ ys
  new_piece end e = search (rules, drop-append_seam, take_all, length-append)

  piece_added : (ranges : List (ℕ × ℕ)) (start end : ℕ) → start ≡ length xs → end ≡ length (xs ++ ys) → AreWithin (length xs) ranges
      → pieces_in (xs ++ ys) (ranges ++ ((start, end) ∷ [])) ≡ pieces_in xs ranges ++ (ys ∷ [])
  piece_added [] start end s e h = ap (λ piece. piece ∷ []) (ap (λ n. slice_range (xs ++ ys) n end) s ∙ new_piece end e)
  piece_added (range ∷ ranges) start end s e h = λ i. piece_kept range.0 range.1 h.0.0 h.0.1 i ∷ piece_added ranges start end s e h.1 i

-- joined lists to which one is appended
pub list_joined : {X : Type 0} (old items list : List X) (ranges all_ranges : List (ℕ × ℕ)) (lists : List (List X)) (start end : ℕ)
    → items ≡ old ++ list → all_ranges ≡ ranges ++ ((start, end) ∷ []) → start ≡ length old → end ≡ length items
    → AreWithin (length old) ranges → pieces_in old ranges ≡ lists → pieces_in items all_ranges ≡ lists ++ (list ∷ [])
list_joined old items list ranges all_ranges lists start end grown added s e h stated = search (rules, piece_added)
