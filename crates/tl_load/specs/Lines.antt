-- The lines of a part: the pieces that end with LF, and the bytes after the last LF.
use Rattle.std.specs.Prelude.{All, Bool, IsTrue, List, [], drop, false, if◌then◌else◌, length, slice_index, take, ℕ, ◌++◌, ◌+◌, ◌-◌, ◌<◌, ◌==◌, ◌∷◌, ◌≡◌, ◌⊎◌}
use Rattle.std.specs.List.{flat_map, slice_split}
use Rattle.tl_layout.specs.Bytes.{AreAllowed}

-- the most bytes that a line can have before its LF without being refused for them: the longest full line and a CR
abbrev pub most_unfinished : ℕ
most_unfinished = 229

-- LF, the byte that ends a line
abbrev pub is_line_feed : ℕ → Bool
is_line_feed b = b == 10

-- no byte is an LF
abbrev pub IsWithoutLineFeed : List ℕ → Type 0
IsWithoutLineFeed bytes = All (λ b. is_line_feed b ≡ false) bytes

-- the bytes without one CR at their end, if there is one
unfoldable pub without_return : List ℕ → List ℕ
without_return bytes = if slice_index bytes (length bytes - 1) == 13 then take (length bytes - 1) bytes else bytes

-- an LF is at this position, counted from 0, and before it are len bytes, or len bytes and a CR
abbrev pub IsFeedAfter : List ℕ → ℕ → ℕ → Type 0
IsFeedAfter bytes len place = (place < length bytes) × (slice_index bytes place ≡ 10) × ((place ≡ len) ⊎ ((place ≡ len + 1) × (slice_index bytes len ≡ 13)))

-- The first line of the bytes ends at this position, counted from 0: an LF is there and none before it. If is_clean is true,
-- each byte before it is allowed in a line, except for one CR right before it.
pub record IsLineEnd (bytes : List ℕ) (place : ℕ) (is_clean : Bool) : Type 0 where
  pub within : place < length bytes
  pub cut : bytes ≡ take place bytes ++ 10 ∷ drop 1 (drop place bytes)
  pub first : IsWithoutLineFeed (take place bytes)
  pub clean : IsTrue is_clean → AreAllowed (without_return (take place bytes))

-- the bytes after the last LF are a line, unless there are none
unfoldable pub last_line : List ℕ → List (List ℕ)
last_line [] = []
last_line (b ∷ bytes) = without_return (b ∷ bytes) ∷ []

-- the lines of the pieces between LFs
unfoldable pub lines_of_pieces : List (List ℕ) → List (List ℕ)
lines_of_pieces [] = []
lines_of_pieces (piece ∷ []) = last_line piece
lines_of_pieces (piece ∷ next ∷ pieces) = without_return piece ∷ lines_of_pieces (next ∷ pieces)

-- the lines of a part, each without its LF and then without one CR at its end
unfoldable pub lines : List ℕ → List (List ℕ)
lines part = lines_of_pieces (slice_split is_line_feed part)

-- the parts have the same lines in the same order, however they are cut into parts and whatever their line endings are
abbrev pub HaveSameLines : List (List ℕ) → List (List ℕ) → Type 0
HaveSameLines parts others = flat_map lines parts ≡ flat_map lines others
