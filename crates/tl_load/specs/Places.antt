-- The place of a line: the number of its part and its own number in the part, both counted from 1.
use Rattle.std.specs.Prelude.{List, [], ℕ, ◌++◌, ◌+◌, ◌∷◌}
use Rattle.tl_load.specs.Lines.{lines}

pub record PlacedLine : Type 0 where
  pub part : ℕ
  pub line : ℕ
  pub bytes : List ℕ

-- the lines of a part, numbered from this number on
unfoldable pub numbered_lines : ℕ → ℕ → List (List ℕ) → List PlacedLine
numbered_lines part line [] = []
numbered_lines part line (bytes ∷ more) = record { part = part; line = line; bytes = bytes } ∷ numbered_lines part (line + 1) more

-- the lines of parts, which are numbered from this number on
unfoldable pub lines_from_part : ℕ → List (List ℕ) → List PlacedLine
lines_from_part part [] = []
lines_from_part part (bytes ∷ more) = numbered_lines part 1 (lines bytes) ++ lines_from_part (part + 1) more

-- all lines, part after part
abbrev pub placed_lines : List (List ℕ) → List PlacedLine
placed_lines parts = lines_from_part 1 parts
