-- A text cut into consecutive pieces.
use Rattle.std.specs.Prelude.{List, [], drop, take, ℕ, ◌+◌, ◌∷◌}

-- the pieces of these widths, starting that many bytes into the text
abbrev pub pieces_from : ℕ → List ℕ → List ℕ → List (List ℕ)
pieces_from at [] text = []
pieces_from at (width ∷ widths) text = take width (drop at text) ∷ pieces_from (at + width) widths text

-- their width together
abbrev pub total_width : List ℕ → ℕ
total_width [] = 0
total_width (width ∷ widths) = width + total_width widths
