-- A field that a record has twice: for the left and for the right side of a chain.
use Rattle.std.specs.Prelude.{List, [], ℕ, ◌*◌, ◌+◌, ◌-◌, ◌∷◌}
use Rattle.tl_layout.specs.Bytes.{IsText, columns}
use Rattle.tl_layout.specs.declared.pair.LeftRight.{LeftRight}

-- both fields have the width
pub record FitsPair (N : ℕ) (pair : LeftRight N) : Type 0 where
  pub left : IsText N pair.left
  pub right : IsText N pair.right

-- the pair with these fields
abbrev pub pair_of : {N : ℕ} → List ℕ → List ℕ → LeftRight N
pair_of left right = record { left = left; right = right }

-- the pair of that width that begins at this column of a line
abbrev pub pair_at : (N : ℕ) → ℕ → List ℕ → LeftRight N
pair_at N first line = record { left = columns first (first + N - 1) line; right = columns (first + N) (first + 2 * N - 1) line }

-- the texts of a pair
abbrev pub pair_texts : (N : ℕ) → LeftRight N → List (List ℕ)
pair_texts N pair = pair.left ∷ pair.right ∷ []
