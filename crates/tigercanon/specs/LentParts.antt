-- The parts of a set, lent as slices.
use Rattle.std.specs.Borrow.{Bor}
use Rattle.std.specs.Prelude.{List, map, ℕ}

-- the bytes of each part
abbrev pub bytes_of_parts : List (Bor (List ℕ)) → List (List ℕ)
bytes_of_parts parts = map (λ part. part.now) parts
