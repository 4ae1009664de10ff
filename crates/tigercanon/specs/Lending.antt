-- A sink over a lent writer.
use Rattle.std.specs.Prelude.{List, Option, Some, ℕ, ◌∷◌, ◌≡◌}

-- the bytes of the writer, after the name of the loan, which shows that no other writer took its place
abbrev pub HoldsUnderName : ℕ → Option (List ℕ) → List ℕ → Type 0
HoldsUnderName name contents held = (bytes : List ℕ) × (held ≡ name ∷ bytes) × (contents ≡ Some bytes)
