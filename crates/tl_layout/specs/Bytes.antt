-- The bytes that are allowed in a line, and the bytes in given columns.
use Rattle.std.specs.Prelude.{All, Bool, IsTrue, List, [], cond, length, nat_le, nat_lt, replicate, slice_range, ℕ, ◌&&◌, ◌-◌, ◌||◌, ◌∷◌, ◌≡◌}

-- a byte that is allowed in a line: printable ASCII, or the upper half of Latin-1 from the no-break space on
abbrev pub is_allowed : ℕ → Bool
is_allowed b = (nat_le 32 b && nat_lt b 127) || (nat_le 160 b && nat_lt b 256)

-- every byte is allowed in a line
unfoldable pub AreAllowed : List ℕ → Type 0
AreAllowed bytes = All (λ b. IsTrue (is_allowed b)) bytes

-- text of exactly that many allowed bytes
pub record IsText (width : ℕ) (bytes : List ℕ) : Type 0 where
  pub len : length bytes ≡ width
  pub allowed : AreAllowed bytes

-- that many blanks
abbrev pub blanks : ℕ → List ℕ
blanks width = replicate width 32

-- the text, or if it is hidden, that many blanks
abbrev pub blanks_if : Bool → ℕ → List ℕ → List ℕ
blanks_if is_hidden width text = cond is_hidden (blanks width) text

-- the bytes from column first to column last of a line, both included, counted from 1 as in the column tables
abbrev pub columns : ℕ → ℕ → List ℕ → List ℕ
columns first last line = slice_range line (first - 1) last

-- the length of the longest full line, one of type 1
abbrev pub longest_line : ℕ
longest_line = 228

-- a full line of a record type: its first byte is the type, and it has exactly len allowed bytes
pub record IsLine (rtype len : ℕ) (line : List ℕ) : Type 0 where
  pub begins : columns 1 1 line ≡ rtype ∷ []
  pub text : IsText len line
