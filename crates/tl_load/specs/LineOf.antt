-- A line of one layout: its record and its fault.
use Rattle.std.specs.Prelude.{Err, List, Ok, Result, [], false, if◌then◌else◌, length, nat_lt, not, replicate, slice_index, take, true, ℕ, ◌++◌, ◌+◌, ◌-◌, ◌<◌, ◌∷◌, ◌≡◌, ◌≤◌}
use Rattle.std.specs.List.{position_or_len}
use Rattle.tl_layout.specs.Bytes.{AreAllowed, is_allowed}
use Rattle.tl_layout.specs.declared.fault.FieldFault.{FieldFault}
use Rattle.tl_load.specs.declared.fault.LineFault.{LineFault}
use Rattle.tl_load.specs.declared.fault.LineFault.TheVariants as line_faults

-- the line, padded with blanks to this length
abbrev pub filled : ℕ → List ℕ → List ℕ
filled len line = line ++ replicate (len - length line) 32

-- the line has this record: it begins with the record type, it isn't too long, and padded with blanks it has only allowed bytes
-- and spells the record
pub record IsLineOf {R : Type 0} (rtype len : ℕ) (Spells : List ℕ → R → Type 0) (line : List ℕ) (record_of : R) : Type 0 where
  pub begins : take 1 line ≡ rtype ∷ []
  pub short : length line ≤ len
  pub allowed : AreAllowed (filled len line)
  pub spells : Spells (filled len line) record_of

-- the byte at this column, counted from 1, isn't allowed, and each byte before it is
pub record IsLeftmostBadByte (line : List ℕ) (column : ℕ) : Type 0 where
  pub place : ℕ
  pub within : place < length line
  pub bad : is_allowed (slice_index line place) ≡ false
  pub allowed_before : (before : ℕ) → before < place → is_allowed (slice_index line before) ≡ true
  pub reported : column ≡ place + 1

-- The fault of a line of one layout: that it is too long; otherwise, padded with blanks, its leftmost byte that isn't allowed;
-- or if all bytes are allowed, the fault of its fields.
abbrev pub IsFaultIn : ℕ → (List ℕ → FieldFault → Type 0) → List ℕ → LineFault → Type 0
IsFaultIn len IsFieldFault line line_faults.UnknownType = ⊥
IsFaultIn len IsFieldFault line line_faults.LineTooLong = len < length line
IsFaultIn len IsFieldFault line (line_faults.BadByte column) = (length line ≤ len) × IsLeftmostBadByte (filled len line) column
IsFaultIn len IsFieldFault line (line_faults.Field fault) =
    (length line ≤ len) × AreAllowed (filled len line) × IsFieldFault (filled len line) fault

-- ---- judging

-- the position, counted from 0, of the leftmost byte that isn't allowed, or the length if every byte is allowed
abbrev pub first_bad : List ℕ → ℕ
first_bad line = position_or_len (λ b. not (is_allowed b)) line

-- a field's fault as the line's
abbrev pub of_reading : {R : Type 0} → Result R FieldFault → Result R LineFault
of_reading (Ok r) = Ok r
of_reading (Err fault) = Err (line_faults.Field fault)

-- how a full line is judged: its leftmost byte that isn't allowed is reported first, and then its fields are read
unfoldable pub judged_full : {R : Type 0} → (List ℕ → Result R FieldFault) → List ℕ → Result R LineFault
judged_full reading line =
    if nat_lt (first_bad line) (length line) then Err (line_faults.BadByte (first_bad line + 1)) else of_reading (reading line)

-- how a line that begins with the layout's record type is judged
unfoldable pub judged_as : {R : Type 0} → ℕ → (List ℕ → Result R FieldFault) → List ℕ → Result R LineFault
judged_as len reading line = if nat_lt len (length line) then Err line_faults.LineTooLong else judged_full reading (filled len line)
