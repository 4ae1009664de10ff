-- The counts of a source, and a source over borrowed bytes in contracts.
use Rattle.std.specs.Prelude.{List, None, Option, Some, if◌then◌else◌, length, nat_lt, ℕ, ◌%◌, ◌+◌, ◌-◌, ◌^◌, ◌≡◌}
use Rattle.std.specs.Io.KnownBytes.{Consumes}

-- the most bytes of one read
abbrev pub most_read : ℕ
most_read = 4096

-- the most bytes that are taken without a fault: 10,000,000 lines of each of nine types, all of 228 bytes with CR and LF, and
-- the 229 bytes of an unfinished line after them
abbrev pub most_taken : ℕ
most_taken = 20700000229

-- a count modulo 2 ^ 64 increased by n
abbrev pub RoseBy : ℕ → ℕ → ℕ → Type 0
RoseBy n before after = after % 2 ^ 64 ≡ (before + n) % 2 ^ 64

-- the bytes that a source returned between two of its states: these, if it knows its bytes, and in any case this many
pub record Gave {R : Type 0} (remaining : R → Option (List ℕ)) (given : R → ℕ) (before after : R) (taken : List ℕ) : Type 0 where
  pub bytes : Consumes (remaining before) (remaining after) taken
  pub counted : RoseBy (length taken) (given before) (given after)

-- the last read, a single one, led to the source's state, and the bytes before it are as required
pub record StopsThere {R : Type 0} (remaining : R → Option (List ℕ)) (given reads : R → ℕ) (before after : R) (Should : List ℕ
    → Type 0) : Type 0 where
  pub last : R
  pub taken : List ℕ
  pub gave : Gave remaining given before last taken
  pub one_read : RoseBy 1 (reads last) (reads after)
  pub should : Should taken

-- the remaining bytes, the most that one read returns, the read that fails (counted from the next one), and the numbers of
-- reads, of returned bytes, and of failed reads
pub record LentBytes : Type 0 where
  pub left : List ℕ
  pub most : ℕ
  pub failing : Option ℕ
  pub reads : ℕ
  pub given : ℕ
  pub failures : ℕ

-- the number of reads up to the failing one, after one more read: none once it has failed; there is no 0th read
abbrev pub counted_down : Option ℕ → Option ℕ
counted_down None = None
counted_down (Some n) = if nat_lt 1 n then Some (n - 1) else None
