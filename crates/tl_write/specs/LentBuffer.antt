-- A sink into a borrowed buffer, in contracts.
use Rattle.std.specs.Prelude.{List, ℕ}

-- the bytes that were taken, the size of the buffer, the most that one write takes, and how many writes failed
pub record LentBuffer : Type 0 where
  pub held : List ℕ
  pub capacity : ℕ
  pub most : ℕ
  pub failures : ℕ
