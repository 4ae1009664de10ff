-- A text that is written to a sink through a buffer.
use Rattle.std.specs.Prelude.{List, length, min, ℕ, ◌++◌, ◌+◌, ◌-◌, ◌<◌, ◌^◌, ◌≡◌}

-- the bytes waiting to be sent, and the number of bytes sent, or the greatest 64-bit number
pub record Waiting : Type 0 where
  pub waiting : List ℕ
  pub sent : ℕ

-- a number, or the greatest 64-bit number
abbrev pub up_to_most : ℕ → ℕ
up_to_most n = min n (2 ^ 64 - 1)

-- this many bytes in all were sent or are waiting
pub record HasCounted (total : ℕ) (buffer : Waiting) : Type 0 where
  pub sent : ℕ
  pub count : buffer.sent ≡ up_to_most sent
  pub all : total ≡ sent + length buffer.waiting

-- a text is being written to a sink that held some bytes before: its beginning was sent, and the rest is waiting
pub record IsGoingOut {W : Type 0} (holds : W → List ℕ → Type 0) (held text : List ℕ) (buffer : Waiting) (sink : W) : Type 0 where
  pub sent : List ℕ
  pub text_is : text ≡ sent ++ buffer.waiting
  pub count : buffer.sent ≡ up_to_most (length sent)
  pub arrived : holds sink (held ++ sent)

-- the sink holds the first bytes of the text, as many as were written, but not all of them
pub record HoldsBeginning {W : Type 0} (holds : W → List ℕ → Type 0) (held text : List ℕ) (written : ℕ) (sink : W) : Type 0 where
  pub sent : List ℕ
  pub rest : List ℕ
  pub text_is : text ≡ sent ++ rest
  pub some_left : 0 < length rest
  pub count : written ≡ up_to_most (length sent)
  pub arrived : holds sink (held ++ sent)
