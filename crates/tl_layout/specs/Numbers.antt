-- The numbers of the map: TLID, RTSQ, FEAT, LAND, POLYID and the numbers of nodes.
use Rattle.std.specs.Prelude.{IfSome, None, Option, Some, suc, zero, ℕ, ◌<◌, ◌^◌}

-- a number with at most width digits, and not 0
abbrev pub IsNumber : ℕ → ℕ → Type 0
IsNumber width n = (0 < n) × (n < 10 ^ width)

-- such a number, or none
abbrev pub IsNumberOrNone : ℕ → Option ℕ → Type 0
IsNumberOrNone width n = IfSome n (IsNumber width)

-- the number stored or written as this one, with 0 for none
abbrev pub none_if_zero : ℕ → Option ℕ
none_if_zero zero = None
none_if_zero (suc n) = Some (suc n)
