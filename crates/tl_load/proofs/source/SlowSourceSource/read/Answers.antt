use Rattle.tl_load.proofs.Common.{List, drop, drop_all, length, length-take, rules, take, take-append-drop, take_at, ℕ, ◌++◌, ◌≡◌, ◌≤◌}
use Rattle.tl_load.proofs.source.SlowSourceSource.read.Goals as goal

-- the bytes that were copied, and the rest
copied : (bytes front back buf : List ℕ) (n : ℕ) → n ≤ length bytes → front ≡ take n bytes → back ≡ drop n bytes
    → bytes ≡ take n (front ++ buf) ++ back
copied bytes front back buf n le f b = search (rules, length-take, take_at, take-append-drop)

pub returns-clause-bytes : goal.returns-clause-bytes
returns-clause-bytes c = search (rules, copied, drop_all)
