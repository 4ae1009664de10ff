use Rattle.std.proofs.Common.{Bor, List, map, string_bytes, take, ℕ, ◌++◌, ◌≡◌}
use Rattle.command_line.proofs.names.with_suffixes.Given as goal

-- the names so far are the stem with the suffixes so far
abbrev pub invariant-loop-suffix : goal.invariant-loop-suffix
invariant-loop-suffix l =
    map string_bytes l.names.items ≡ map (λ (suffix : Bor (List ℕ)). l.stem ++ suffix.now) (take l.suffix-index l.suffixes)
