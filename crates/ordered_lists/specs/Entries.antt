-- Entries: values under keys.
use Rattle.std.specs.Prelude.{List, None, Option, Some, [], cond, map, ◌∷◌}
use Rattle.std.specs.Ordering.{is_eq}
use Rattle.std.specs.declared.cmp.Ordering.{Ordering}

-- the keys of entries, and their values
abbrev pub entry_keys : {K V : Type 0} → List (K × V) → List K
entry_keys = map (λ entry. entry.0)

abbrev pub entry_values : {K V : Type 0} → List (K × V) → List V
entry_values = map (λ entry. entry.1)

-- the entries with each value turned into another
abbrev pub map_values : {K V W : Type 0} → (V → W) → List (K × V) → List (K × W)
map_values f = map (λ entry. (entry.0, f entry.1))

-- the value under a key, or none if no entry has the key
abbrev pub value_under : {K V : Type 0} → (K → K → Ordering) → K → List (K × V) → Option V
value_under cmp key [] = None
value_under cmp key (entry ∷ entries) = cond (is_eq (cmp key entry.0)) (Some entry.1) (value_under cmp key entries)
