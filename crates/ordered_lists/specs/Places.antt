-- Lists that are read at places.
use Rattle.std.specs.Prelude.{List, filter_map, slice_get, ℕ}

-- the items at these places of a list; a place past its end has none
abbrev pub at_places : {X : Type 0} → List X → List ℕ → List X
at_places items = filter_map (slice_get items)
