-- The numbers that records use as names.
use Rattle.std.specs.Prelude.{List, [], option_to_list, ℕ, ◌++◌, ◌∷◌}
use Rattle.tl_layout.specs.declared.record_type.Record.{Record}
use Rattle.tl_layout.specs.declared.record_type.Record.TheVariants.{Eight, Five, Four, I, One, P, Seven, Six, Two}

-- the TLIDs, FEATs, LANDs, POLYIDs and nodes of a record; an RTSQ names nothing
abbrev pub numbers_of : Record → List ℕ
numbers_of (One r) = r.tlid ∷ []
numbers_of (Two r) = r.tlid ∷ []
numbers_of (Four r) = r.tlid ∷ r.feats
numbers_of (Five r) = r.feat ∷ []
numbers_of (Six r) = r.tlid ∷ []
numbers_of (Seven r) = r.land ∷ []
numbers_of (Eight r) = r.polyid ∷ r.land ∷ []
numbers_of (I r) =
    r.tlid ∷ ((option_to_list r.start_node ++ option_to_list r.end_node)
    ++ (option_to_list r.left.polyid ++ option_to_list r.right.polyid))
numbers_of (P r) = r.polyid ∷ []

-- The greatest number in a canonical list. A chain has two ends and two sides, so there are at most twice as many nodes, and
-- polygons, as chains.
abbrev pub greatest_number : ℕ
greatest_number = 20000000
