-- The keys that put records of one type in order.
use Rattle.std.specs.Prelude.{Bool, List, Option, map, not, ℕ, ◌&&◌}
use Rattle.std.specs.Ordering.{nat_cmp, ordering_then}
use Rattle.std.specs.declared.cmp.Ordering.{Ordering}
use Rattle.tl_layout.specs.Coordinates.{Coordinates}
use Rattle.tl_layout.specs.Fields.{Fields2, Fields4, Fields6, Fields7, Fields8}
use Rattle.ordered_lists.specs.Orders.{contains}

-- the TLID, then the RTSQ
abbrev pub two_sequence : Fields2 → ℕ × ℕ
two_sequence r = (r.tlid, r.rtsq)

abbrev pub four_sequence : Fields4 → ℕ × ℕ
four_sequence r = (r.tlid, r.rtsq)

abbrev pub six_sequence : Fields6 → ℕ × ℕ
six_sequence r = (r.tlid, r.rtsq)

-- LAND, POLYID, CENID, FILE
abbrev pub link_sequence : Fields8 → ℕ × (ℕ × (List ℕ × List ℕ))
link_sequence r = (r.land, (r.polyid, (r.cenid, r.file)))

-- LAND, FILE, SOURCE, CFCC, LANAME, the point
abbrev pub landmark_sequence : Fields7 → ℕ × (List ℕ × (List ℕ × (List ℕ × (List ℕ × Option Coordinates))))
landmark_sequence r = (r.land, (r.body.file, (r.body.source, (r.body.cfcc, (r.body.laname, r.body.point)))))

-- each FEAT that a type 4 record names, with its TLID
abbrev pub uses_of : Fields4 → List (ℕ × ℕ)
uses_of r = map (λ feat. (r.tlid, feat)) r.feats

-- a number, then another
abbrev pub sequence_cmp : ℕ × ℕ → ℕ × ℕ → Ordering
sequence_cmp a b = ordering_then (nat_cmp a.0 b.0) (nat_cmp a.1 b.1)

-- whether a chain's FEAT is one of these uses and isn't one of the names
abbrev pub is_unnamed : List (ℕ × ℕ) → List ℕ → ℕ × ℕ → Bool
is_unnamed uses names pair = contains sequence_cmp pair uses && not (contains nat_cmp pair.1 names)
