-- The conditions under which a county has the parts of another under their new numbers.
use Rattle.std.specs.Prelude.{List, Option, Some, option_map, ℕ, ◌≡◌}
use Rattle.std.specs.List.{AllByRecursion}
use Rattle.std.specs.Ordering.{nat_cmp}
use Rattle.tl_layout.specs.declared.type5.Body5.{Body5}
use Rattle.tl_layout.specs.declared.type7.Body7.{Body7}
use Rattle.tl_layout.specs.declared.type_p.BodyP.{BodyP}
use Rattle.tl_shape.specs.Chain.{Chain}
use Rattle.tl_shape.specs.Turned.{turned_if}
use Rattle.county_chart.specs.ChartWords.{bodies_under, chain_under, name_under, polygon_under}
use Rattle.county_chart.specs.County.{County}
use Rattle.county_chart.specs.PolygonKeys.{PolygonKey, key_cmp}
use Rattle.county_chart.specs.Renumbering.{Renumbering, renumbered, turns}
use Rattle.county_chart.specs.DirectedChains.{directed_chain}
use Rattle.county_chart.specs.declared.directed_chain.DirectedChain.{DirectedChain}
use Rattle.ordered_lists.specs.Pairs.{image}
use Rattle.tl_cert.specs.declared.renaming_tables.RenamingTables.{RenamingTables}

-- the renaming that these tables have
abbrev pub tabled : RenamingTables → Renumbering
tabled t = record { chains = t.chains; names = t.names; polygons = t.polygons; lands = t.lands; nodes = t.nodes; turned = t.turned }

-- a directed chain under its new numbers
abbrev pub chain_carried : Renumbering → County → DirectedChain → Option Chain
chain_carried r county directed = option_map (renumbered r) (directed_chain county directed)

-- b has the chain under its new TLID, turned if the renaming turns it
abbrev pub IsChainThere : Renumbering → County → ℕ × Chain → Type 0
IsChainThere r b entry = chain_under b (image nat_cmp r.chains entry.0) ≡ Some (renumbered r (turned_if (turns r entry.0) entry.1))

-- b has the name under its new FEAT
abbrev pub IsNameThere : Renumbering → County → ℕ × Body5 → Type 0
IsNameThere r b entry = name_under b (image nat_cmp r.names entry.0) ≡ Some entry.1

-- b has the polygon under its new key
abbrev pub IsPolygonThere : Renumbering → County → PolygonKey × Option BodyP → Type 0
IsPolygonThere r b entry = polygon_under b (image key_cmp r.polygons entry.0) ≡ Some entry.1

-- b has the landmark's content under its new LAND
abbrev pub IsLandmarkThere : Renumbering → County → ℕ × List Body7 → Type 0
IsLandmarkThere r b entry = bodies_under b (image nat_cmp r.lands entry.0) ≡ entry.1

-- b has each part of a that has a number
abbrev pub ArePartsThere : Renumbering → County → County → Type 0
ArePartsThere r a b = AllByRecursion (IsChainThere r b) a.chains × AllByRecursion (IsNameThere r b) a.names
    × AllByRecursion (IsPolygonThere r b) a.polygons × AllByRecursion (IsLandmarkThere r b) a.landmarks
