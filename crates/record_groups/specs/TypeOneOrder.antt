-- The order of choices by their records of type 1.
use Rattle.std.specs.Prelude.{List, Option, map, option_map, ℕ, ◌+◌}
use Rattle.std.specs.declared.cmp.Ordering.{Ordering}
use Rattle.tl_layout.specs.declared.record_type.Record.{Record}
use Rattle.tl_layout.specs.declared.record_type.Record.TheVariants.{One}
use Rattle.county_chart.specs.County.{County}
use Rattle.county_chart.specs.DirectedChains.{directed_chain}
use Rattle.county_chart.specs.Packing.{packed_one}
use Rattle.county_chart.specs.declared.directed_chain.DirectedChain.{DirectedChain}
use Rattle.canonical_form.specs.Arrangement.{arranged}
use Rattle.canonical_form.specs.Tidy.{numbered_choice}
use Rattle.record_groups.specs.CountyGroups.{type_1_by_chain}
use Rattle.record_groups.specs.Groups.{grouped}
use Rattle.record_groups.specs.RecordOrder.{groups_cmp}

-- the record of type 1 of a directed chain, if there is one at a place
abbrev pub one_at : County → DirectedChain → ℕ → Option Record
one_at county directed place = option_map (λ chain. One (packed_one (place + 1, chain))) (directed_chain county directed)

-- the type 1 records of a county
abbrev pub ones_of : County → List Record
ones_of county = map One (grouped (type_1_by_chain county))

-- the order of two choices by their records of type 1
abbrev pub ones_cmp : County → ℕ → ℕ → Ordering
ones_cmp county n m = groups_cmp One (type_1_by_chain (arranged county (numbered_choice county n)))
    (type_1_by_chain (arranged county (numbered_choice county m)))
