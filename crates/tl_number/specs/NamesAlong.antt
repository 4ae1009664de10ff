-- The further names of chains, and the order of names in an arrangement.
use Rattle.std.specs.Prelude.{List, ℕ}
use Rattle.ordered_lists.specs.Entries.{entry_keys}
use Rattle.tl_shape.specs.Chain.{Chain}
use Rattle.county_chart.specs.County.{County}
use Rattle.county_chart.specs.declared.directed_chain.DirectedChain.{DirectedChain}
use Rattle.canonical_form.specs.Arrangement.{names_in_order}
use Rattle.canonical_form.specs.DirectedChains.{arrangement_of}

-- the FEATs of a chain's further names
abbrev pub chain_feats : Chain → List ℕ
chain_feats chain = chain.feats

-- the FEATs of all names in their order in an arrangement
abbrev pub feats_in_order : County → List DirectedChain → List ℕ
feats_in_order county arrangement = entry_keys (names_in_order county (arrangement_of county arrangement))
