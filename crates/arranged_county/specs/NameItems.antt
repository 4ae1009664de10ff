-- Names with the ranks of their first uses, and the order of names.
use Rattle.std.specs.Prelude.{IsPermutation, List, None, Option, Some, flat_map, map, slice_get, ℕ, ◌+◌, ◌≡◌}
use Rattle.std.specs.List.{position}
use Rattle.std.specs.Ordering.{is_eq, nat_cmp, ordering_then}
use Rattle.std.specs.declared.cmp.Ordering.{Ordering}
use Rattle.ordered_lists.specs.Orders.{IsInOrder}
use Rattle.county_chart.specs.ChartWords.{feats_of}
use Rattle.county_chart.specs.County.{County}
use Rattle.county_chart.specs.CountyRules.{feats}
use Rattle.county_chart.specs.DirectedChains.{directed_chain}
use Rattle.county_chart.specs.declared.directed_chain.DirectedChain.{DirectedChain}
use Rattle.arranged_county.specs.ContentItems.{name_content_cmp}

-- the FEATs that chains list, along directed chains
abbrev pub feats_along_arrangement : County → List DirectedChain → List ℕ
feats_along_arrangement county arrangement = flat_map (λ directed. feats_of (directed_chain county directed)) arrangement

-- a place counted from 1, and 0 for none
abbrev pub from_one : Option ℕ → ℕ
from_one None = 0
from_one (Some place) = place + 1

-- the number of a FEAT by its first use, from 1, or 0 without a use
abbrev pub rank_of : List ℕ → Option ℕ → ℕ
rank_of seen None = 0
rank_of seen (Some feat) = from_one (position (λ other. is_eq (nat_cmp feat other)) seen)

-- what orders names: the class, the rank, the place; made from the class and the place of a name
abbrev pub name_key_at : County → List ℕ → ℕ × ℕ → ℕ × (ℕ × ℕ)
name_key_at county seen classed = (classed.0, (rank_of seen (slice_get (feats county) classed.1), classed.1))

abbrev pub name_keys_cmp : ℕ × (ℕ × ℕ) → ℕ × (ℕ × ℕ) → Ordering
name_keys_cmp a b = ordering_then (nat_cmp a.0 b.0) (ordering_then (nat_cmp a.1.0 b.1.0) (nat_cmp a.1.1 b.1.1))

abbrev pub key_place : ℕ × (ℕ × ℕ) → ℕ
key_place key = key.1.1

-- these are the places of names in the order of their keys
pub record AreSortedNames (keys : List (ℕ × (ℕ × ℕ))) (places : List ℕ) : Type 0 where
  pub items : List (ℕ × (ℕ × ℕ))
  pub all : IsPermutation keys items
  pub in_order : IsInOrder name_keys_cmp items
  pub places_of : places ≡ map key_place items

-- the rank and the place of a name
pub record RankedName : Type 0 where
  pub rank : ℕ
  pub place : ℕ

-- the name at a place with its rank
abbrev pub ranked_at : County → List ℕ → ℕ → RankedName
ranked_at county seen place = record { rank = rank_of seen (slice_get (feats county) place); place = place }

abbrev pub ranked_place : RankedName → ℕ
ranked_place name = name.place

-- in the order of the content, the rank, the place
abbrev pub ranked_cmp : County → RankedName → RankedName → Ordering
ranked_cmp county a b = ordering_then (name_content_cmp county a.place b.place) (ordering_then (nat_cmp a.rank b.rank) (nat_cmp a.place b.place))
