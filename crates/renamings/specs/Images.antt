-- Pairs of an old and a new number: the new number in the first pair of an old one.
use Rattle.std.specs.Prelude.{Bool, List, Option, filter_map, option_map, ℕ}
use Rattle.std.specs.Ordering.{nat_cmp}
use Rattle.std.specs.declared.cmp.Ordering.{Ordering}
use Rattle.ordered_lists.specs.Entries.{value_under}
use Rattle.ordered_lists.specs.Orders.{contains}
use Rattle.ordered_lists.specs.Pairs.{image}
use Rattle.county_chart.specs.Renumbering.{exactly_one}

-- the new numbers of the old ones that pairs name
abbrev pub named_images : {K : Type 0} → (K → K → Ordering) → List (K × K) → List K → List K
named_images cmp pairs = filter_map (λ old. value_under cmp old pairs)

-- the pair of the old number and the next new number of the new one, if the next pairs name that
abbrev pub pair_on : {K : Type 0} → (K → K → Ordering) → List (K × K) → K × K → Option (K × K)
pair_on {K} cmp nexts pair = option_map (λ new. (pair.0, new)) (value_under cmp pair.1 nexts)

-- whether exactly one of two lists has the chain of an old TLID: the first one under its old TLID, or the second one under its new TLID
abbrev pub is_turned_once : List (ℕ × ℕ) → List ℕ → List ℕ → ℕ → Bool
is_turned_once chains firsts nexts tlid = exactly_one (contains nat_cmp tlid firsts) (contains nat_cmp (image nat_cmp chains tlid) nexts)
