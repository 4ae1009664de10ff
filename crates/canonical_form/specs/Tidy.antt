-- The choices that make a county tidy: which there are, and which has the least text.
use Rattle.std.specs.Prelude.{Bool, List, false, flat_map, not, ℕ, ◌≡◌}
use Rattle.std.specs.List.{AllByRecursion}
use Rattle.tl_layout.specs.Coordinates.{Coordinates}
use Rattle.tl_layout.specs.declared.record_type.Record.{Record}
use Rattle.tl_shape.specs.PointOrder.{points_cmp}
use Rattle.county_chart.specs.Choices.{is_either_way, shapes}
use Rattle.county_chart.specs.County.{County}
use Rattle.county_chart.specs.Packing.{packed}
use Rattle.ordered_lists.specs.Orders.{has_repeat}
use Rattle.canonical_form.specs.Arrangement.{Arrangement, Arranges, arranged, ascending, entries_of, entry_shape}
use Rattle.canonical_form.specs.ArrangedCounty.{IsTidy}
use Rattle.canonical_form.specs.Canonical.{IsNotAfter}
use Rattle.canonical_form.specs.NumberedChoices.{chosen}

-- a choice: an arrangement that makes the county tidy
pub record IsChoice (county : County) (arrangement : Arrangement) : Type 0 where
  pub arranges : Arranges arrangement county
  pub tidy : IsTidy (arranged county arrangement)

-- the list of records of an arrangement
abbrev pub arranged_list : County → Arrangement → List Record
arranged_list county arrangement = packed (arranged county arrangement)

-- a choice with the least text: no other choice has a lesser one
pub record IsLeastChoice (county : County) (arrangement : Arrangement) : Type 0 where
  pub choice : IsChoice county arrangement
  pub least : (other : Arrangement) → IsChoice county other → IsNotAfter (arranged_list county arrangement) (arranged_list county other)

-- no two chains have the same shape, and no shape is the same from both ends
pub record HasShapesApart (county : County) : Type 0 where
  pub apart : has_repeat points_cmp (shapes county) ≡ false
  pub one_way : AllByRecursion (λ points. is_either_way points ≡ false) (shapes county)

-- the shape of a directed chain
abbrev pub directed_shape : County → ℕ × Bool → List Coordinates
directed_shape county directed = flat_map entry_shape (entries_of county.chains directed.0)

-- the chain in the other direction
abbrev pub turned_directed : ℕ × Bool → ℕ × Bool
turned_directed directed = (directed.0, not directed.1)

-- The choice with this number. Number 0 is the ascending arrangement; others have chains with the same shape in another order, or
-- turn chains that are their own reverse.
unfoldable pub numbered_choice : County → ℕ → Arrangement
numbered_choice county n = (chosen points_cmp is_either_way (directed_shape county) turned_directed (ascending county) n).0
