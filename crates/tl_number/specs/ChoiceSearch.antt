-- What is known of a county whose least choice is searched, and of the choices that are compared.
use Rattle.std.specs.Prelude.{List, cond, length, ℕ, ◌≡◌, ◌≤◌}
use Rattle.std.specs.Ordering.{is_gt}
use Rattle.county_chart.specs.CountyRules.{AllKeysContained, polygon_keys, polygons_along}
use Rattle.county_chart.specs.Choices.{choices, most_choices}
use Rattle.county_chart.specs.County.{County}
use Rattle.county_chart.specs.ShapeOrder.{IsShapeOrder, OrderOfShapes}
use Rattle.county_chart.specs.declared.chart.Chart.{Ghosts as Charts}
use Rattle.county_chart.specs.declared.directed_chain.DirectedChain.{DirectedChain}
use Rattle.canonical_form.specs.MovedChains.{AreWithin, other_way}
use Rattle.canonical_form.specs.Arrangement.{arranged}
use Rattle.canonical_form.specs.LeastNumber.{choices_cmp}
use Rattle.canonical_form.specs.NumberedChoices.{moved}
use Rattle.canonical_form.specs.Tidy.{numbered_choice}
use Rattle.arranged_county.specs.Views.{arranged_county, directed_chains_of}
use Rattle.tl_number.specs.declared.choice_search.ArrangedChoice.{ArrangedChoice}
use Rattle.tl_number.specs.declared.numbered_arrangement.NumberedArrangement.{NumberedArrangement}

-- this is the order of its chains by their shapes, which leaves few enough choices, its open places are within it, and the county has
-- all polygons on its sides
pub record LeavesChoices (county : County) (shapes : OrderOfShapes) : Type 0 where
  pub order : IsShapeOrder county shapes
  pub few : choices county ≤ most_choices
  pub within : AreWithin (length shapes.by_shape) shapes.places
  pub sides : AllKeysContained (polygons_along county.chains) (polygon_keys county)

-- the arrangement of the choice with this number
abbrev pub numbered_arrangement : OrderOfShapes → ℕ → List DirectedChain
numbered_arrangement shapes number = (moved other_way shapes.places (shapes.by_shape, number)).0

-- the choice with the number has these chains
abbrev pub IsChosen : OrderOfShapes → NumberedArrangement → Type 0
IsChosen shapes arrangement = arrangement.chains.items ≡ numbered_arrangement shapes arrangement.number

-- the county in the arrangement of the choice with this number
abbrev pub chosen_county : County → ℕ → County
chosen_county county number = arranged county (numbered_choice county number)

-- the choice has the chains of its number, and its county is the county in this arrangement
pub record IsArrangedChoice {C : Type 0} {chart : Charts C} (source : County) (shapes : OrderOfShapes) (choice : ArrangedChoice C chart) : Type 0 where
  pub chains : (directed_chains_of choice.county).items ≡ numbered_arrangement shapes choice.number
  pub county : arranged_county choice.county ≡ chosen_county source choice.number

-- the number of the choice with the lesser text; the first one if both have the same text
abbrev pub lesser_choice : County → ℕ → ℕ → ℕ
lesser_choice county one other = cond (is_gt (choices_cmp county one other)) other one
