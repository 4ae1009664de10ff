-- Record type 4: FEATs that are read fit.
use Rattle.std.proofs.Common.{List, Ok, false, ℕ, ◌+◌, ◌≡◌}
use Rattle.std.specs.List.{AllByRecursion}
use Rattle.tl_layout.specs.FieldReading.{number_or_none_at, places_reading}
use Rattle.tl_layout.specs.Laws.PlaceLaws.{number_place_fits, places_each}
use Rattle.tl_layout.specs.ColumnTable.{NumberPlaces}
use Rattle.tl_layout.specs.FieldMeaning.{SpellsNumberPlace}
use Rattle.tl_layout.specs.Laws.ValueLaws.{value_found}
use Rattle.tl_layout.specs.Numbers.{IsNumber}

-- FEATs that are read are in range
pub feats_in_range : (line : List ℕ) (feats : List ℕ)
    → places_reading (λ column. number_or_none_at column (column + 7) line) 8 false 5 19 ≡ Ok feats → AllByRecursion (IsNumber 8) feats
feats_in_range line feats was =
    places_each (SpellsNumberPlace line) 8 (IsNumber 8) (number_place_fits line) 5 19 feats (value_found line 19 58 NumberPlaces feats was)
