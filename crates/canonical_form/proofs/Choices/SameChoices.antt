-- All choices of a county are the same map.
use Rattle.canonical_form.proofs.Common.{AllKeysContained, AreSame, Arrangement, County, IsChoice, IsCounty, arranged, numbered_choice, polygon_keys, polygons_along, renaming_of, same-symmetric, same-transitive, ℕ}
use Rattle.canonical_form.proofs.Arrangements.ArrangedCounties.{arranged_county}
use Rattle.canonical_form.proofs.Arrangements.Carrying.{arrangement_carries}
use Rattle.canonical_form.proofs.Choices.TidyChoices.{numbered_is_choice}

module _ (county : County) (is : IsCounty county) where
  -- the counties of two choices are the same
  module _ (sides : AllKeysContained (polygons_along county.chains) (polygon_keys county)) where
    same_by : (arrangement : Arrangement) → IsChoice county arrangement → AreSame county (arranged county arrangement)
    same_by arrangement choice = record {
      by = renaming_of county arrangement;
      carries = arrangement_carries county arrangement is choice.arranges sides;
    }

    county_by : (arrangement : Arrangement) → IsChoice county arrangement → IsCounty (arranged county arrangement)
    county_by arrangement choice = arranged_county county arrangement is choice.arranges sides

    pub choices_same : (n m : ℕ) → AreSame (arranged county (numbered_choice county n)) (arranged county (numbered_choice county m))
    choices_same n m =
        let a = numbered_is_choice county is n in
        let b = numbered_is_choice county is m in
        same-transitive (arranged county (numbered_choice county n)) county (arranged county (numbered_choice county m))
        (county_by (numbered_choice county n) a) is
        (same-symmetric county (arranged county (numbered_choice county n)) is (county_by (numbered_choice county n) a)
        (same_by (numbered_choice county n) a))
        (same_by (numbered_choice county m) b)
