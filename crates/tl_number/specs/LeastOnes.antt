-- The choices with the least records of type 1, digit by digit of their numbers.
use Rattle.std.specs.Prelude.{List, false, get_or, length, true, ℕ, ◌*◌, ◌+◌, ◌<◌, ◌≡◌}
use Rattle.std.specs.List.{AllByRecursion}
use Rattle.std.specs.Ordering.{is_gt, nat_cmp}
use Rattle.std.specs.declared.cmp.Ordering.{Ordering}
use Rattle.std.specs.declared.cmp.Ordering.TheVariants.{Equal}
use Rattle.tl_layout.specs.declared.record_type.Record.{Record}
use Rattle.ordered_lists.specs.Orders.{contains}
use Rattle.county_chart.specs.County.{County}
use Rattle.county_chart.specs.ShapeOrder.{OrderOfShapes}
use Rattle.canonical_form.specs.Canonical.{IsNotAfter}
use Rattle.canonical_form.specs.LeastNumber.{choice_list}
use Rattle.record_groups.specs.RecordOrder.{records_cmp}
use Rattle.record_groups.specs.TypeOneOrder.{ones_cmp, ones_of}
use Rattle.tl_number.specs.ChoiceSearch.{IsChosen, chosen_county}
use Rattle.tl_number.specs.declared.type_1_choices.LeastChoices.{LeastChoices}

-- Of the numbers below a bound, these are the ones whose values come after no other's. There is at least one.
pub record AreLeastBelow {K : Type 0} (cmp : K → K → Ordering) (value : ℕ → K) (bound : ℕ) (numbers : List ℕ) : Type 0 where
  pub some : 0 < length numbers
  pub within : AllByRecursion (λ n. n < bound) numbers
  pub least : AllByRecursion (λ n. (m : ℕ) → m < bound → is_gt (cmp (value n) (value m)) ≡ false) numbers
  pub all : (m : ℕ) → m < bound → AllByRecursion (λ n. is_gt (cmp (value m) (value n)) ≡ false) numbers → contains nat_cmp m numbers ≡ true

-- the records of type 1 of the choice with this number
abbrev pub ones_in : County → ℕ → List Record
ones_in county n = ones_of (chosen_county county n)

-- Of the choices with numbers below a bound, these have the least records of type 1.
abbrev pub HaveLeastOnes : County → ℕ → List ℕ → Type 0
HaveLeastOnes county bound numbers = AreLeastBelow records_cmp (ones_in county) bound numbers

-- The same for choices whose numbers have the same digits after a digit, by that digit. The digits after it make up a number.
abbrev pub HaveLeastOnesByDigit : County → ℕ → ℕ → ℕ → List ℕ → Type 0
HaveLeastOnesByDigit county ways behind bound digits = AreLeastBelow records_cmp (λ digit. ones_in county (digit * ways + behind)) bound digits

-- Of the choices with numbers below a bound, these have the least records of type 1, and the first of them is given with its chains.
pub record AreLeastChoices (county : County) (shapes : OrderOfShapes) (bound : ℕ) (least : LeastChoices) : Type 0 where
  pub ones : HaveLeastOnes county bound least.numbers.items
  pub first : least.first.number ≡ get_or least.numbers.items 0 0
  pub chosen : IsChosen shapes least.first

-- Numbers with the same digit before this many ways compare as the numbers after the digit do.
abbrev pub IsDigitApart : County → ℕ → Type 0
IsDigitApart county ways = (digit n m : ℕ) → n < ways → m < ways
    → ones_cmp county (digit * ways + n) (digit * ways + m) ≡ ones_cmp county n m

-- all choices of a list have the same records of type 1
abbrev pub HaveSameOnes : County → List ℕ → Type 0
HaveSameOnes county numbers = AllByRecursion (λ n. AllByRecursion (λ m. ones_cmp county n m ≡ Equal) numbers) numbers

-- no choice of a list has a lesser text than this choice
abbrev pub IsLeastAmong : County → List ℕ → ℕ → Type 0
IsLeastAmong county numbers n = AllByRecursion (λ m. IsNotAfter (choice_list county n) (choice_list county m)) numbers

-- a choice of a list, and none of the list has a lesser text
pub record IsLeastOf (county : County) (numbers : List ℕ) (n : ℕ) : Type 0 where
  pub there : contains nat_cmp n numbers ≡ true
  pub least : IsLeastAmong county numbers n
