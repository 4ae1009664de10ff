-- Choices by their numbers, and the one with the least text.
use Rattle.std.specs.Prelude.{List, ℕ, ◌<◌}
use Rattle.std.specs.Cmp.Lexicographic.{slice_cmp}
use Rattle.std.specs.Ordering.{nat_cmp}
use Rattle.std.specs.declared.cmp.Ordering.{Ordering}
use Rattle.tl_layout.specs.RecordText.{text_of}
use Rattle.tl_layout.specs.declared.record_type.Record.{Record}
use Rattle.county_chart.specs.County.{County}
use Rattle.canonical_form.specs.Canonical.{IsNotAfter}
use Rattle.canonical_form.specs.Tidy.{arranged_list, numbered_choice}

-- the list of records of the choice with this number
abbrev pub choice_list : County → ℕ → List Record
choice_list county n = arranged_list county (numbered_choice county n)

-- the order of two choices by their texts
abbrev pub choices_cmp : County → ℕ → ℕ → Ordering
choices_cmp county n m = slice_cmp nat_cmp (text_of (choice_list county n)) (text_of (choice_list county m))

-- no choice with a number below the bound has a lesser text
abbrev pub IsLeastBelow : County → ℕ → ℕ → Type 0
IsLeastBelow county bound n = (m : ℕ) → m < bound → IsNotAfter (choice_list county n) (choice_list county m)
