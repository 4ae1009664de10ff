-- the least of the digits so far, and the choice with the first of them
use Rattle.std.proofs.Common.{get_or, ◌*◌, ◌+◌, ◌≡◌}
use Rattle.tl_number.specs.ChoiceSearch.{IsChosen}
use Rattle.tl_number.specs.LeastOnes.{HaveLeastOnesByDigit}
use Rattle.tl_number.proofs.type_1_choices.least_digits.Given as goal

abbrev pub invariant-loop-digit : goal.invariant-loop-digit
invariant-loop-digit g l = record {
  chosen : IsChosen l.shape_order l.first;
  other : IsChosen l.shape_order l.other;
  first : l.first.number ≡ get_or l.digits.items 0 0 * l.ways + l.initial.first.number;
  are : HaveLeastOnesByDigit (g.C.Chart.county l.chart) l.ways l.initial.first.number l.digit l.digits.items;
}
