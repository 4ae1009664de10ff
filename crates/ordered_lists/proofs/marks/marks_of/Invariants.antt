use Rattle.ordered_lists.proofs.Common.{AreMarksOf, take}
use Rattle.ordered_lists.proofs.marks.marks_of.Given as goal

abbrev pub invariant-loop-number : goal.invariant-loop-number
invariant-loop-number l = AreMarksOf (take l.number-index l.numbers) l.marks.items
