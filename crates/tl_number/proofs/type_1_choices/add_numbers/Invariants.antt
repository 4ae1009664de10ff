-- the numbers so far are added
use Rattle.std.proofs.Common.{drop, map, ◌++◌, ◌+◌, ◌≡◌}
use Rattle.tl_number.proofs.type_1_choices.add_numbers.Given as goal

abbrev pub invariant-loop-number : goal.invariant-loop-number
invariant-loop-number l = l.all.items ++ map (λ number. l.first + number) (drop l.number-index l.numbers) ≡ l.initial.all.items ++ map (λ number. l.first + number) l.numbers
