use Rattle.arranged_county.proofs.Common.{sym, ◌∙◌}
use Rattle.arranged_county.proofs.Views.ArrangedPairs.{node_numbered}
use Rattle.arranged_county.proofs.first_appearance.NumberOrNoneHalf.number.Goals as goal

pub returns-in_ok-place-in-Some-clause-number : goal.returns-in_ok-place-in-Some-clause-number
returns-in_ok-place-in-Some-clause-number c = λ later.
    c.new.ensures
    ∙ node_numbered c.args.self c.in-Some.number c.in_ok-place-in-Some.place c.see_place.new.self later (sym c.get.ensures.value ∙ c.in-Some.is)
    c.in_ok-place-in-Some.ensures.first
