use Rattle.arranged_county.proofs.Common.{arith, ◌∙◌}
use Rattle.arranged_county.proofs.Views.ArrangedPairs.{number_fits, side_numbered}
use Rattle.arranged_county.proofs.first_appearance.SideHalf.number.Goals as goal

pub new-requires-clause-polyid : goal.new-requires-clause-polyid
new-requires-clause-polyid c = (
  omega arith,
  number_fits c.args.self c.cenid-cenid.result c.in-Some.polyid c.cenid-cenid.ensures.value c.in-Some.ensures.value
      c.in_ok-place-in-Some.place c.args.numbers.now c.see_place.new.self c.in_ok-place-in-Some.ensures.seen
      c.in_ok-place-in-Some.ensures.first c.requires,
)

pub returns-in_ok-place-in-Some-clause-number : goal.returns-in_ok-place-in-Some-clause-number
returns-in_ok-place-in-Some-clause-number c = λ later.
    c.new.ensures
    ∙ side_numbered c.args.self c.cenid-cenid.result c.in-Some.polyid c.cenid-cenid.ensures.value c.in-Some.ensures.value
    c.in_ok-place-in-Some.place c.see_place.new.self later c.in_ok-place-in-Some.ensures.first
