use Rattle.tl_layout.proofs.Common.{arith, chunk, get_or, most_longitude, ◌∷◌}
use Rattle.tl_layout.proofs.CoordinateSteps.{found_is, two_and_eight}
use Rattle.tl_layout.proofs.coordinate.usual_longitude.Goals as goal

pub returns : goal.returns
returns c =
    let field = c.args.field.now in
    let nine = c.in_ok-nine_digits.ensures in
    found_is most_longitude c.in_ok-nine_digits.field-0 (get_or field 0 0) (get_or field 1 0 ∷ chunk 2 8 field) field c.signed.result
    (two_and_eight field c.requires) nine.begins nine.value (let below =
    nine.below in omega arith) c.signed.ensures.plus c.signed.ensures.minus
    c.signed.ensures.reported
