use Rattle.tl_layout.proofs.Common.{arith, chunk, get_or, most_latitude}
use Rattle.tl_layout.proofs.CoordinateSteps.{first_and_eight, found_is}
use Rattle.tl_layout.proofs.coordinate.usual_latitude.Goals as goal

pub returns : goal.returns
returns c =
    let field = c.args.field.now in
    let eight = c.in_ok-eight_digits.ensures in
    found_is most_latitude c.in_ok-eight_digits.field-0 (get_or field 0 0) (chunk 1 8 field) field c.signed.result
    (first_and_eight field c.requires)
    eight.begins eight.value (let below = eight.below in omega arith) c.signed.ensures.plus c.signed.ensures.minus c.signed.ensures.reported
