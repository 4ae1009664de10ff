use Rattle.tl_layout.proofs.Common.{arith, number_read_in_range, rules}
use Rattle.tl_layout.proofs.field.read_number_or_none.Goals as goal

pub returns-in-Some-clause-in_range : goal.returns-in-Some-clause-in_range
returns-in-Some-clause-in_range c =
    number_read_in_range c.args.first c.args.last c.args.line.now c.in-Some.number
    (search rules) c.requires.from_one c.requires.ordered c.requires.within.0 (omega arith)
