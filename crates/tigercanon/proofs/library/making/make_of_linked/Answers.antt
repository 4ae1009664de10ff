use Rattle.tigercanon.proofs.Common.{ap, masked, ◌∙◌}
use Rattle.tigercanon.proofs.Masking.{viewed_by_none}
use Rattle.tigercanon.proofs.library.making.make_of_linked.Goals as goal

pub returns-then-is_none-clause-made : goal.returns-then-is_none-clause-made
returns-then-is_none-clause-made g c = λ parts linked.
    c.in_ok-make_masked.ensures.made parts
    (viewed_by_none c.args.mask parts (c.is_none.ensures.none c.if-is_none.true) _ (c.in_ok-admitted.ensures.view parts linked))

pub returns-clause-made : goal.returns-clause-made
returns-clause-made g c = λ parts linked.
    let set = c.in_ok-admitted.ensures.view parts linked in
    c.in_ok-make_masked-2.ensures.made parts (record {
      records = set.records;
      accepted = set.accepted;
      county_is = c.in_ok-masked_county.ensures.county ∙ ap (masked c.args.mask) set.county_is;
    })
