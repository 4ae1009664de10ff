use Rattle.arranged_county.proofs.Common.{YieldsList-from_range, arith, items_from_collect}
use Rattle.arranged_county.proofs.content_classes.all_places.Goals as goal

pub returns : goal.returns
returns g c =
    let count = g.T.Contents.places c.args.contents.now in
    items_from_collect _ c.collect.ensures.ran (YieldsList-from_range 0 count count (cc) (omega arith))
