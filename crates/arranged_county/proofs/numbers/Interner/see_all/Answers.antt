use Rattle.arranged_county.proofs.Common.{Some}
use Rattle.arranged_county.proofs.Numbering.SeenLists.{seen_next}
use Rattle.arranged_county.proofs.numbers.Interner.see_all.Goals as goal

pub loop-place-preserved : goal.loop-place-preserved
loop-place-preserved g c =
    seen_next g.K.Ord.cmp c.loop-place.place c.loop-place.self c.see.new.self (g.L.Listed.items c.args.keys.now) (Some c.item.result) _
    c.in_ok-see.ensures.seen c.item.ensures c.loop-place.invariant
