use Rattle.arranged_county.proofs.Common.{IsKeyOrder, sym}
use Rattle.arranged_county.proofs.Numbering.PlacedKeys.{added_first}
use Rattle.arranged_county.proofs.numbers.Interner.see_place.Goals as goal

pub returns-in-None-clause-first : goal.returns-in-None-clause-first
returns-in-None-clause-first g c =
    let o : IsKeyOrder g.K.Ord.cmp = record { total = g.met.K.Ord.total; exact = g.met.K.Key.exact } in
    added_first o c.add.result c.args.self.now c.add.new.self c.args.key (sym c.in-None.ensures.known) c.add.ensures.added c.add.ensures.place
