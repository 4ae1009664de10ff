use Rattle.arranged_county.proofs.Common.{IfSome_then, IsKeyOrder, ap, arith, contains, is_eq, position, slice_get_within, ◌∙◌}
use Rattle.arranged_county.proofs.Numbering.PlacedKeys.{stated_first}
use Rattle.arranged_county.proofs.numbers.Interner.place.Goals as goal

pub returns-clause-known : goal.returns-clause-known
returns-clause-known g c =
    let o : IsKeyOrder g.K.Ord.cmp = record { total = g.met.K.Ord.total; exact = g.met.K.Key.exact } in
    (stated_first o c.deref.result.now c.args.key c.place_of_key.result c.place_of_key.ensures.found c.place_of_key.ensures.stated).1
    ∙ ap (contains g.K.Ord.cmp c.args.key) (c.deref.ensures.value ∙ c.self.view_is)

pub returns-clause-first : goal.returns-clause-first
returns-clause-first g c =
    let o : IsKeyOrder g.K.Ord.cmp = record { total = g.met.K.Ord.total; exact = g.met.K.Key.exact } in
    (stated_first o c.deref.result.now c.args.key c.place_of_key.result c.place_of_key.ensures.found c.place_of_key.ensures.stated).0
    ∙ ap (position (λ other. is_eq (g.K.Ord.cmp c.args.key other))) (c.deref.ensures.value ∙ c.self.view_is)

pub returns-clause-small : goal.returns-clause-small
returns-clause-small g c =
    IfSome_then c.place_of_key.result c.place_of_key.ensures.found (λ place at.
    omega (
      arith,
      slice_get_within c.deref.result.now place c.args.key at,
      c.deref.ensures.len,
      c.self.inside.keys.ok.0,
      c.self.invariant.2,
    ))
