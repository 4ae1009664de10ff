use Rattle.tl_load.proofs.Common.{arith, sym, type_of, ◌∙◌, ◌≡◌}
use Rattle.tl_load.proofs.Counts.{adds_below, adds_full, counted_more, loader_with, total_up, type_low}
use Rattle.tl_load.proofs.loader_for.LoaderFor.add.Goals as goal

pub bounds-self-inside-rtype : goal.bounds-self-inside-rtype
bounds-self-inside-rtype g c =
    omega (arith, type_low (g.L.Tabled.as_record c.args.found), g.met.L.Tabled.type_is c.args.found, c.RTYPE-rtype.ensures)

pub returns-then-self-count-clause-adds : goal.returns-then-self-count-clause-adds
returns-then-self-count-clause-adds g c = rw (← c.self.view_is) (λ records kept. (
  records,
  tt,
  λ _. adds_full c.self.inside.counts records c.self.inside.limit (g.L.Tabled.as_record c.args.found) c.RTYPE-rtype.result kept.counted
      (g.met.L.Tabled.type_is c.args.found ∙ sym c.RTYPE-rtype.ensures) c.if-self-count.true,
))

pub bounds-self-inside-rtype-in-Ok : goal.bounds-self-inside-rtype-in-Ok
bounds-self-inside-rtype-in-Ok g c =
    omega (arith, type_low (g.L.Tabled.as_record c.args.found), g.met.L.Tabled.type_is c.args.found, c.RTYPE-rtype.ensures)

pub invariant_of-self : goal.invariant_of-self
invariant_of-self g c =
    let s = c.self.inside in
    loader_with s.counts s.line.items s.parts s.judged s.limit (g.L.Tabled.as_record c.args.found) c.RTYPE-rtype.result c.self.invariant
    (g.met.L.Tabled.type_is c.args.found ∙ sym c.RTYPE-rtype.ensures) c.if-self-count.false

pub returns-in-Ok-clause-adds : goal.returns-in-Ok-clause-adds
returns-in-Ok-clause-adds g c =
    let is : type_of (g.L.Tabled.as_record c.args.found) ≡ c.RTYPE-rtype.result = g.met.L.Tabled.type_is c.args.found
    ∙ sym c.RTYPE-rtype.ensures in
    rw (← c.self.view_is) (λ records kept. (
      _,
      record {
        held = c.in-Ok.ensures records kept.held;
        counted = counted_more c.self.inside.counts records
            (g.L.Tabled.as_record c.args.found) c.RTYPE-rtype.result c.self.invariant.counts_len kept.counted is;
      },
      adds_below c.self.inside.counts records c.self.inside.limit
          (g.L.Tabled.as_record c.args.found) c.RTYPE-rtype.result kept.counted is c.if-self-count.false,
    ))

pub returns-in-Ok-clause-one_more : goal.returns-in-Ok-clause-one_more
returns-in-Ok-clause-one_more g c =
    rw (← c.self.view_is)
    (total_up c.self.inside.counts (g.L.Tabled.as_record c.args.found) c.RTYPE-rtype.result c.self.invariant.counts_len
    (g.met.L.Tabled.type_is c.args.found ∙ sym c.RTYPE-rtype.ensures))
