use Rattle.county_chart.proofs.Common.{Greater, IsInOrder, IsKeyOrder, Less, decided-first, decided-last, empty_list, left-below, on, subst, ◌≡◌}
use Rattle.county_chart.proofs.keys.keyed.least_unknown.Goals as goal

pub returns-in-None : goal.returns-in-None
returns-in-None g c =
    let o : IsKeyOrder g.K.Ord.cmp = record { total = g.met.K.Ord.total; exact = g.met.K.Key.exact } in
    decided-last o g.A.Keyed.key_of g.B.Keyed.key_of _ c.loop-first.asked.now c.loop-first.known.now c.loop-first.invariant.same
    c.loop-first.invariant.asked_in_order
    c.in-Some.first.now c.in-Some.later.now c.in-Some.ensures.cases.0
    (empty_list c.loop-first.known.now c.in-None.ensures.cases) c.key.result c.key.ensures

pub returns-in-Less : goal.returns-in-Less
returns-in-Less g c =
    let o : IsKeyOrder g.K.Ord.cmp = record { total = g.met.K.Ord.total; exact = g.met.K.Key.exact } in
    let less : g.K.Ord.cmp (g.A.Keyed.key_of c.in-Some.first.now) (g.B.Keyed.key_of c.in-Some-split_first.least.now) ≡ Less = cc in
    decided-first o g.A.Keyed.key_of g.B.Keyed.key_of _ c.loop-first.asked.now c.loop-first.known.now c.loop-first.invariant.same
    c.loop-first.invariant.asked_in_order
    c.in-Some.first.now c.in-Some.later.now c.in-Some-split_first.least.now c.in-Some-split_first.others.now c.in-Some.ensures.cases.0
    c.in-Some-split_first.ensures.cases.0 c.loop-first.invariant.known_in_order less c.key-in-Less.result c.key-in-Less.ensures

pub loop-first-preserved : goal.loop-first-preserved
loop-first-preserved g c =
    let o : IsKeyOrder g.K.Ord.cmp = record { total = g.met.K.Ord.total; exact = g.met.K.Key.exact } in
    let greater : g.K.Ord.cmp (g.A.Keyed.key_of c.in-Some.first.now) (g.B.Keyed.key_of c.in-Some-split_first.least.now) ≡ Greater = cc in
    record {
      asked_in_order = c.loop-first.invariant.asked_in_order;
      known_in_order = (subst
          (IsInOrder (on g.B.Keyed.key_of g.K.Ord.cmp)) c.in-Some-split_first.ensures.cases.0 c.loop-first.invariant.known_in_order).1;
      same = left-below o g.A.Keyed.key_of g.B.Keyed.key_of _ c.loop-first.asked.now c.loop-first.known.now c.loop-first.invariant.same
          c.loop-first.invariant.asked_in_order
          c.in-Some.first.now c.in-Some.later.now c.in-Some-split_first.least.now c.in-Some-split_first.others.now c.in-Some.ensures.cases.0
          c.in-Some-split_first.ensures.cases.0 greater;
    }
