use Rattle.tl_county.proofs.Common.{IsInOrder, IsKeyOrder, ap, decided-twice, empty_list, false, is_eq, is_repeated, left-once, left-one, map, on, rules, subst, true, ◌∙◌, ◌∷◌, ◌≡◌}
use Rattle.tl_county.proofs.keys.repeated.least_repeated.Goals as goal

pub returns-then-is_eq : goal.returns-then-is_eq
returns-then-is_eq g c =
    let o : IsKeyOrder g.K.Ord.cmp = record { total = g.met.K.Ord.total; exact = g.met.K.Key.exact } in
    let first : c.loop-first.rest.now ≡ c.in-Some.first.now ∷ c.in-Some.later.now = c.in-Some.ensures.cases.0 in
    let second = c.in-Some-split_first.ensures.cases.0 in
    let equal : is_eq (g.K.Ord.cmp (g.T.Keyed.key_of c.in-Some-split_first.second.now) (g.T.Keyed.key_of c.in-Some.first.now)) ≡ true =
    cc in
    decided-twice o g.T.Keyed.key_of _ c.loop-first.rest.now c.loop-first.invariant.same c.loop-first.invariant.in_order
    c.in-Some.first.now c.in-Some-split_first.second.now _ (first
    ∙ ap (λ l. c.in-Some.first.now ∷ l) second) equal c.key-then-is_eq.result c.key-then-is_eq.ensures

pub loop-first-preserved-else-is_eq : goal.loop-first-preserved-else-is_eq
loop-first-preserved-else-is_eq g c =
    let o : IsKeyOrder g.K.Ord.cmp = record { total = g.met.K.Ord.total; exact = g.met.K.Key.exact } in
    let first : c.loop-first.rest.now ≡ c.in-Some.first.now ∷ c.in-Some.later.now = c.in-Some.ensures.cases.0 in
    let second = c.in-Some-split_first.ensures.cases.0 in
    let apart : is_eq (g.K.Ord.cmp (g.T.Keyed.key_of c.in-Some-split_first.second.now) (g.T.Keyed.key_of c.in-Some.first.now)) ≡ false =
    cc in
    record {
      in_order = (subst (IsInOrder (on g.T.Keyed.key_of g.K.Ord.cmp)) first c.loop-first.invariant.in_order).1;
      same = λ k. ap (λ l. is_repeated g.K.Ord.cmp (map g.T.Keyed.key_of l) k) second
          ∙ left-once o g.T.Keyed.key_of _ c.loop-first.rest.now c.loop-first.invariant.same c.loop-first.invariant.in_order
          c.in-Some.first.now c.in-Some-split_first.second.now _ (first ∙ ap (λ l. c.in-Some.first.now ∷ l) second) apart k;
    }

pub loop-first-preserved : goal.loop-first-preserved
loop-first-preserved g c = search (rules, empty_list, left-one)
