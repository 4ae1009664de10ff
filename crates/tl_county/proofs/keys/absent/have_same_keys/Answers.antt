use Rattle.tl_county.proofs.Common.{IsKeyOrder, ap, is_eq, map, same-true, sym, true, ◌∙◌, ◌∷◌, ◌≡◌}
use Rattle.tl_county.proofs.keys.absent.have_same_keys.Goals as goal

pub loop-item-preserved : goal.loop-item-preserved
loop-item-preserved g c same =
    let o : IsKeyOrder g.K.Ord.cmp = record { total = g.met.K.Ord.total; exact = g.met.K.Key.exact } in
    let left : c.loop-item.left.now ≡ c.in-Some.item.now ∷ c.in-Some.later.now = c.in-Some.ensures.cases.0 in
    let right : c.loop-item.right.now ≡ c.in-Some-split_first.other.now ∷ c.in-Some-split_first.more.now =
    c.in-Some-split_first.ensures.cases.0 in
    let equal : is_eq (g.K.Ord.cmp (g.A.Keyed.key_of c.in-Some.item.now) (g.B.Keyed.key_of c.in-Some-split_first.other.now)) ≡ true = cc in
    c.loop-item.invariant (ap (map g.A.Keyed.key_of) left ∙ (λ i. same-true o _ _ equal i ∷ same i) ∙ sym (ap (map g.B.Keyed.key_of) right))
