use Rattle.tl_cert.proofs.Common.{IsKeyOrder, ap, in_order-from_sorted, is_eq, slice_cmp, ◌∙◌}
use Rattle.tl_cert.proofs.Places.{decides_sorted}
use Rattle.tl_cert.proofs.pairing.are_reordered.Goals as goal

pub returns : goal.returns
returns g c =
    let o : IsKeyOrder g.K.Ord.cmp = record { total = g.met.K.Ord.total; exact = g.met.K.Key.exact } in
    decides_sorted o c.args.ones.items c.sort.new.self.items c.args.others.items c.sort_by_keys.new.items.items
    c.in_ok-sort.ensures.permutation (in_order-from_sorted g.met.K.Ord.total c.sort.new.self.items c.in_ok-sort.ensures.sorted)
    c.sort_by_keys.ensures.permutation c.in_ok-sort_by_keys.ensures.in_order c.is_eq.result
    (c.is_eq.ensures ∙ ap is_eq (c.cmp.ensures ∙ (λ i. slice_cmp g.K.Ord.cmp (c.as_slice.ensures.value i) (c.as_slice-2.ensures.value i))))
