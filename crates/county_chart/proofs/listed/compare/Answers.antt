use Rattle.county_chart.proofs.Common.{ap₂, arith, inl, inr, length, nat_cmp, slice_cmp, sym, ◌∙◌, ◌≡◌, ◌≤◌, ◌⊎◌}
use Rattle.county_chart.proofs.Lists.Compared.{after_equal, at_end, at_unequal}
use Rattle.county_chart.proofs.listed.compare.Goals.{else-count-other_count, then-count-other_count}
use Rattle.county_chart.proofs.listed.compare.Goals as goal

pub returns-in_default : goal.returns-in_default
returns-in_default g c =
    let xs = g.A.Listed.items c.args.a.now in
    let ys = g.B.Listed.items c.args.b.now in
    at_unequal g.T.Ord.cmp xs ys c.loop-place.place c.item.result c.item-in-loop-place.result c.cmp.result (slice_cmp g.T.Ord.cmp xs ys)
    c.item.ensures c.item-in-loop-place.ensures c.cmp.ensures c.loop-place.invariant c.in_default.not-Equal

pub loop-place-preserved : goal.loop-place-preserved
loop-place-preserved g c =
    let xs = g.A.Listed.items c.args.a.now in
    let ys = g.B.Listed.items c.args.b.now in
    after_equal g.T.Ord.cmp xs ys c.loop-place.place c.item.result c.item-in-loop-place.result c.cmp.result (slice_cmp g.T.Ord.cmp xs ys)
    c.item.ensures c.item-in-loop-place.ensures c.cmp.ensures c.loop-place.invariant c.in-Equal.is

pub returns : goal.returns
returns g c = elim c.if-count-other_count.branch [
  | then-count-other_count w ↦ whole
      (omega (arith, c.count-count.ensures, c.loop-place.auto.place-end, w.shared-is))
      (omega (arith, c.count-other_count.ensures, c.loop-place.auto.place-end, w.shared-is, w.if-count-other_count))
      (inl (omega (arith, c.count-count.ensures, c.loop-place-test.false, w.shared-is)))
  | else-count-other_count w ↦ whole
      (omega (arith, c.count-count.ensures, c.loop-place.auto.place-end, w.shared-is, w.if-count-other_count))
      (omega (arith, c.count-other_count.ensures, c.loop-place.auto.place-end, w.shared-is))
      (inr (omega (arith, c.count-other_count.ensures, c.loop-place-test.false, w.shared-is)))
]
  where
    whole : c.loop-place.place ≤ length (g.A.Listed.items c.args.a.now) → c.loop-place.place ≤ length (g.B.Listed.items c.args.b.now)
        → (length (g.A.Listed.items c.args.a.now) ≤ c.loop-place.place) ⊎ (length (g.B.Listed.items c.args.b.now) ≤ c.loop-place.place)
        → c.cmp-2.result ≡ slice_cmp g.T.Ord.cmp (g.A.Listed.items c.args.a.now) (g.B.Listed.items c.args.b.now)
    whole h k end = c.cmp-2.ensures
        ∙ ap₂ nat_cmp c.count-count.ensures c.count-other_count.ensures
        ∙ sym (at_end g.T.Ord.cmp (g.A.Listed.items c.args.a.now) (g.B.Listed.items c.args.b.now) c.loop-place.place h k end)
        ∙ c.loop-place.invariant
