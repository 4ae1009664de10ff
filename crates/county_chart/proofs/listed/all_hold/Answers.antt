use Rattle.county_chart.proofs.Common.{Decides, IfSome, YieldsList-from_range, arith, cases_from_all, false, false≢true, places_decide, refl, rules, slice_get, sym, true}
use Rattle.county_chart.proofs.listed.all_hold.Goals as goal

pub returns : goal.returns
returns g c =
    let P = g.T.Tested.Holds c.args.tested.now in
    let xs = g.T.Tested.entries c.args.tested.now in
    places_decide P xs c.count.result (sym c.count.ensures) c.all.result
    (cases_from_all _ _ _ (λ i. IfSome (slice_get xs i) P) (λ i. IfSome (slice_get xs i) P → ⊥) c.all.ensures.ran
    (YieldsList-from_range 0 c.count.result c.count.result (cc) (omega arith))
    (λ x q k. let yes : Decides true (IfSome (slice_get xs x) P) = search rules in (search rules, yes.0 refl))
    (λ x q k held. let no : Decides false (IfSome (slice_get xs x) P) = search rules in false≢true (no.1 held)))
