use Rattle.tl_cert.proofs.Common.{Carries, County, Decides, IfOk, ap, masked, subst, ◌∙◌}
use Rattle.tl_cert.proofs.carrying.check_masked.Goals as goal

pub returns : goal.returns
returns g c =
    let county_a = g.A.Chart.county in
    let county_b = g.B.Chart.county in
    let r = c.args.renaming.now in
    let a = masked c.in_ok-a.a.mask (county_a c.in_ok-a.a.chart.chart.now) in
    let own_b = masked c.args.mask (county_b c.args.b.now) in
    let same_a = c.in_ok-a.ensures.county ∙ ap (masked c.args.mask) c.new.ensures in
    let same_b = c.in_ok-b.ensures.county ∙ ap (masked c.args.mask) c.new-3.ensures in
    subst (λ (x : County). IfOk c.check.result (λ yes. Decides yes (Carries r x own_b))) same_a
    (subst (λ (y : County). IfOk c.check.result (λ yes. Decides yes (Carries r a y))) same_b c.check.ensures)
