use Rattle.tl_cert.proofs.Common.{Carries, Decides, IfOk, NumbersArePaired, rules, subst, sym, true, ◌≡◌}
use Rattle.tl_cert.proofs.carrying.check.Goals as goal

pub carries_parts-requires : goal.carries_parts-requires
carries_parts-requires g c =
    let paired : c.in_ok-paired.paired ≡ true = search rules in
    subst (λ r. NumbersArePaired r (g.A.Chart.county c.args.a.now) (g.B.Chart.county c.args.b.now)) (sym c.in_ok-tables.ensures)
    (c.in_ok-paired.ensures.0 paired)

pub returns : goal.returns
returns g c =
    subst (λ r. IfOk c.carries_parts.result (λ yes. Decides yes (Carries r (g.A.Chart.county c.args.a.now) (g.B.Chart.county c.args.b.now))))
    c.in_ok-tables.ensures c.carries_parts.ensures
