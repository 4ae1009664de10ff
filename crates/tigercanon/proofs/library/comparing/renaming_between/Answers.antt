use Rattle.tigercanon.proofs.Common.{Carries, IfOk-weaker, arranged_by, subst, sym, ◌≡◌}
use Rattle.tigercanon.proofs.Verdicts.{one_county}
use Rattle.tigercanon.proofs.library.comparing.renaming_between.Goals as goal

pub returns : goal.returns
returns g c =
    let a = g.A.Chart.county c.args.a.now.chart in
    let b = g.B.Chart.county c.args.b.now.chart in
    let canon = arranged_by a c.args.a.now.arrangement.items in
    let other = arranged_by b c.args.b.now.arrangement.items in
    let one : canon ≡ other = one_county canon other c.args.a.now.whole.is_county c.args.b.now.whole.is_county c.requires in
    let back : Carries c.in_ok-back.back other b = c.in_ok-back.ensures.carries_back b other (g.met.B.Chart.is_county c.args.b.now.chart)
    c.args.b.now.whole.is_county c.in_ok-onto.ensures.carries in
    IfOk-weaker c.then.result _ _
    (λ r on. on a canon b (g.met.A.Chart.is_county c.args.a.now.chart) c.args.a.now.whole.is_county
    c.in_ok-there.ensures.carries (subst (λ county. Carries c.in_ok-back.back county b) (sym one) back))
    c.then.ensures.carries_on
