use Rattle.record_groups.proofs.Common.{ap, one_at, option_cmp, spelling_cmp, ◌∙◌}
use Rattle.record_groups.proofs.Texts.TypeOnes.{same_one}
use Rattle.record_groups.proofs.type_1_order.compare_at.Goals as goal

pub returns-then-is_same : goal.returns-then-is_same
returns-then-is_same g c =
    let county = g.C.Chart.county c.args.chart.now in
    same_one (one_at county c.args.one c.args.place)
    ∙ ap (λ directed. option_cmp spelling_cmp (one_at county c.args.one c.args.place) (one_at county directed c.args.place))
    (c.is_same.ensures.0 c.if-is_same.true)
