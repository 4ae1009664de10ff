use Rattle.tl_number.proofs.Common.{[], ap, arith, length, sym, type_6_by_chain, unwrap_or, ◌∙◌}
use Rattle.canonical_form.proofs.Lists.ListPlaces.{get_dropped}
use Rattle.tl_number.proofs.Choices.AlikeRanges.{few_from}
use Rattle.tl_number.proofs.arranged_order.RangesFromCountedGroups.record_count.Goals as goal

pub overflow_add-self : goal.overflow_add-self
overflow_add-self g c =
    let chart = c.args.self.now.chart.now in
    omega (arith, few_from (g.C.Chart.county chart) (g.met.C.Chart.within_limits chart) c.args.self.now.first c.args.group c.requires)

pub returns : goal.returns
returns g c =
    c.count_at.ensures
    ∙ sym (ap (λ group. length (unwrap_or group []))
    (get_dropped c.args.self.now.first (type_6_by_chain (g.C.Chart.county c.args.self.now.chart.now)) c.args.group))
