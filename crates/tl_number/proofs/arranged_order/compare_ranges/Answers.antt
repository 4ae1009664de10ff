use Rattle.tl_number.proofs.Common.{Six, type_6_by_chain, ◌∙◌}
use Rattle.tl_number.proofs.Choices.AlikeRanges.{rest_decides}
use Rattle.tl_number.proofs.arranged_order.compare_ranges.Goals as goal

pub returns : goal.returns
returns g c = c.compare_groups.ensures
    ∙ rest_decides Six c.args.alike (type_6_by_chain (g.A.Chart.county c.args.a.now)) (type_6_by_chain (g.B.Chart.county c.args.b.now)) c.requires
