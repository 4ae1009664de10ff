use Rattle.arranged_county.proofs.Common.{ap, image, nat_cmp, ◌∙◌}
use Rattle.arranged_county.proofs.Views.ViewTables.{feats_paired}
use Rattle.arranged_county.proofs.arranged.Arranged.renumbered_feat.Goals as goal

pub returns : goal.returns
returns g c = c.new_feat.ensures ∙ ap (λ pairs. image nat_cmp pairs c.args.feat)
    (feats_paired (g.C.Chart.county c.args.self.now.chart) c.args.self.now.arrangement.items (g.met.C.Chart.is_county c.args.self.now.chart) c.args.self.now.whole c.args.self.now.names c.args.self.now.names_stated)
