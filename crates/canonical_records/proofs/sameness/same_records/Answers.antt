use Rattle.canonical_form.specs.WholeArrangements.{arranged_by}
use Rattle.record_groups.proofs.Records.SameGroups.{decides_packing}
use Rattle.canonical_records.proofs.sameness.same_records.Goals as goal

pub returns : goal.returns
returns g c =
    decides_packing (arranged_by (g.A.Chart.county c.args.a.now.chart) c.args.a.now.arrangement.items)
    (arranged_by (g.B.Chart.county c.args.b.now.chart) c.args.b.now.arrangement.items) c.args.a.now.whole.is_county c.args.b.now.whole.is_county
    c.have_same_groups.result c.have_same_groups.ensures
