use Rattle.record_groups.proofs.Common.{IsNumber, chain_there, subst, sym}
use Rattle.record_groups.proofs.Records.RecordPlaces.{tlid_of}
use Rattle.record_groups.proofs.chain_records.chain_tlid.Goals as goal

pub returns-clause-in_range : goal.returns-clause-in_range
returns-clause-in_range g c =
    let chart = c.args.chart.now in
    let there = chain_there (g.C.Chart.county chart) (g.met.C.Chart.is_county chart) (g.met.C.Chart.within_limits chart) c.args.place
    c.requires in
    subst (IsNumber 10) (sym (tlid_of there c.tlid_there.result c.tlid_there.ensures)) there.is_number
