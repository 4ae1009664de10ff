use Rattle.record_groups.proofs.Common.{Some, [], ap, first_point, last_point, packed_one, part_of, sym, ◌∙◌, ◌∷◌}
use Rattle.record_groups.proofs.Records.RecordPlaces.{chain_of_group, lone_of, tlid_of}
use Rattle.record_groups.proofs.chain_records.ChainRecordsRecordGroups.record.Goals as goal

pub returns : goal.returns
returns g c =
    let chart = c.args.self.now.chart.now in
    let there = chain_of_group (λ entry. packed_one entry ∷ []) (g.C.Chart.county chart) (g.met.C.Chart.is_county chart)
    (g.met.C.Chart.within_limits chart) c.args.group c.requires.group in
    let tlid_is = tlid_of there c.chain_tlid.result c.chain_tlid.ensures.tlid in
    let body_is = part_of (λ chain. chain.body) there c.chain_body_there.result c.chain_body_there.ensures in
    let ends_are = part_of (λ chain. (first_point chain.points, last_point chain.points)) there c.args.head.0 c.requires.head in
    ap Some (c.new.ensures ∙ (λ i. record { tlid = tlid_is i; body = body_is i; start = (ends_are i).0; end = (ends_are i).1 }))
    ∙ sym (lone_of packed_one (g.C.Chart.county chart) (g.met.C.Chart.is_county chart)
    (g.met.C.Chart.within_limits chart) c.args.group c.requires.group c.args._place c.requires.place)
