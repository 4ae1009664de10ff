-- The written bytes are the spelling of the chain's record.
use Rattle.record_groups.proofs.Common.{Some, [], ap, option_map, packed_i, sym, type_i_spelling, ◌∙◌, ◌∷◌}
use Rattle.record_groups.proofs.Records.RecordPlaces.{chain_of_group, lone_of, topology_of}
use Rattle.record_groups.proofs.chain_records.TopologyRecordsRecordGroups.put.Goals as goal

pub returns : goal.returns
returns g c =
    let chart = c.args.self.now.chart.now in
    let there = chain_of_group (λ entry. packed_i entry ∷ []) (g.C.Chart.county chart) (g.met.C.Chart.is_county chart)
    (g.met.C.Chart.within_limits chart) c.args.group c.requires.group in
    ap Some (c.put_fields.ensures ∙ ap type_i_spelling (topology_of there _ c.chain_tlid-tlid.ensures.tlid c.topology_there-body.ensures
    c.ends_there-start.ensures c.sides_there-left.ensures))
    ∙ sym (ap (option_map type_i_spelling) (lone_of packed_i (g.C.Chart.county chart) (g.met.C.Chart.is_county chart)
    (g.met.C.Chart.within_limits chart) c.args.group c.requires.group c.args._place c.requires.place))
