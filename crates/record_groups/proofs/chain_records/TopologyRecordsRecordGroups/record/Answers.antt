use Rattle.record_groups.proofs.Common.{IsNumberOrNone, Some, [], ap, packed_i, part_of, subst, sym, ◌∙◌, ◌∷◌}
use Rattle.county_chart.specs.ChartWords.{ends_of}
use Rattle.record_groups.proofs.Records.RecordPlaces.{chain_of_group, lone_of, topology_of}
use Rattle.record_groups.proofs.chain_records.TopologyRecordsRecordGroups.record.Goals as goal

pub new-requires-clause-nodes : goal.new-requires-clause-nodes
new-requires-clause-nodes g c =
    let chart = c.args.self.now.chart.now in
    let there = chain_of_group (λ entry. packed_i entry ∷ []) (g.C.Chart.county chart) (g.met.C.Chart.is_county chart)
    (g.met.C.Chart.within_limits chart) c.args.group c.requires.group in
    let ends_are = part_of ends_of there c.ends_there-start.result c.ends_there-start.ensures in (
      subst (λ ends. IsNumberOrNone 10 ends.0) (sym ends_are) there.named.start_node,
      subst (λ ends. IsNumberOrNone 10 ends.1) (sym ends_are) there.named.end_node,
    )

pub returns : goal.returns
returns g c =
    let chart = c.args.self.now.chart.now in
    let there = chain_of_group (λ entry. packed_i entry ∷ []) (g.C.Chart.county chart) (g.met.C.Chart.is_county chart)
    (g.met.C.Chart.within_limits chart) c.args.group c.requires.group in
    ap Some (c.new.ensures ∙ topology_of there _ c.chain_tlid-tlid.ensures.tlid c.topology_there-body.ensures
    c.ends_there-start.ensures c.sides_there-left.ensures)
    ∙ sym (lone_of packed_i (g.C.Chart.county chart) (g.met.C.Chart.is_county chart)
    (g.met.C.Chart.within_limits chart) c.args.group c.requires.group c.args._place c.requires.place)
