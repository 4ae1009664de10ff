-- The number, the content and the points are written one after another, as the record is spelled.
use Rattle.record_groups.proofs.Common.{Some, Type1, [], ap, byte_of, codes, first_point, joined, last_point, number_text, option_map, packed_one, part_of, point_texts, sym, take, ◌++◌, ◌∙◌, ◌∷◌}
use Rattle.record_groups.proofs.Records.RecordPlaces.{chain_of_group, lone_of, tlid_of}
use Rattle.tl_layout.specs.RecordTypes.{fields_spelling}
use Rattle.tl_layout.specs.Type1Groups.{body_1_texts}
use Rattle.record_groups.proofs.chain_records.ChainRecordsRecordGroups.put.Goals as goal

pub returns : goal.returns
unfolding fields_spelling
returns g c =
    let chart = c.args.self.now.chart.now in
    let there = chain_of_group (λ entry. packed_one entry ∷ []) (g.C.Chart.county chart) (g.met.C.Chart.is_county chart)
    (g.met.C.Chart.within_limits chart) c.args.group c.requires.group in
    let tlid_is = tlid_of there c.chain_tlid.result c.chain_tlid.ensures.tlid in
    let numbered = c.put_number.ensures ∙ ap (λ n. (byte_of Type1 ∷ codes "2006") ++ number_text 10 n) tlid_is in
    let body_is = part_of (λ chain. joined (take 15 c.put_number.new.out) (body_1_texts chain.body)) there
    (take 190 c.put_chain_body.new.out) c.put_chain_body.ensures in
    let ends_are = part_of (λ chain. (first_point chain.points, last_point chain.points)) there c.args.head.0 c.requires.head in
    ap Some (c.put_points.ensures
    ∙ ((λ i. joined (joined (body_is i) (point_texts (ends_are i).0)) (point_texts (ends_are i).1))
    ∙ ap (λ before. joined (joined (joined before (body_1_texts there.entry.1.body)) (point_texts (first_point there.entry.1.points)))
    (point_texts (last_point there.entry.1.points))) numbered))
    ∙ sym (ap (option_map (fields_spelling Type1)) (lone_of packed_one (g.C.Chart.county chart) (g.met.C.Chart.is_county chart)
    (g.met.C.Chart.within_limits chart) c.args.group c.requires.group c.args._place c.requires.place))
