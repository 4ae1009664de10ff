use Rattle.record_groups.proofs.Common.{Some, ap, arith, inner_points, length, points_of, sym, ◌<◌, ◌∙◌}
use Rattle.record_groups.proofs.Records.RecordPlaces.{PieceThere, piece_there, tlid_of, two_of}
use Rattle.record_groups.proofs.chain_records.Rec2SequencedRecord.make.Given.{Over}
use Rattle.record_groups.proofs.chain_records.Rec2SequencedRecord.make.Goals.{Start}
use Rattle.record_groups.proofs.chain_records.Rec2SequencedRecord.make.Goals as goal

here : (g : Over) (c : Start g) → PieceThere 9 (λ o. inner_points (points_of o)) two_of (g.C.Chart.county c.args.chart.now) c.args.chain c.args.place
here g c = piece_there 9 (λ o. inner_points (points_of o)) two_of (g.C.Chart.county c.args.chart.now) (g.met.C.Chart.is_county c.args.chart.now)
    (g.met.C.Chart.within_limits c.args.chart.now) c.args.chain c.requires.chain c.args.place c.requires.place

few : (g : Over) (c : Start g) → c.args.place < 999
few g c =
    let h = here g c in
    omega (arith, h.begins, ap (λ o. length (inner_points (points_of o))) h.there.chain, h.there.lists.points)

pub overflow_mul-place : goal.overflow_mul-place
overflow_mul-place g c = omega (arith, few g (goal.at.overflow_mul-place g c).Start)

pub items_from-points-requires : goal.items_from-points-requires
items_from-points-requires g c = (omega arith, (here g (goal.at.items_from-points-requires g c).Start).begins)

pub sequence_number-requires : goal.sequence_number-requires
sequence_number-requires g c = few g (goal.at.sequence_number-requires g c).Start

pub returns : goal.returns
returns g c =
    let h = here g (goal.at.returns g c).Start in
    let tlid_is = tlid_of h.there c.chain_tlid.result c.chain_tlid.ensures.tlid in
    ap Some (c.new.ensures ∙ (λ i. two_of (tlid_is i) (c.sequence_number.ensures.number i, c.items_from-points.ensures i))) ∙ sym h.get
