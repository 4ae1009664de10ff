use Rattle.record_groups.proofs.Common.{Some, ap, arith, length, ranges_of, sym, ◌<◌, ◌∙◌}
use Rattle.record_groups.proofs.Records.RecordPlaces.{ItemThere, item_there, six_of, tlid_of}
use Rattle.record_groups.proofs.chain_records.Rec6SequencedRecord.make.Given.{Over}
use Rattle.record_groups.proofs.chain_records.Rec6SequencedRecord.make.Goals.{Start}
use Rattle.record_groups.proofs.chain_records.Rec6SequencedRecord.make.Goals as goal

here : (g : Over) (c : Start g) → ItemThere ranges_of six_of (g.C.Chart.county c.args.chart.now) c.args.chain c.args.place
here g c = item_there ranges_of six_of (g.C.Chart.county c.args.chart.now) (g.met.C.Chart.is_county c.args.chart.now)
    (g.met.C.Chart.within_limits c.args.chart.now) c.args.chain c.requires.chain c.args.place c.requires.place

few : (g : Over) (c : Start g) → c.args.place < 999
few g c =
    let h = here g c in
    omega (arith, h.count, ap (λ o. length (ranges_of o)) h.there.chain, h.there.lists.ranges)

pub range_there-ranges-requires : goal.range_there-ranges-requires
range_there-ranges-requires g c = (here g c).count

pub sequence_number-requires : goal.sequence_number-requires
sequence_number-requires g c = few g (goal.at.sequence_number-requires g c).Start

pub returns : goal.returns
returns g c =
    let h = here g (goal.at.returns g c).Start in
    let tlid_is = tlid_of h.there c.chain_tlid.result c.chain_tlid.ensures.tlid in
    ap Some (c.new.ensures ∙ (λ i. six_of (tlid_is i) (c.sequence_number.ensures.number i, c.range_there-ranges.result)))
    ∙ sym (h.get c.range_there-ranges.result (sym c.range_there-ranges.ensures))
