use Rattle.record_groups.proofs.Common.{AllByRecursion, IsNumber, Some, all_drop, all_take, ap, arith, chain_at, drop, feats_of, length, subst, sym, ◌*◌, ◌<◌, ◌∙◌}
use Rattle.record_groups.proofs.Records.RecordPlaces.{PieceThere, four_of, piece_there, tlid_of}
use Rattle.record_groups.proofs.chain_records.Rec4SequencedRecord.make.Given.{Over}
use Rattle.record_groups.proofs.chain_records.Rec4SequencedRecord.make.Goals.{Start}
use Rattle.record_groups.proofs.chain_records.Rec4SequencedRecord.make.Goals as goal

here : (g : Over) (c : Start g) → PieceThere 4 feats_of four_of (g.C.Chart.county c.args.chart.now) c.args.chain c.args.place
here g c = piece_there 4 feats_of four_of (g.C.Chart.county c.args.chart.now) (g.met.C.Chart.is_county c.args.chart.now)
    (g.met.C.Chart.within_limits c.args.chart.now) c.args.chain c.requires.chain c.args.place c.requires.place

few : (g : Over) (c : Start g) → c.args.place < 999
few g c =
    let h = here g c in
    omega (arith, h.begins, ap (λ o. length (feats_of o)) h.there.chain, h.there.lists.feats)

pub overflow_mul-place : goal.overflow_mul-place
overflow_mul-place g c = omega (arith, few g (goal.at.overflow_mul-place g c).Start)

pub items_from-names-requires : goal.items_from-names-requires
items_from-names-requires g c = (omega arith, (here g (goal.at.items_from-names-requires g c).Start).begins)

pub sequence_number-requires : goal.sequence_number-requires
sequence_number-requires g c = few g (goal.at.sequence_number-requires g c).Start

pub new-requires-clause-feats : goal.new-requires-clause-feats
new-requires-clause-feats g c =
    let there = (here g (goal.at.new-requires-clause-feats g c).Start).there in
    let feats = feats_of (chain_at (g.C.Chart.county c.args.chart.now) c.args.chain) in
    subst (AllByRecursion (IsNumber 8)) (sym c.items_from-names.ensures)
    (all_take (IsNumber 8) 5 (drop (c.args.place * 5) feats) (all_drop (IsNumber 8) (c.args.place * 5) feats
    (subst (λ o. AllByRecursion (IsNumber 8) (feats_of o)) (sym there.chain) there.named.feats)))

pub returns : goal.returns
returns g c =
    let h = here g (goal.at.returns g c).Start in
    let tlid_is = tlid_of h.there c.chain_tlid.result c.chain_tlid.ensures.tlid in
    ap Some (c.new.ensures ∙ (λ i. four_of (tlid_is i) (c.sequence_number.ensures.number i, c.items_from-names.ensures i))) ∙ sym h.get
