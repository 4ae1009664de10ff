use Rattle.arranged_county.proofs.Common.{DirectedChain, all_among, among-get, ap, arith, chains_arranged_by, length, numbered_there, slice_get, sym, ◌<◌, ◌∙◌}
use Rattle.arranged_county.proofs.arranged.Arranged.directed_there.Goals as goal

pub item-requires : goal.item-requires
item-requires g c =
    let view = c.args.self.now in
    let counted = chains_arranged_by (g.C.Chart.county view.chart) view.arrangement.items (g.met.C.Chart.is_county view.chart) view.whole in
    omega (arith, c.requires, ap length c.as_slice.ensures.value, counted)

pub returns-clause-chain : goal.returns-clause-chain
returns-clause-chain g c =
    let view = c.args.self.now in
    numbered_there (g.C.Chart.county view.chart) view.arrangement.items (g.met.C.Chart.is_county view.chart) view.whole c.args.place c.item.result
    (c.item.ensures ∙ ap (λ chains. slice_get chains c.args.place) c.as_slice.ensures.value)

pub returns-clause-there : goal.returns-clause-there
returns-clause-there g c =
    let view = c.args.self.now in
    let county = g.C.Chart.county view.chart in
    all_among (λ (directed : DirectedChain). directed.place < length county.chains) c.item.result view.arrangement.items view.whole.there
    (among-get view.arrangement.items c.args.place c.item.result
    (sym (c.item.ensures ∙ ap (λ chains. slice_get chains c.args.place) c.as_slice.ensures.value)))
