-- A county's nodes have numbers from 1 on.
use Rattle.canonical_form.proofs.Views.ChainPlaces.{chain_there, node_from_one, part_of}
use Rattle.arranged_county.proofs.Common.{Some, ap, ends_of, option_map, sym, ◌∙◌}
use Rattle.arranged_county.proofs.directed_readers.ends_of_directed.Goals as goal

pub new-start-requires : goal.new-start-requires
new-start-requires g c =
    let there = chain_there (g.C.Chart.county c.args.chart.now) (g.met.C.Chart.is_county c.args.chart.now)
    (g.met.C.Chart.within_limits c.args.chart.now) c.args.directed.place c.requires in
    let ends_are = part_of ends_of there c.ends_there-start.result c.ends_there-start.ensures in
    node_from_one (λ chain. chain.start_node) there (λ named. named.start_node)
    (ap (λ ends. Some ends.0) ends_are ∙ sym (ap (option_map (λ chain. chain.start_node)) there.chain))

pub new-end-requires : goal.new-end-requires
new-end-requires g c =
    let there = chain_there (g.C.Chart.county c.args.chart.now) (g.met.C.Chart.is_county c.args.chart.now)
    (g.met.C.Chart.within_limits c.args.chart.now) c.args.directed.place c.requires in
    let ends_are = part_of ends_of there c.ends_there-start.result c.ends_there-start.ensures in
    node_from_one (λ chain. chain.end_node) there (λ named. named.end_node)
    (ap (λ ends. Some ends.1) ends_are ∙ sym (ap (option_map (λ chain. chain.end_node)) there.chain))
