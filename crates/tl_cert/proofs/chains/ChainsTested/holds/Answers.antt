use Rattle.tl_cert.proofs.Common.{ap, arith, chain_at, chain_carried, chain_under, decides_over, few_chains, image, nat_cmp, option_map, renumbered, turned_if, turns, ◌∙◌, ◌≡◌}
use Rattle.tl_cert.proofs.Places.{decides_entry}
use Rattle.tl_cert.specs.PartsThere.{tabled}
use Rattle.tl_cert.proofs.chains.ChainsTested.holds.Goals as goal

pub overflow_cast-directed : goal.overflow_cast-directed
overflow_cast-directed g c =
    let chart = c.args.self.now.a.now in
    omega (arith, few_chains (g.A.Chart.county chart) (g.met.A.Chart.within_limits chart), c.requires)

pub returns : goal.returns
returns g c =
    let a = g.A.Chart.county c.args.self.now.a.now in
    let b = g.B.Chart.county c.args.self.now.b.now in
    let r = tabled c.args.self.now.tables.now in
    let tlid = c.tlid_there-tlid.result in
    decides_entry a.chains c.args.place tlid c.tlid_there-tlid.ensures
    (λ number value. chain_under b (image nat_cmp r.chains number) ≡ option_map (renumbered r)
    (option_map (turned_if (turns r number)) value))
    c.is_same_chain.result
    (decides_over c.is_same_chain.result (chain_at b c.chain_place_or_end-other.result) (chain_under b (image nat_cmp r.chains tlid))
    (chain_carried r a (record { place = c.args.place; turned = c.contains.result }))
    (chain_carried r a (record { place = c.args.place; turned = turns r tlid }))
    (c.chain_place_or_end-other.ensures.chain ∙ ap (chain_under b) c.image.ensures)
    (ap (λ turned. chain_carried r a (record { place = c.args.place; turned = turned })) c.contains.ensures) c.is_same_chain.ensures)
