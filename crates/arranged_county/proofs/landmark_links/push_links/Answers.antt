use Rattle.arranged_county.proofs.Common.{OnOk, YieldsList-at, YieldsList-from_filter_map, YieldsList-from_map, YieldsList-from_range, arith, length, link_in, links_at, map, range_with_len, rules, slice_get, subst, tests, ◌++◌, ◌≡◌}
use Rattle.arranged_county.proofs.Landmarks.LandmarkLinks.{listed}
use Rattle.arranged_county.proofs.Names.NameOrder.{filter_map_all}
use Rattle.std.proofs.lemmas.Iterator.Adapters.{items_from_extend}
use Rattle.arranged_county.proofs.landmark_links.push_links.Goals as goal

pub returns : goal.returns
returns g c =
    let own = links_at (g.C.Chart.county c.args.chart.now) c.args.place in
    let renumbered = link_in c.args.numbers.now.polygons.now c.args.numbers.now.land in
    let pushed = items_from_extend c.extend.result c.extend.ensures.ran
    (YieldsList-from_map _ renumbered
    (YieldsList-at c.map.ensures.source
    (YieldsList-from_filter_map _ (slice_get own) (YieldsList-from_range 0 (length own) (length own) (cc) (omega arith))
    c.filter_map-own.ensures.closure (λ x r q k. search (rules, tests))))
    c.map.ensures.closure (λ x r q k. search (rules, tests))) in
    subst (λ links. OnOk c.extend.result (c.extend.new.self.items ≡ c.args.links.now.items ++ map renumbered links))
    (filter_map_all (slice_get own) (range_with_len 0 (length own)) own (listed own)) (search rules)
