use Rattle.tl_cert.proofs.Common.{Decides, Fields8, IsPermutation, ap, carried_link, map, subst, ◌∙◌}
use Rattle.tl_cert.proofs.LinksCarried.{links_decided}
use Rattle.county_chart.specs.SequenceKeys.{link_sequence}
use Rattle.tl_cert.specs.PartsThere.{tabled}
use Rattle.tl_cert.proofs.links.are_links_there.Goals as goal

pub returns : goal.returns
returns g c =
    let carried : Fields8 → Fields8 = carried_link (tabled c.args.tables.now) in
    let keys = c.in_ok-keys.ensures ∙ ap (map (λ l. link_sequence (carried l))) c.deref.ensures.value in
    let known = c.in_ok-known.ensures ∙ ap (map link_sequence) c.deref-2.ensures.value in
    links_decided carried c.in_ok-links.links.items (g.A.Chart.county c.args.a.now).links c.in_ok-links.ensures
    c.in_ok-others.others.items (g.B.Chart.county c.args.b.now).links c.in_ok-others.ensures c.in_ok-there.there
    (subst (λ P. Decides c.in_ok-there.there P) (λ i. IsPermutation (keys i) (known i)) c.in_ok-there.ensures)
