use Rattle.tl_cert.proofs.Common.{IsPermutation, ap, lands, length-map, links_at, refl, subst, sym, take, taken_all, ◌++◌, ◌∙◌}
use Rattle.tl_cert.proofs.LinksCarried.{all_lands, next_land, under_lands}
use Rattle.tl_cert.proofs.links.links_of.Goals as goal

pub loop-place-preserved : goal.loop-place-preserved
loop-place-preserved g c =
    let county = g.C.Chart.county c.args.chart.now in
    c.in_ok-push_all.ensures.ok ∙ ap (λ links. links ++ links_at county c.loop-place.place) c.loop-place.invariant
    ∙ next_land county.links (lands county) c.loop-place.place

pub returns : goal.returns
returns g c =
    let county = g.C.Chart.county c.args.chart.now in
    subst (λ links. IsPermutation links county.links)
    (sym (c.loop-place.invariant
    ∙ ap (under_lands county.links) (taken_all (lands county) (take c.loop-place.place (lands county)) c.loop-place.place
    c.landmark_count-count.result refl (length-map county.landmarks (λ entry. entry.0) ∙ sym c.landmark_count-count.ensures)
    c.loop-place-test.false)))
    (all_lands county (g.met.C.Chart.is_county c.args.chart.now))
