use Rattle.arranged_county.proofs.Common.{AreReadAt, ap, arrangement_of, landmarks_in_order, map, numbered, subst, sym, under_cenid, ◌∙◌}
use Rattle.canonical_form.specs.Arrangement.{renaming_of}
use Rattle.arranged_county.proofs.arranged.Arranged.place_pairs.Goals as goal

pub returns-clause-polygons : goal.returns-clause-polygons
unfolding renaming_of
returns-clause-polygons g c =
    c.in_ok-polygons.ensures
    ∙ ap (λ keys. map under_cenid (numbered keys)) (c.keys.ensures ∙ c.args.self.now.polygons_stated.numbers)

pub returns-clause-lands : goal.returns-clause-lands
unfolding renaming_of
returns-clause-lands g c =
    let county = g.C.Chart.county c.args.self.now.chart in
    let ls = landmarks_in_order county (arrangement_of county c.args.self.now.arrangement.items) in
    c.in_ok-lands.ensures ls (subst (λ places. AreReadAt county.landmarks places ls) (sym c.deref.ensures.value)
    c.args.self.now.landmarks_stated.landmarks)
