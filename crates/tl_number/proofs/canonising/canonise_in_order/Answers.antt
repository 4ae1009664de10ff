use Rattle.tl_number.proofs.Common.{AreSame, Arrangement, Carries, County, IsCanonCounty, IsCounty, IsInProfile, IsLeastChoice, ap, arranged, arranged_by, arrangement_carries, arrangement_of, least_choice_county, renaming_of, subst, sym, ◌∙◌}
use Rattle.canonical_form.proofs.CanonicalLists.Ascending.{few_in_profile, sides_in_profile}
use Rattle.tl_number.proofs.canonising.canonise_in_order.Goals as goal

-- the county of a choice of least text is canonical, and its renaming carries
module _ (county : County) (is : IsCounty county) (profile : IsInProfile county) (arrangement : Arrangement) (least : IsLeastChoice county arrangement)
  where
    canonical : IsCanonCounty (arranged county arrangement)
    canonical = least_choice_county county arrangement is (sides_in_profile county is profile) least

    carried : Carries (renaming_of county arrangement) county (arranged county arrangement)
    carried = arrangement_carries county arrangement is least.choice.arranges (sides_in_profile county is profile)

    same : AreSame county (arranged county arrangement)
    same = record { by = renaming_of county arrangement; carries = carried }

pub least_arrangement-requires-clause-few : goal.least_arrangement-requires-clause-few
least_arrangement-requires-clause-few g c =
    few_in_profile (g.C.Chart.county c.args.chart) (g.met.C.Chart.is_county c.args.chart) c.requires.profile

pub least_arrangement-requires-clause-sides : goal.least_arrangement-requires-clause-sides
least_arrangement-requires-clause-sides g c =
    sides_in_profile (g.C.Chart.county c.args.chart) (g.met.C.Chart.is_county c.args.chart) c.requires.profile

pub arrange-requires-clause-sides : goal.arrange-requires-clause-sides
arrange-requires-clause-sides g c =
    sides_in_profile (g.C.Chart.county c.args.chart) (g.met.C.Chart.is_county c.args.chart) c.requires.profile

pub with_evidence-requires : goal.with_evidence-requires
with_evidence-requires g c =
    let county = g.C.Chart.county c.args.chart in
    let is = g.met.C.Chart.is_county c.args.chart in
    let view = c.in_ok-view.view in
    let arrangement = arrangement_of county c.in_ok-arrangement.arrangement.items in (
      subst IsCanonCounty (sym c.in_ok-view.ensures.county) (canonical county is c.requires.profile arrangement c.in_ok-arrangement.ensures.least),
      subst (λ source. AreSame (g.C.Chart.county source) (arranged_by (g.C.Chart.county view.chart) view.arrangement.items))
          (sym c.in_ok-view.ensures.source)
          (subst (AreSame county) (sym c.in_ok-view.ensures.county)
          (same county is c.requires.profile arrangement c.in_ok-arrangement.ensures.least)),
    )

pub returns-clause-source_county : goal.returns-clause-source_county
returns-clause-source_county g c = ap g.C.Chart.county (c.with_evidence.ensures.source ∙ c.in_ok-view.ensures.source)

pub returns-clause-county : goal.returns-clause-county
returns-clause-county g c =
    let canon = c.with_evidence.result in
    ap (λ county. arranged county (arrangement_of (g.C.Chart.county canon.chart) canon.arrangement.items)) (returns-clause-source_county g c)

pub returns-clause-choice : goal.returns-clause-choice
returns-clause-choice g c =
    let county = g.C.Chart.county c.args.chart in
    subst (IsLeastChoice county)
    (sym ((λ i. arrangement_of (g.C.Chart.county (c.with_evidence.ensures.source i)) (c.with_evidence.ensures.order i).items)
    ∙ (λ i. arrangement_of (g.C.Chart.county (c.in_ok-view.ensures.source i)) (c.in_ok-view.ensures.order i).items)))
    c.in_ok-arrangement.ensures.least

pub returns-clause-carried : goal.returns-clause-carried
returns-clause-carried g c =
    let county = g.C.Chart.county c.args.chart in
    let canon = c.with_evidence.result in
    let arrangement = arrangement_of (g.C.Chart.county canon.chart) canon.arrangement.items in
    subst (Carries (renaming_of county arrangement) county) (sym (returns-clause-county g c))
    (carried county (g.met.C.Chart.is_county c.args.chart) c.requires.profile arrangement (returns-clause-choice g c))

pub returns-clause-canonical : goal.returns-clause-canonical
returns-clause-canonical g c =
    let county = g.C.Chart.county c.args.chart in
    let canon = c.with_evidence.result in
    subst IsCanonCounty (sym (returns-clause-county g c))
    (canonical county (g.met.C.Chart.is_county c.args.chart) c.requires.profile
    (arrangement_of (g.C.Chart.county canon.chart) canon.arrangement.items) (returns-clause-choice g c))
