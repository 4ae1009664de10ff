use Rattle.county_chart.proofs.Profile.ProfileFaults.{profile_has_none}
use Rattle.tl_profile.proofs.admission.admit_linked.Goals as goal

pub returns-in_err-refuse_without_chain-clause-succeeds : goal.returns-in_err-refuse_without_chain-clause-succeeds
returns-in_err-refuse_without_chain-clause-succeeds g c within =
    let county = g.C.Chart.county c.args.chart in
    absurd (profile_has_none county c.in_err-refuse_without_chain.field-0.0 within
    (c.in_err-refuse_without_chain.ensures.broken county c.requires))
