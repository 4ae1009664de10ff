use Rattle.tl_number.proofs.Common.{Carries, County, IfOk-weaker, arranged_county, carried_masked, masked, masked_twice, subst}
use Rattle.tl_number.proofs.masking.canonise_masked.Goals as goal

pub returns-clause-own : goal.returns-clause-own
returns-clause-own g c =
    let seen : County = masked c.args.mask (g.C.Chart.county c.args.admitted) in
    IfOk-weaker c.canonise.result _ _
    (λ pair carries. carried_masked c.args.mask pair.1 seen (arranged_county pair.0)
    (subst (λ (county : County). Carries pair.1 county (arranged_county pair.0)) c.in_ok-admitted_masked.ensures.county carries)
    (masked_twice c.args.mask (g.C.Chart.county c.args.admitted)))
    c.canonise.ensures.carried
