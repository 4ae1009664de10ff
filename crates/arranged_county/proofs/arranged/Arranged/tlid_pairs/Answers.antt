use Rattle.arranged_county.proofs.Common.{ap, arranged_tlids, arrangement_of, numbered, turned_tlids, ◌∙◌}
use Rattle.canonical_form.specs.Arrangement.{renaming_of}
use Rattle.arranged_county.proofs.arranged.Arranged.tlid_pairs.Goals as goal

pub returns-clause-chains : goal.returns-clause-chains
unfolding renaming_of
returns-clause-chains g c =
    let county = g.C.Chart.county c.args.self.now.chart in
    c.in_ok-chains.ensures ∙ ap numbered (c.deref-2.ensures.value ∙ c.in_ok-tlids.ensures
    ∙ ap (λ arrangement. arranged_tlids (arrangement_of county arrangement)) c.deref.ensures.value)

pub returns-clause-turned : goal.returns-clause-turned
unfolding renaming_of
returns-clause-turned g c =
    let county = g.C.Chart.county c.args.self.now.chart in
    c.in_ok-turned.ensures ∙ ap (λ arrangement. turned_tlids (arrangement_of county arrangement)) c.deref-3.ensures.value
