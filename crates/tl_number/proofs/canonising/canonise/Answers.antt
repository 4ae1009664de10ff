use Rattle.tl_number.proofs.Common.{Carries, County, Err, IfOk, IfOk-weaker, IsCanonCounty, IsLeastChoice, Ok, Result, ap, arranged, arranged_county, arrangement_in, renaming_of, source_of, subst, sym, ◌∙◌, ◌≡◌}
use Rattle.tl_number.proofs.canonising.canonise.Goals as goal

-- what holds for a value holds for it with any other value
with_other : {A B E : Type 0} (a : A) (pair : Result (A × B) E) (P : A → Type 0)
    → IfOk pair (λ p. p.0 ≡ a) → P a → IfOk pair (λ p. P p.0)
with_other a pair P is h = IfOk-weaker pair (λ p. p.0 ≡ a) (λ p. P p.0) (λ p e. subst P (sym e) h) is

-- and a property of both
with_both : {A B E : Type 0} (a : A) (r : Result B E) (pair : Result (A × B) E) (P : A → B → Type 0)
    → IfOk pair (λ p. p.0 ≡ a) → IfOk pair (λ p. r ≡ Ok p.1) → IfOk r (P a) → IfOk pair (λ p. P p.0 p.1)
with_both a r (Ok (b, c)) P first second h = subst (λ x. P x c) (sym first) (subst (λ o. IfOk o (P a)) second h)
with_both a r (Err e) P first second h = tt

pub returns-clause-source : goal.returns-clause-source
returns-clause-source g c =
    let county : County = g.C.Chart.county c.args.admitted in
    with_other c.in_ok-canon.canon c.both.result
    (λ view. g.C.Chart.county (source_of view) ≡ county) c.both.ensures.first c.in_ok-canon.ensures.source_county

pub returns-clause-county : goal.returns-clause-county
returns-clause-county g c =
    let county : County = g.C.Chart.county c.args.admitted in
    with_other c.in_ok-canon.canon c.both.result
    (λ view. arranged_county view ≡ arranged county (arrangement_in view)) c.both.ensures.first c.in_ok-canon.ensures.county

pub returns-clause-choice : goal.returns-clause-choice
returns-clause-choice g c =
    let county : County = g.C.Chart.county c.args.admitted in
    with_other c.in_ok-canon.canon c.both.result
    (λ view. IsLeastChoice county (arrangement_in view)) c.both.ensures.first c.in_ok-canon.ensures.choice

pub returns-clause-renaming : goal.returns-clause-renaming
returns-clause-renaming g c =
    let county : County = g.C.Chart.county c.args.admitted in
    let arrangement = arrangement_in c.in_ok-canon.canon in
    with_both c.in_ok-canon.canon c.renaming-renaming.result c.both.result
    (λ view r. r ≡ renaming_of county (arrangement_in view)) c.both.ensures.first c.both.ensures.second
    (IfOk-weaker c.renaming-renaming.result _ _
    (λ r is. is ∙ ap (λ (from : County). renaming_of from arrangement) c.in_ok-canon.ensures.source_county) c.renaming-renaming.ensures.value)

pub returns-clause-carried : goal.returns-clause-carried
returns-clause-carried g c =
    let county : County = g.C.Chart.county c.args.admitted in
    let canon : County = arranged_county c.in_ok-canon.canon in
    with_both c.in_ok-canon.canon c.renaming-renaming.result c.both.result
    (λ view r. Carries r county (arranged_county view)) c.both.ensures.first c.both.ensures.second
    (IfOk-weaker c.renaming-renaming.result _ _
    (λ r carries. subst (λ (from : County). Carries r from canon) c.in_ok-canon.ensures.source_county carries)
    c.renaming-renaming.ensures.carries)

pub returns-clause-canonical : goal.returns-clause-canonical
returns-clause-canonical g c =
    with_other c.in_ok-canon.canon c.both.result
    (λ view. IsCanonCounty (arranged_county view)) c.both.ensures.first c.in_ok-canon.ensures.canonical
