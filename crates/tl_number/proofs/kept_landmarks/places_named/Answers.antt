use Rattle.tl_number.proofs.Common.{[], ap, arith, bodies_at, false, filter, has_name, length, range_with_len, rules, sym, true, ◌++◌, ◌∙◌, ◌∷◌, ◌≡◌}
use Rattle.tl_number.proofs.Ties.SearchSteps.{place_passed, place_taken}
use Rattle.tl_number.proofs.kept_landmarks.places_named.Goals as goal

pub loop-place-preserved-then-not-named : goal.loop-place-preserved-then-not-named
loop-place-preserved-then-not-named g c =
    let county = g.C.Chart.county c.args.chart.now in
    let fails : has_name c.args.names.now (bodies_at county c.loop-place.place) ≡ false = search rules in
    c.loop-place.invariant ∙ sym (place_passed (λ place. has_name c.args.names.now (bodies_at county place)) c.loop-place.place fails)

pub loop-place-preserved : goal.loop-place-preserved
loop-place-preserved g c =
    let county = g.C.Chart.county c.args.chart.now in
    let passes : has_name c.args.names.now (bodies_at county c.loop-place.place) ≡ true = search rules in
    c.in_ok-push.ensures.items ∙ ap (λ places. places ++ (c.loop-place.place ∷ [])) c.loop-place.invariant
    ∙ sym (place_taken (λ place. has_name c.args.names.now (bodies_at county place)) c.loop-place.place passes)

pub returns : goal.returns
returns g c =
    let county = g.C.Chart.county c.args.chart.now in
    let count : c.loop-place.place ≡ length county.landmarks =
    omega (arith, c.loop-place-test.false, c.loop-place.auto.place-end, c.landmark_count-place-end.ensures) in
    c.loop-place.invariant ∙ ap (λ count. filter (λ place. has_name c.args.names.now (bodies_at county place)) (range_with_len 0 count)) count
