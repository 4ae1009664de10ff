use Rattle.arranged_county.proofs.Common.{Body7, List, ap₂, arith, bodies_at, drop, landmark_body_cmp, length, option_cmp, slice_cmp, slice_get, subst, suc, sym, ◌+◌, ◌<◌, ◌∙◌, ◌≡◌, ◌≤◌}
use Rattle.arranged_county.proofs.Lists.ItemByItem.{agrees_at, beginning_less, differs_at}
use Rattle.arranged_county.proofs.landmark_contents.cmp_bodies.Goals as goal

pub returns-in_default : goal.returns-in_default
returns-in_default g c =
    let xs : List Body7 = bodies_at (g.C.Chart.county c.args.chart.now) c.args.a in
    let ys : List Body7 = bodies_at (g.C.Chart.county c.args.chart.now) c.args.b in
    let answer : c.cmp_optional_body.result ≡ option_cmp landmark_body_cmp (slice_get xs c.loop-body.body) (slice_get ys c.loop-body.body) =
    c.cmp_optional_body.ensures ∙ ap₂ (option_cmp landmark_body_cmp) c.landmark_body_at.ensures c.landmark_body_at-in-loop-body.ensures in
    let within : c.loop-body.body < length xs = omega arith in
    answer ∙ differs_at landmark_body_cmp c.loop-body.body xs ys (slice_cmp landmark_body_cmp xs ys) within c.loop-body.invariant
    (λ same. c.in_default.not-Equal (answer ∙ same))

pub loop-body-preserved : goal.loop-body-preserved
loop-body-preserved g c =
    let xs : List Body7 = bodies_at (g.C.Chart.county c.args.chart.now) c.args.a in
    let ys : List Body7 = bodies_at (g.C.Chart.county c.args.chart.now) c.args.b in
    let answer : c.cmp_optional_body.result ≡ option_cmp landmark_body_cmp (slice_get xs c.loop-body.body) (slice_get ys c.loop-body.body) =
    c.cmp_optional_body.ensures ∙ ap₂ (option_cmp landmark_body_cmp) c.landmark_body_at.ensures c.landmark_body_at-in-loop-body.ensures in
    let within : c.loop-body.body < length xs = omega arith in
    let next : suc c.loop-body.body ≡ c.loop-body.body + 1 = omega arith in
    subst (λ n. slice_cmp landmark_body_cmp (drop n xs) (drop n ys) ≡ slice_cmp landmark_body_cmp xs ys) next
    (agrees_at landmark_body_cmp c.loop-body.body xs ys (slice_cmp landmark_body_cmp xs ys) within c.loop-body.invariant (sym answer
    ∙ c.in-Equal.is))

pub returns-then-count-body_count_at : goal.returns-then-count-body_count_at
returns-then-count-body_count_at g c =
    let xs : List Body7 = bodies_at (g.C.Chart.county c.args.chart.now) c.args.a in
    let ys : List Body7 = bodies_at (g.C.Chart.county c.args.chart.now) c.args.b in
    let past : length xs ≤ c.loop-body.body = omega arith in
    let more : c.loop-body.body < length ys = omega arith in
    beginning_less landmark_body_cmp c.loop-body.body xs ys (slice_cmp landmark_body_cmp xs ys) past more c.loop-body.invariant
