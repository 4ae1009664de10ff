use Rattle.record_groups.proofs.Common.{AreTiedAt, DirectedChain, List, ap₂, arith, arranged_by, below_more, false, get_or, length, ones_of, option_cmp, slice_get, slice_get-get_or, spelling_cmp, sym, ◌<◌, ◌∙◌, ◌≡◌}
use Rattle.record_groups.proofs.Texts.TypeOnes.{length_whole, ones_arranged_by}
use Rattle.record_groups.proofs.Texts.TiedOnes.{first_untied}
use Rattle.record_groups.proofs.type_1_order.compare_at_open.Given.{Over}
use Rattle.record_groups.proofs.type_1_order.compare_at_open.Goals.{After-compare_at}
use Rattle.record_groups.proofs.type_1_order.compare_at_open.Goals as goal

-- what was compared are the records of the two arrangements
compared : (g : Over) (c : After-compare_at g) → c.compare_at.result ≡ option_cmp spelling_cmp
    (slice_get (ones_of (arranged_by (g.C.Chart.county c.args.chart.now) c.args.one.now)) c.loop-place.place)
    (slice_get (ones_of (arranged_by (g.C.Chart.county c.args.chart.now) c.args.other.now)) c.loop-place.place)
compared g c =
    let county = g.C.Chart.county c.args.chart.now in
    let is = g.met.C.Chart.is_county c.args.chart.now in
    let i = c.loop-place.place in
    let none : DirectedChain = record { place = 0; turned = false } in
    let there : i < length c.args.one.now = omega (arith, c.loop-place-test.true, c.requires.within.there) in
    c.compare_at.ensures
    ∙ sym (ap₂ (option_cmp spelling_cmp)
    (ones_arranged_by county c.args.one.now is c.requires.one i (get_or c.args.one.now i none) (slice_get-get_or c.args.one.now i none there))
    (ones_arranged_by county c.args.other.now is c.requires.other i (get_or c.args.other.now i none)
    (slice_get-get_or c.args.other.now i none (omega (arith, there, c.requires.count)))))

pub compare_at-requires-clause-place : goal.compare_at-requires-clause-place
compare_at-requires-clause-place g c =
    let county = g.C.Chart.county c.args.chart.now in
    omega (
      arith,
      c.loop-place-test.true,
      c.requires.within.there,
      length_whole county c.args.one.now (g.met.C.Chart.is_county c.args.chart.now) c.requires.one,
    )

pub returns-in_default-clause-untied : goal.returns-in_default-clause-untied
returns-in_default-clause-untied g c =
    let answer = compared g (goal.at.returns-in_default-clause-untied g c).After-compare_at in
    λ differ. answer ∙ first_untied _ _ c.loop-place.place c.loop-place.invariant (λ same. c.in_default.not-Equal (answer ∙ same))

pub loop-place-preserved : goal.loop-place-preserved
loop-place-preserved g c =
    let ones = λ (arrangement : List DirectedChain). ones_of (arranged_by (g.C.Chart.county c.args.chart.now) arrangement) in
    below_more (AreTiedAt (ones c.args.one.now) (ones c.args.other.now)) c.loop-place.place c.loop-place.invariant
    (sym (compared g (goal.at.loop-place-preserved g c).After-compare_at) ∙ c.in-Equal.is)
