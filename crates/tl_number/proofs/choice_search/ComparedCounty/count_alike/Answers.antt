use Rattle.tl_number.proofs.Common.{DirectedChain, ap, arith, false, get_or, length, rules, slice_get, slice_get-get_or, sym, true, ◌<◌, ◌∙◌, ◌≡◌}
use Rattle.tl_number.proofs.Choices.AlikeRanges.{sixes_next}
use Rattle.tl_number.proofs.Ties.ComparedChoices.{OrderedCounty, all_choices, count_in, directed_in}
use Rattle.tl_number.proofs.choice_search.ComparedCounty.count_alike.Given.{Over}
use Rattle.tl_number.proofs.choice_search.ComparedCounty.count_alike.Goals.{Start}
use Rattle.tl_number.proofs.choice_search.ComparedCounty.count_alike.Goals as goal

-- the county whose choices are compared
abbrev ordered : (g : Over) (c : Start g) → OrderedCounty
ordered g c = record {
  county = g.C.Chart.county c.args.self.now.classes.now.chart.now;
  shapes = c.args.self.now.shape_order.now;
  known = c.requires.known;
  is = g.met.C.Chart.is_county c.args.self.now.classes.now.chart.now;
  within = g.met.C.Chart.within_limits c.args.self.now.classes.now.chart.now;
}

pub bounds-others-place : goal.bounds-others-place
bounds-others-place g c =
    let o = ordered g (goal.at.bounds-others-place g c).Start in
    omega (
      arith,
      c.loop-place-test.true,
      ap length (c.directed_chains-chains.ensures ∙ c.requires.one.chains),
      ap length (c.directed_chains-others.ensures ∙ c.requires.other.chains),
      count_in (all_choices o) c.args.one.now.number,
      count_in (all_choices o) c.args.other.now.number,
    )

pub loop-place-preserved : goal.loop-place-preserved
loop-place-preserved g c =
    let o = ordered g (goal.at.loop-place-preserved g c).Start in
    let n = c.args.one.now.number in
    let k = c.args.other.now.number in
    let place = c.loop-place.place in
    let none : DirectedChain = record { place = 0; turned = false } in
    let chains = c.directed_chains-chains.result.now in
    let others = c.directed_chains-others.result.now in
    let one_is : chains ≡ directed_in (all_choices o) n = c.directed_chains-chains.ensures ∙ c.requires.one.chains in
    let other_is : others ≡ directed_in (all_choices o) k = c.directed_chains-others.ensures ∙ c.requires.other.chains in
    let there : place < length chains = omega (arith, c.loop-place-test.true) in
    let there_too : place < length others = omega (arith, there, ap length one_is, ap length other_is, count_in (all_choices o) n, count_in (all_choices o) k) in
    let holds : c.are_alike-same.result ≡ true = search rules in
    sixes_next o n k place (get_or chains place none) (get_or others place none)
    (sym (ap (λ them. slice_get them place) one_is) ∙ slice_get-get_or chains place none there)
    (sym (ap (λ them. slice_get them place) other_is) ∙ slice_get-get_or others place none there_too)
    (c.are_alike-same.ensures holds)
    c.loop-place.invariant
