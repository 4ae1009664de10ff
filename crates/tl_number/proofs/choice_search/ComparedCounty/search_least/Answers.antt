use Rattle.tl_number.proofs.Common.{AllByRecursion, Equal, List, Some, among-get, among_known, arith, choices_cmp, contains, get_or, is_gt, lt-ltb, nat_cmp, nat_keys, ones_cmp, slice_get, slice_get-get_or, subst, sym, take, times, true, ℕ, ◌+◌, ◌≡◌}
use Rattle.ordered_lists.proofs.Lists.ByPlace.{all-get}
use Rattle.tl_number.specs.LeastOnes.{IsLeastAmong}
use Rattle.tl_number.proofs.Choices.ChoiceSteps.{lesser_least, of_each}
use Rattle.tl_number.proofs.Choices.LeastBelow.{first_contained}
use Rattle.tl_number.proofs.Choices.LeastNumbers.{first_among}
use Rattle.tl_number.proofs.choice_search.ComparedCounty.search_least.Goals as goal

pub loop-place-init : goal.loop-place-init
loop-place-init g c =
    let county = g.C.Chart.county c.args.self.now.classes.now.chart.now in
    let numbers = c.args.numbers.now in
    record {
      arranged = c.in_ok-least.ensures.arranged;
      least = subst (IsLeastAmong county (take 1 numbers)) (sym c.in_ok-least.ensures.number) (first_among county numbers c.requires.some);
      there = subst (λ n. contains nat_cmp n numbers ≡ true) (sym c.in_ok-least.ensures.number) (first_contained numbers c.requires.some);
      tied = subst (λ n. AllByRecursion (λ m. ones_cmp county n m ≡ Equal) numbers) (sym c.in_ok-least.ensures.number)
          (all-get (λ n. AllByRecursion (λ m. ones_cmp county n m ≡ Equal) numbers) numbers 0 (get_or numbers 0 0) c.requires.ones
          (slice_get-get_or numbers 0 0 c.requires.some));
    }

pub lesser_with-requires-clause-ones : goal.lesser_with-requires-clause-ones
lesser_with-requires-clause-ones g c =
    let county = g.C.Chart.county c.args.self.now.classes.now.chart.now in
    let numbers = c.args.numbers.now in
    let place = c.loop-place.place in
    all-get (λ m. ones_cmp county c.loop-place.least.number m ≡ Equal) numbers place (get_or numbers place 0) c.loop-place.invariant.tied
    (slice_get-get_or numbers place 0 (omega (arith, c.loop-place-test.true)))

pub loop-place-preserved : goal.loop-place-preserved
loop-place-preserved g c =
    let county = g.C.Chart.county c.args.self.now.classes.now.chart.now in
    let numbers : List ℕ = c.args.numbers.now in
    let place = c.loop-place.place in
    let old = c.loop-place.least.number in
    let next : ℕ = get_or numbers place 0 in
    let there : slice_get numbers place ≡ Some next = slice_get-get_or numbers place 0 (omega (arith, c.loop-place-test.true)) in
    record {
      arranged = c.in_ok-least-2.ensures.arranged;
      least = subst (IsLeastAmong county (take (place + 1) numbers)) (sym c.in_ok-least-2.ensures.number)
          (lesser_least county numbers place old next there c.loop-place.invariant.least);
      there = subst (λ n. contains nat_cmp n numbers ≡ true) (sym c.in_ok-least-2.ensures.number)
          (of_each (λ n (_ : ℕ). contains nat_cmp n numbers ≡ true) (is_gt (choices_cmp county old next)) next old 0 0
          (lt-ltb 0 (times nat_cmp next numbers) (among_known nat_keys next numbers (among-get numbers place next there)))
          c.loop-place.invariant.there);
      tied = subst (λ n. AllByRecursion (λ m. ones_cmp county n m ≡ Equal) numbers) (sym c.in_ok-least-2.ensures.number)
          (of_each (λ n (_ : ℕ). AllByRecursion (λ m. ones_cmp county n m ≡ Equal) numbers) (is_gt (choices_cmp county old next)) next old 0 0
          (all-get (λ n. AllByRecursion (λ m. ones_cmp county n m ≡ Equal) numbers) numbers place next c.requires.ones there)
          c.loop-place.invariant.tied);
    }
