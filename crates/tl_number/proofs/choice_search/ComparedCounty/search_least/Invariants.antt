-- the choice with the least text among those so far, which has the records of type 1 that all have
use Rattle.tl_number.proofs.Common.{AllByRecursion, Equal, IsArrangedChoice, contains, nat_cmp, ones_cmp, take, true, ◌≡◌}
use Rattle.tl_number.specs.LeastOnes.{IsLeastAmong}
use Rattle.tl_number.proofs.choice_search.ComparedCounty.search_least.Given as goal

abbrev pub invariant-loop-place : goal.invariant-loop-place
invariant-loop-place g l = record {
  arranged : IsArrangedChoice (g.C.Chart.county l.self.classes.now.chart.now) l.self.shape_order.now l.least;
  least : IsLeastAmong (g.C.Chart.county l.self.classes.now.chart.now) (take l.place l.numbers) l.least.number;
  there : contains nat_cmp l.least.number l.numbers ≡ true;
  tied : AllByRecursion (λ m. ones_cmp (g.C.Chart.county l.self.classes.now.chart.now) l.least.number m ≡ Equal) l.numbers;
}
