-- the first chains have the same ranges
use Rattle.tl_number.proofs.Common.{chosen_county, take, type_6_by_chain, ◌≡◌}
use Rattle.tl_number.proofs.choice_search.ComparedCounty.count_alike.Given as goal

abbrev pub invariant-loop-place : goal.invariant-loop-place
invariant-loop-place g l = take l.place (type_6_by_chain (chosen_county (g.C.Chart.county l.self.classes.now.chart.now) l.one.number))
    ≡ take l.place (type_6_by_chain (chosen_county (g.C.Chart.county l.self.classes.now.chart.now) l.other.number))
