use Rattle.std.proofs.Common.{ap, arith, sym, ◌*◌, ◌∙◌, ◌≡◌}
use Rattle.tl_number.specs.ShapeDigits.{ways_of}
use Rattle.county_chart.specs.Choices.{ways_at}
use Rattle.tl_number.proofs.type_1_choices.count_ways.Goals as goal

pub loop-at-preserved : goal.loop-at-preserved
loop-at-preserved c =
    let at = c.in-Some.at.now in
    let behind = c.in-Some.behind.now in
    let parts : c.loop-at.ways * (at.alike * ways_at at) * ways_of behind ≡ c.loop-at.ways * (at.alike * ways_at at * ways_of behind) = grind arith in
    (λ i. c.loop-at.ways * (c.from.ensures i * c.ways.ensures i) * ways_of behind)
    ∙ parts ∙ ap (λ places. c.loop-at.ways * ways_of places) (sym c.in-Some.ensures.cases.0) ∙ c.loop-at.invariant
