-- The contents so far are under the mask, and the others stand as they stood.
use Rattle.county_chart.proofs.Common.{drop, map, masked_body_7, take, ◌++◌, ◌≡◌}
use Rattle.county_chart.proofs.masked_bodies.blank_bodies.Given as goal

abbrev pub invariant-loop-body : goal.invariant-loop-body
invariant-loop-body l = l.bodies ≡ map (masked_body_7 l.mask) (take l.body-index l.initial.bodies) ++ drop l.body-index l.initial.bodies
