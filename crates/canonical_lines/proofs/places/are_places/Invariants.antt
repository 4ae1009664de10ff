use Rattle.std.proofs.Common.{drop, ◌*◌, ◌-◌, ◌≤◌}
use Rattle.canonical_lines.proofs.PlaceSteps.{ArePlaces}
use Rattle.canonical_lines.proofs.places.are_places.Given as goal

-- the places behind are tested
abbrev pub invariant-loop-place : goal.invariant-loop-place
invariant-loop-place g l = record {
  within : l.place ≤ g.P.LinePlaces.COUNT;
  held : ArePlaces g.P.LinePlaces.Fits g.P.LinePlaces.text (g.P.LinePlaces.COUNT - l.place) l.used (drop (l.width * l.place) l.columns);
}

abbrev pub decreases-loop-place : goal.decreases-loop-place
decreases-loop-place g l = l.place
