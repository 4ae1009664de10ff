-- The items read so far, followed by the items of the remaining places, are the reading of all places.
use Rattle.tl_layout.proofs.Common.{false, length, places_reading, ℕ, ◌*◌, ◌+◌, ◌≡◌, ◌≤◌}
use Rattle.tl_layout.proofs.PlaceSteps.{with_front}
use Rattle.tl_layout.proofs.place.read_places.Given as goal

abbrev pub invariant-loop-place : goal.invariant-loop-place
invariant-loop-place g l = record {
  held : length (g.P.Places.items l.items) ≤ l._place;
  behind : 19 ≤ l.column;
  columns : (n : ℕ) → n + l._place ≡ l.count → l.column + n * l.width ≡ 19 + l.count * l.width;
  left : (n : ℕ) → n + l._place ≡ l.count → with_front (g.P.Places.items l.items)
      (places_reading (g.P.Places.reading l.line) l.width l.unused n l.column) ≡ places_reading
      (g.P.Places.reading l.line) l.width false l.count 19;
}
