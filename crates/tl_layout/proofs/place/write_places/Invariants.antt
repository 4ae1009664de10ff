use Rattle.tl_layout.proofs.Common.{drop, length, places_text, take, ℕ, ◌*◌, ◌++◌, ◌+◌, ◌≡◌}
use Rattle.tl_layout.proofs.place.write_places.Given as goal

abbrev pub invariant-loop-place : goal.invariant-loop-place
invariant-loop-place g l = record {
  long : length l.out ≡ length l.initial.out;
  left : (n : ℕ) → n + l.place ≡ g.P.Places.COUNT → take (18 + l.place * g.P.Places.WIDTH) l.out ++ places_text g.P.Places.text n
      (drop l.place l.items) ≡ take 18 l.initial.out ++ places_text g.P.Places.text g.P.Places.COUNT l.items;
}
