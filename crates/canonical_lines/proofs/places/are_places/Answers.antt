use Rattle.canonical_lines.proofs.Common.{arith, drop, drop_all, false, refl, subst, ℕ, ◌*◌, ◌-◌, ◌≡◌}
use Rattle.canonical_lines.proofs.PlaceSteps.{ArePlaces, no_places, unused_at, used_at}
use Rattle.canonical_lines.proofs.places.are_places.Goals as goal

pub loop-place-init : goal.loop-place-init
loop-place-init g c =
    let rest = drop (c.WIDTH-width.result * c.COUNT-place.result) c.args.columns.now in
    let none : 0 ≡ g.P.LinePlaces.COUNT - c.COUNT-place.result = omega arith in
    let all : c.WIDTH-width.result * c.COUNT-place.result ≡ g.P.LinePlaces.WIDTH * g.P.LinePlaces.COUNT =
    rw (c.WIDTH-width.ensures, c.COUNT-place.ensures) refl in
    record {
      within = omega arith;
      held = subst (λ (n : ℕ). ArePlaces g.P.LinePlaces.Fits g.P.LinePlaces.text n false rest) none
          (no_places g.P.LinePlaces.Fits g.P.LinePlaces.text false rest (drop_all _ c.args.columns.now (omega arith)));
    }

pub loop-place-preserved-in-loop-place : goal.loop-place-preserved-in-loop-place
loop-place-preserved-in-loop-place g c = record {
  within = omega arith;
  held = used_at g.P.LinePlaces.Fits g.P.LinePlaces.text c.WIDTH-width.result g.P.LinePlaces.COUNT c.loop-place.place c.loop-place.used c.args.columns.now
      (omega arith) (omega arith) (c.if-not-is_used.ensures refl) c.loop-place.invariant.held;
}

pub loop-place-preserved : goal.loop-place-preserved
loop-place-preserved g c = record {
  within = omega arith;
  held = unused_at g.P.LinePlaces.Fits g.P.LinePlaces.text c.WIDTH-width.result g.P.LinePlaces.COUNT c.loop-place.place c.loop-place.used c.args.columns.now
      (omega arith) (omega arith) c.if-used.false (c.if-not-is_unused.ensures refl) c.loop-place.invariant.held;
}
