-- The places were written one after another.
use Rattle.tl_layout.proofs.Common.{ap, arith, places_text, subst, suc, take, ℕ, ◌*◌, ◌++◌, ◌+◌, ◌∙◌, ◌≡◌}
use Rattle.tl_layout.proofs.PlaceWrites.{all_written, place_written}
use Rattle.tl_layout.proofs.place.write_places.Goals as goal

pub loop-place-preserved : goal.loop-place-preserved
loop-place-preserved g c = record {
  long = c.write_item.auto.out ∙ c.loop-place.invariant.long;
  left = λ n h.
      let place = c.loop-place.place in
      place_written g.P.Places.text n place (place + 1) c.args.items.now _ _ _ (c.loop-place.invariant.left (suc n) (omega arith))
      (c.write_item.ensures ∙ ap (λ item. take (18 + place * g.P.Places.WIDTH) c.loop-place.out ++ g.P.Places.text item) c.item_at.ensures)
      (omega arith);
}

pub returns : goal.returns
returns g c =
    let last : c.loop-place.place ≡ g.P.Places.COUNT = omega arith in
    let P : ℕ → Type 0 = λ k. take (18 + k * g.P.Places.WIDTH) c.loop-place.out
    ≡ take 18 c.args.out.now ++ places_text g.P.Places.text g.P.Places.COUNT c.args.items.now in
    subst P last (all_written g.P.Places.text _ _ _ (c.loop-place.invariant.left 0 (omega arith)))
