use Rattle.tl_number.proofs.Common.{AgreeApart, AreWithin, ap, length, moved_apart, moved_count, other_way, slice_get, subst, sym, ◌∙◌}
use Rattle.tl_number.proofs.numbered_arrangement.NumberedArrangement.choose_again.Goals as goal

pub put_back-requires : goal.put_back-requires
put_back-requires c =
    let by_shape = c.args.shape_order.now.by_shape in
    let places = c.args.shape_order.now.places in
    let number = c.args.self.now.number in
    let stated = c.as_mut_slice-chains.ensures.value ∙ c.requires.chosen in
    let count = ap length stated ∙ moved_count other_way places by_shape number c.requires.within in
    record {
      within = subst (λ n. AreWithin n c.open_places-places.result.now) (sym count)
          (subst (AreWithin (length by_shape)) (sym c.open_places-places.ensures) c.requires.within);
      count = count ∙ sym (ap length c.by_shape.ensures);
      apart = subst (λ all. AgreeApart all c.as_mut_slice-chains.result.now c.by_shape.result.now) (sym c.open_places-places.ensures)
          (λ place apart. ap (λ all. slice_get all place) stated ∙ moved_apart other_way places by_shape number c.requires.within place apart
          ∙ sym (ap (λ all. slice_get all place) c.by_shape.ensures));
    }

pub choose-requires : goal.choose-requires
choose-requires c =
    subst (λ n. AreWithin n c.open_places-places.result.now) (sym (ap length (c.put_back.ensures ∙ c.by_shape.ensures)))
    (subst (AreWithin (length c.args.shape_order.now.by_shape)) (sym c.open_places-places.ensures) c.requires.within)
