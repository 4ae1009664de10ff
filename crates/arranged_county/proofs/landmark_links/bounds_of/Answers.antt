use Rattle.arranged_county.proofs.Common.{IsInOrder, [], ap₂, arith, eight_land, in_order-filter, is_gt, links_up_to, map-range_with_len_more, nat_cmp, on, subst, sym, ◌++◌, ◌∙◌, ◌∷◌}
use Rattle.arranged_county.proofs.Landmarks.LandmarkLinks.{bound_stated, fewer_later, later_next}
use Rattle.arranged_county.proofs.landmark_links.bounds_of.Goals as goal

pub overflow_sub-links : goal.overflow_sub-links
overflow_sub-links c =
    fewer_later c.args.links.now c.loop-land.rest.now c.split_group.result.1.now c.loop-land.land c.loop-land.invariant.later
    c.split_group.ensures.later

pub loop-land-preserved : goal.loop-land-preserved
loop-land-preserved c = record {
  bounds = c.in_ok-push.ensures.items
      ∙ ap₂ (λ bounds bound. bounds ++ (bound ∷ [])) c.loop-land.invariant.bounds
      (bound_stated c.args.links.now c.loop-land.rest.now c.split_group.result.1.now c.loop-land.land c.loop-land.invariant.later
      c.split_group.ensures.later)
      ∙ sym (map-range_with_len_more (links_up_to c.args.links.now) 0 c.loop-land.land c.loop-land.land (omega arith));
  in_order = subst (IsInOrder (on eight_land nat_cmp)) (sym c.split_group.ensures.later)
      (in_order-filter (on eight_land nat_cmp) (λ link. is_gt (nat_cmp (eight_land link) c.loop-land.land)) c.loop-land.rest.now
      c.loop-land.invariant.in_order);
  later = later_next c.args.links.now c.loop-land.rest.now c.split_group.result.1.now c.loop-land.land c.loop-land.invariant.later
      c.split_group.ensures.later;
}
