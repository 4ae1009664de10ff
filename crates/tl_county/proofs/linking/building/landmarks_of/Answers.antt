use Rattle.tl_county.proofs.Common.{IsInOrder, IsStrictlySortedBy, [], ap, eight_land, in_order-filter, is_gt, landmark_of, map, map-append, nat_cmp, on, refl, seven_land, strict_tail, subst, sym, ◌++◌, ◌∙◌, ◌∷◌, ◌≡◌}
use Rattle.tl_county.proofs.Lists.Groups.{landmarks-step}
use Rattle.tl_county.proofs.linking.building.landmarks_of.Goals as goal

pub loop-land-preserved : goal.loop-land-preserved
loop-land-preserved g c =
    let f = g.L.StoredLandmark.landmark in
    let at = c.loop-land in
    let lands : at.lands.now ≡ c.in-Some.land.now ∷ c.in-Some.later.now = c.in-Some.ensures.cases.0 in
    let landmarks = c.split_group.ensures.later in
    let links = c.split_group-in-Some.ensures.later in
    record {
      lands = strict_tail nat_cmp c.in-Some.land.now c.in-Some.later.now (subst (IsStrictlySortedBy nat_cmp) lands at.invariant.lands);
      landmarks = subst (IsInOrder (on seven_land nat_cmp)) (sym landmarks)
          (in_order-filter (on seven_land nat_cmp)
          (λ x. is_gt (nat_cmp (seven_land x) c.in-Some.land.now)) at.landmarks.now at.invariant.landmarks);
      links = subst (IsInOrder (on eight_land nat_cmp)) (sym links)
          (in_order-filter (on eight_land nat_cmp)
          (λ x. is_gt (nat_cmp (eight_land x) c.in-Some.land.now)) at.links.now at.invariant.links);
      done = (λ i. (ap (map f) c.in_ok-push.ensures.items ∙ map-append f at.found.items (c.in_ok-build_landmark.field-0 ∷ [])) i
          ++ map (landmark_of (landmarks i) (links i)) c.in-Some.later.now)
          ∙ landmarks-step (map f at.found.items) _ c.in-Some.land.now c.in-Some.later.now at.lands.now at.landmarks.now
          c.split_group.result.0.now
          at.links.now c.split_group-in-Some.result.0.now _ (f c.in_ok-build_landmark.field-0)
          c.split_group.ensures.group c.split_group-in-Some.ensures.group refl c.in_ok-build_landmark.ensures lands at.invariant.lands
          at.invariant.done;
    }
