use Rattle.tl_county.proofs.Common.{IfOk, IsInOrder, IsStrictlySortedBy, ap, in_order-filter, is_gt, key_cmp, map, map-id, on, p_key, polygon_body_of, strict_tail, subst, sym, ◌++◌, ◌∙◌, ◌∷◌, ◌≡◌}
use Rattle.tl_county.proofs.Lists.Groups.{polygons-paired, polygons-step}
use Rattle.tl_county.proofs.linking.building.polygon_bodies.Goals as goal

pub returns-then-have_same_keys : goal.returns-then-have_same_keys
returns-then-have_same_keys c =
    let points = c.args.points.now in
    let same : map p_key points ≡ c.args.polygons.now = c.have_same_keys.ensures c.if-have_same_keys.true ∙ map-id c.args.polygons.now in
    subst (λ all. IfOk c.point_bodies.result (λ bodies. bodies.items ≡ all))
    (polygons-paired points (subst (IsStrictlySortedBy key_cmp) (sym same) c.requires.polygons) ∙ ap (map (polygon_body_of points)) same)
    c.point_bodies.ensures

pub loop-key-preserved : goal.loop-key-preserved
loop-key-preserved c =
    let at = c.loop-key in
    let keys : at.keys.now ≡ c.in-Some.key.now ∷ c.in-Some.later.now = c.in-Some.ensures.cases.0 in
    let rest = c.split_group.ensures.later in
    record {
      ascending = strict_tail key_cmp c.in-Some.key.now c.in-Some.later.now
          (subst (IsStrictlySortedBy key_cmp) keys at.invariant.ascending);
      in_order = subst (IsInOrder (on p_key key_cmp)) (sym rest)
          (in_order-filter (on p_key key_cmp) (λ x. is_gt (key_cmp (p_key x) c.in-Some.key.now)) at.rest.now at.invariant.in_order);
      done = (λ i. c.in_ok-push.ensures.items i ++ map (polygon_body_of (rest i)) c.in-Some.later.now)
          ∙ polygons-step at.bodies.items _ c.in-Some.key.now c.in-Some.later.now at.keys.now at.rest.now c.split_group.result.0.now
          c.first_body.result
          c.split_group.ensures.group c.first_body.ensures keys at.invariant.ascending at.invariant.done;
    }
