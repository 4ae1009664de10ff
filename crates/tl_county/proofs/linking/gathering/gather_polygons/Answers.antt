use Rattle.tl_county.proofs.Common.{IsInOrder, IsLeastPassing, List, PolygonKey, ap, contains-distinct, distinct, distinct-in_order, distinct_same, flat_map, is_unknown, key_cmp, key_keys, least-same, map, p_key, side_keys, subst, sym, ◌++◌, ◌∙◌, ◌≡◌}
use Rattle.tl_county.proofs.ByKey.DistinctKeys.{distinct-more}
use Rattle.tl_county.proofs.ByKey.PolygonSets.{keys_themselves}
use Rattle.tl_county.proofs.Rules.WithoutChain.{distinct-all_known, none_passes, unknown-distinct}
use Rattle.tl_county.proofs.linking.gathering.gather_polygons.Goals as goal
use Rattle.tl_county.proofs.linking.gathering.gather_polygons.Goals.{else-is_some, then-is_some+in_ok-push_points+in_ok-cenids-2+in_ok-keys-2}

pub least_absent-without_side-requires-clause-known : goal.least_absent-without_side-requires-clause-known
least_absent-without_side-requires-clause-known c =
    subst (IsInOrder key_cmp) (sym (c.deref.ensures.value ∙ c.in_ok-keys.ensures))
    (distinct-in_order key_keys (flat_map side_keys c.args.sides.now))

pub returns-clause-keys : goal.returns-clause-keys
returns-clause-keys c =
    let sides : List PolygonKey = flat_map side_keys c.args.sides.now in
    let points : List PolygonKey = map p_key c.args.points.now in
    let met : c.in_ok-keys.keys.items ≡ distinct key_cmp sides = c.in_ok-keys.ensures in
    elim c.if-is_some.branch [
      | then-is_some+in_ok-push_points+in_ok-cenids-2+in_ok-keys-2 w ↦
          ap (λ keys. keys.items) w.keys-is
          ∙ w.in_ok-keys-2.ensures
          ∙ ap (distinct key_cmp) (keys_themselves w.deref-then-is_some-2.result.now ∙ w.deref-then-is_some-2.ensures.value ∙
          w.in_ok-push_points.ensures ∙ ap (λ keys. keys ++ points) met)
          ∙ distinct-more key_keys (distinct key_cmp sides) sides points
          (distinct_same key_keys (distinct key_cmp sides) sides (λ k. contains-distinct key_keys k sides))
      | else-is_some w ↦
          let least : IsLeastPassing key_cmp (is_unknown key_cmp points sides) c.least_absent-without_side.result =
          least-same key_cmp (is_unknown key_cmp points (map (λ k. k) c.deref.result.now)) (is_unknown key_cmp points sides)
          (unknown-distinct key_keys points sides c.deref.result.now (c.deref.ensures.value ∙ met)) c.least_absent-without_side.result
          c.least_absent-without_side.ensures in
          ap (λ keys. keys.items) w.keys-is
          ∙ met
          ∙ distinct-all_known key_keys sides points
          (none_passes key_cmp (is_unknown key_cmp points sides) c.least_absent-without_side.result
          (sym c.is_some.ensures ∙ w.if-is_some.false) least)
    ]

pub returns-clause-without_side : goal.returns-clause-without_side
returns-clause-without_side c =
    let sides : List PolygonKey = flat_map side_keys c.args.sides.now in
    let points : List PolygonKey = map p_key c.args.points.now in
    let met : c.in_ok-keys.keys.items ≡ distinct key_cmp sides = c.in_ok-keys.ensures in
    least-same key_cmp (is_unknown key_cmp points (map (λ k. k) c.deref.result.now)) (is_unknown key_cmp points sides)
    (unknown-distinct key_keys points sides c.deref.result.now (c.deref.ensures.value ∙ met)) c.least_absent-without_side.result
    c.least_absent-without_side.ensures
