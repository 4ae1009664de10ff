use Rattle.tl_county.proofs.Common.{List, ap, distinct, distinct-strict, entries-equal, keys-map_values, landmark_of, map, map-id, map-map, map_values, nat_cmp, nat_keys, rules, seven_land, sym, values-map_values, ℕ, ◌∙◌, ◌≡◌}
use Rattle.tl_county.proofs.Rules.TlidsInOrder.{tables_in_order}
use Rattle.tl_county.proofs.linking.build_landmarks.Goals as goal

pub lands_of-requires : goal.lands_of-requires
lands_of-requires g c = search (rules, tables_in_order)

pub landmarks_of-requires-clause-lands : goal.landmarks_of-requires-clause-lands
landmarks_of-requires-clause-lands g c = search (rules, distinct-strict, nat_keys)

pub landmarks_of-requires-clause-landmarks : goal.landmarks_of-requires-clause-landmarks
landmarks_of-requires-clause-landmarks g c = search (rules, tables_in_order)

pub landmarks_of-requires-clause-links : goal.landmarks_of-requires-clause-links
landmarks_of-requires-clause-links g c = search (rules, tables_in_order)

pub new-requires-clause-ascending : goal.new-requires-clause-ascending
new-requires-clause-ascending g c = search (rules, distinct-strict, nat_keys)

pub returns : goal.returns
returns g c =
    let sevens = c.args.tables.now.records.type_7.items in
    let eights = c.args.tables.now.records.type_8.items in
    let lands : List ℕ = distinct nat_cmp (map seven_land sevens) in
    let found : c.in_ok-lands.lands.items ≡ lands = c.in_ok-lands.ensures
    ∙ ap (λ l. distinct nat_cmp (map seven_land l)) c.deref.ensures.value in
    let f = g.L.StoredLandmark.landmark in
    entries-equal (map_values f c.new.result) (map (λ land. (land, landmark_of sevens eights land)) lands)
    (keys-map_values f c.new.result ∙ c.new.ensures.keys ∙ found
    ∙ sym (map-map (λ e. e.0) (λ land. (land, landmark_of sevens eights land)) lands ∙ map-id lands))
    (values-map_values f c.new.result ∙ ap (map f) c.new.ensures.values ∙ c.in_ok-landmarks.ensures
    ∙ (λ i. map (landmark_of (c.deref-3.ensures.value i) (c.deref-4.ensures.value i)) ((c.deref-2.ensures.value ∙ found) i))
    ∙ sym (map-map (λ e. e.1) (λ land. (land, landmark_of sevens eights land)) lands))
