use Rattle.tl_number.proofs.Common.{AreWithin, County, DirectedChain, IfOk-weaker, List, OpenPlace, PolygonKey, ap, chain_polygons, directed_chain, false, flat_map, key_cmp, keys_along, length, length-map, moves_polygons, option_to_list, rules, subst, sym, true, ℕ, ◌∙◌, ◌≡◌}
use Rattle.std.specs.List.{list_any}
use Rattle.tl_number.specs.MovedKeys.{moves_keys}
use Rattle.tl_number.proofs.Ties.KeptLandmarks.{named_kept, none_kept}
use Rattle.tl_number.proofs.kept_landmarks.kept_landmarks.Goals as goal

-- the polygons of a directed chain
abbrev polygons_of : County → DirectedChain → List PolygonKey
polygons_of county directed = flat_map chain_polygons (option_to_list (directed_chain county directed))

pub any_moves_keys-requires : goal.any_moves_keys-requires
any_moves_keys-requires g c =
    subst (λ (p : ℕ × List OpenPlace). AreWithin p.0 p.1)
    (λ i. (
      sym (length-map c.by_shape.result.now (polygons_of (g.C.Chart.county c.args.chart.now)) ∙ ap length c.by_shape.ensures) i,
      sym c.open_places.ensures i,
    )) c.requires.within

pub returns-then-not-moves : goal.returns-then-not-moves
returns-then-not-moves g c =
    let county = g.C.Chart.county c.args.chart.now in
    let shapes = c.args.still_open.now in
    let still : c.in_ok-moves.moves ≡ false = search rules in
    let same : c.in_ok-moves.moves ≡ moves_polygons county shapes =
    c.in_ok-moves.ensures ∙ (λ i. list_any (moves_keys key_cmp (keys_along chain_polygons county (c.by_shape.ensures i))) (c.open_places.ensures i)) in
    c.new.ensures.items ∙ sym (none_kept county shapes (sym same ∙ still))

pub returns : goal.returns
returns g c =
    let county = g.C.Chart.county c.args.chart.now in
    let moving : c.in_ok-moves.moves ≡ true = search rules in
    let same : c.in_ok-moves.moves ≡ moves_polygons county c.args.still_open.now =
    c.in_ok-moves.ensures ∙ (λ i. list_any (moves_keys key_cmp (keys_along chain_polygons county (c.by_shape.ensures i))) (c.open_places.ensures i)) in
    IfOk-weaker c.places_opened.result _ _ (λ places e. e ∙ named_kept county c.args.still_open.now (sym same ∙ moving)) c.places_opened.ensures
