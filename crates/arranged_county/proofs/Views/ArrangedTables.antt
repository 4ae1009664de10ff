-- Going along the directed chains meets the nodes and the polygons of the arrangement, and gives the ends and the sides under
-- their numbers.
use Rattle.arranged_county.proofs.Common.{AreWhole, Arrangement, Chain, County, DirectedChain, IsCounty, List, None, Option, Ordering, PolygonSide, Some, [], ap, arranged_by, arrangement_of, bodies_read, chains, directed_chain, ends_among, ends_of, entry_values, first_seen, flat_map, flat_map-map, image, key_cmp, length, map, map-map, nat_cmp, nodes_at, nodes_in_order, numbered_from, option_map, placed, polygon_among, polygons_at, polygons_in_order, refl, renaming_of, rights-numbered_from, side_of, sides_among, sides_of, sym, values, ℕ, ◌<◌, ◌^◌, ◌∙◌, ◌∷◌, ◌≡◌}
use Rattle.arranged_county.proofs.Polygons.PolygonOrder.{few_polygons}
use Rattle.arranged_county.proofs.Views.ViewTables.{keys_paired, nodes_paired}
use Rattle.county_chart.specs.Renumbering.{renumbered, renumbered_polygon}

pub same_somes : {X : Type 0} (xs ys : List X) → map Some xs ≡ map Some ys → xs ≡ ys
same_somes [] [] e = refl
same_somes [] (y ∷ ys) e = cc
same_somes (x ∷ xs) [] e = cc
same_somes (x ∷ xs) (y ∷ ys) e =
    let first : x ≡ y = cc in
    let rest : map Some xs ≡ map Some ys = cc in
    (λ i. first i ∷ same_somes xs ys rest i)

module _ (county : County) (arrangement : List DirectedChain) (is : IsCounty county) (whole : AreWhole county arrangement) where
  abbrev order : Arrangement
  order = arrangement_of county arrangement

  abbrev bodies : List Chain
  bodies = chains county arrangement is whole

  -- values read from each directed chain are read from the chains in their new order
  met_along : {X : Type 0} (f : Chain → X) (met : List X) → map Some met ≡ map (λ directed. option_map f (directed_chain county directed)) arrangement
      → met ≡ map f bodies
  met_along f met e =
      same_somes met (map f bodies)
      (e ∙ sym (map-map (option_map f) (directed_chain county) arrangement)
      ∙ ap (map (option_map f)) (bodies_read county arrangement is whole arrangement whole.there)
      ∙ map-map (option_map f) Some bodies ∙ sym (map-map Some f bodies))

  -- keys along the chains in their new order
  keys_along : {X K : Type 0} (f : Chain → X) (keys : X → List K) → flat_map keys (map f bodies)
      ≡ flat_map (λ (entry : ℕ × Chain). keys (f entry.1)) (placed county order)
  keys_along f keys =
      flat_map-map keys f bodies
      ∙ sym (ap (flat_map (λ c. keys (f c))) (rights-numbered_from 1 bodies))
      ∙ flat_map-map (λ c. keys (f c)) (λ (entry : ℕ × Chain). entry.1) (numbered_from 1 bodies)

  -- the keys that are met along the chains are seen in that order
  seen_along : {X K : Type 0} (cmp : K → K → Ordering) (f : Chain → X) (keys : X → List K) (met : List X)
      → map Some met ≡ map (λ directed. option_map f (directed_chain county directed)) arrangement
      → first_seen cmp (flat_map keys met) ≡ first_seen cmp (flat_map (λ (entry : ℕ × Chain). keys (f entry.1)) (placed county order))
  seen_along cmp f keys met e = ap (λ pairs. first_seen cmp (flat_map keys pairs)) (met_along f met e) ∙ ap (first_seen cmp) (keys_along f keys)

  module _ (met : List (Option ℕ × Option ℕ)) (read : map Some met ≡ map (λ directed. option_map ends_of (directed_chain county directed)) arrangement) where
    pub nodes_met : first_seen nat_cmp (flat_map nodes_at met) ≡ nodes_in_order county order
    nodes_met = seen_along nat_cmp ends_of nodes_at met read

    pub ends_met : map (ends_among (first_seen nat_cmp (flat_map nodes_at met))) met
        ≡ map ends_of (entry_values (arranged_by county arrangement).chains)
    ends_met =
        let seen = first_seen nat_cmp (flat_map nodes_at met) in
        let r = renaming_of county order in
        ap (map (ends_among seen)) (met_along ends_of met read)
        ∙ map-map (ends_among seen) ends_of bodies
        ∙ ap (λ pairs. map (λ (c : Chain). (option_map (image nat_cmp pairs) c.start_node, option_map (image nat_cmp pairs) c.end_node))
        bodies)
        (nodes_paired county arrangement is whole seen nodes_met)
        ∙ sym (map-map ends_of (renumbered r) bodies)
        ∙ ap (map ends_of) (sym (values county arrangement is whole))

  module _ (met : List (PolygonSide × PolygonSide)) (read : map Some met ≡ map (λ directed. option_map sides_of (directed_chain county directed)) arrangement)
    where
      pub polygons_met : first_seen key_cmp (flat_map polygons_at met) ≡ polygons_in_order county order
      polygons_met = seen_along key_cmp sides_of polygons_at met read

      pub few_met : length (first_seen key_cmp (flat_map polygons_at met)) < 10 ^ 10
      few_met = few_polygons county arrangement is whole (first_seen key_cmp (flat_map polygons_at met)) polygons_met

      polygon_met : (cenid : List ℕ) (polyid : Option ℕ)
          → polygon_among (first_seen key_cmp (flat_map polygons_at met)) cenid polyid ≡ renumbered_polygon (renaming_of county order) cenid
          polyid
      polygon_met cenid None = refl
      polygon_met cenid (Some polyid) =
          ap (λ pairs. side_of (image key_cmp pairs (cenid, polyid)))
          (keys_paired county arrangement is whole (first_seen key_cmp (flat_map polygons_at met)) polygons_met)

      pub sides_met : map (sides_among (first_seen key_cmp (flat_map polygons_at met))) met
          ≡ map sides_of (entry_values (arranged_by county arrangement).chains)
      sides_met =
          let seen = first_seen key_cmp (flat_map polygons_at met) in
          let r = renaming_of county order in
          ap (map (sides_among seen)) (met_along sides_of met read)
          ∙ map-map (sides_among seen) sides_of bodies
          ∙ (λ i. map (λ (c : Chain). (polygon_met c.left.cenid c.left.polyid i, polygon_met c.right.cenid c.right.polyid i)) bodies)
          ∙ sym (map-map sides_of (renumbered r) bodies)
          ∙ ap (map sides_of) (sym (values county arrangement is whole))
