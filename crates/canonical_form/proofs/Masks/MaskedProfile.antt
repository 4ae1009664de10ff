-- The profile and the order of chains by their shapes don't depend on anything that a mask leaves out.
use Rattle.canonical_form.proofs.Common.{AreInShapeOrder, Chain, Coordinates, County, DirectedChain, IsInOrder, IsInProfile, IsPermutation, IsShapeOrder, List, Mask, Memory, OrderOfShapes, PolygonWithoutChain, ProfileFault, TooSymmetric, along_from, along_shape, along_shapes, ap, chain_count_masked, choices, choices_of_shapes, contains, directed_cmp, has_body, is_clause_broken, is_either_way, key_cmp, least_points, length, map, map-map, masked, masked_chain, min, most_choices, nat_cmp, nat_lt, not, open_places, ordering_then, points_along, points_at, points_cmp, points_from, points_masked, range_with_len, refl, reverse, running, sides_masked, subst, suc, sym, ℕ, ◌&&◌, ◌∙◌, ◌≡◌, ◌≤◌}
use Rattle.std.specs.Ordering.{is_lt}

module _ (mask : Mask) (county : County) where
  abbrev mask_entry : ℕ × Chain → ℕ × Chain
  mask_entry entry = (entry.0, masked_chain mask entry.1)

  choices_kept : choices (masked mask county) ≡ choices county
  choices_kept =
      sym (choices_of_shapes (masked mask county))
      ∙ ap (running points_cmp is_either_way) (map-map (λ (entry : ℕ × Chain). least_points entry.1.points) mask_entry county.chains)
      ∙ choices_of_shapes county

  clause_masked : (fault : ProfileFault) → is_clause_broken (masked mask county) fault ≡ is_clause_broken county fault
  clause_masked (PolygonWithoutChain cenid polyid) =
      ap (λ sides. has_body county (cenid, polyid) && not (contains key_cmp (cenid, polyid) sides)) (sides_masked mask county)
  clause_masked TooSymmetric = ap (nat_lt most_choices) choices_kept
  clause_masked Memory = refl

  pub masked_in_profile : IsInProfile county → IsInProfile (masked mask county)
  masked_in_profile h fault = clause_masked fault ∙ h fault

  -- the points at each place
  points_kept : points_at (masked mask county) ≡ points_at county
  points_kept = λ i place. points_masked mask county place i

  by_shape_kept : along_shapes (masked mask county) ≡ along_shapes county
  by_shape_kept =
      ap (λ (points : ℕ → List Coordinates). map (λ (place : ℕ). let w : DirectedChain = record {
        place = place;
        turned = is_lt (points_cmp (reverse (points place)) (points place));
      } in w) (range_with_len 0 (length (masked mask county).chains))) points_kept
      ∙ ap (λ count. map (along_shape county) (range_with_len 0 count)) (chain_count_masked mask county)

  points_along_kept : (directed : DirectedChain) → points_along (masked mask county) directed ≡ points_along county directed
  points_along_kept directed = along_from (masked mask county) directed ∙ ap (points_from directed.turned) (λ i. points_kept i directed.place)
      ∙ sym (along_from county directed)

  along_kept : points_along (masked mask county) ≡ points_along county
  along_kept = λ i directed. points_along_kept directed i

  order_kept : directed_cmp (masked mask county) ≡ directed_cmp county
  order_kept = λ i a b. ordering_then (points_cmp (along_kept i a) (along_kept i b)) (nat_cmp a.place b.place)

  in_shape_order : (by_shape : List DirectedChain) → AreInShapeOrder county by_shape → AreInShapeOrder (masked mask county) by_shape
  in_shape_order by_shape h = record {
    all = subst (λ ws. IsPermutation ws by_shape) (sym by_shape_kept) h.all;
    in_order = subst (λ cmp. IsInOrder cmp by_shape) (sym order_kept) h.in_order;
  }

  pub masked_shape_order : (order : OrderOfShapes) → IsShapeOrder county order → IsShapeOrder (masked mask county) order
  masked_shape_order order h = record {
    by_shape = in_shape_order order.by_shape h.by_shape;
    count = h.count ∙ ap (λ n. min n (suc most_choices)) (sym choices_kept);
    places = λ few. h.places (subst (λ n. n ≤ most_choices) choices_kept few)
        ∙ ap (λ (along : DirectedChain → List Coordinates). open_places points_cmp is_either_way 0 (map along order.by_shape)) (sym along_kept);
  }
