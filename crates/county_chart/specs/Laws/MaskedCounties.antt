-- Under a mask a county has the same numbers, nodes and polygons, and is well formed.
--
-- The laws of masked counties are in these files:
--   here                            tlids_masked, lands_masked, nodes_masked, sides_masked, masked_is_county
--   specs/Laws/MaskedLimits         masked_within_limits
--   proofs/Masks/MaskedReads        the values that a chart reads: chain_at_masked, body_masked, bodies_masked and so on
--   proofs/Masks/MaskedCounties     masked_by_none, no_mask_is_plain, masked_twice, carried_masked
use Rattle.std.proofs.Common.{Bool, List, cond, false, length, map, refl, rules, true, ℕ, ◌∙◌, ◌≡◌}
use Rattle.std.proofs.lemmas.List.{length-map}
use Rattle.std.specs.List.{AllByRecursion}
use Rattle.tl_layout.specs.Masked.{masked_body_7}
use Rattle.tl_layout.specs.declared.mask.Mask.{Mask}
use Rattle.tl_layout.specs.declared.type7.Body7.{Body7}
use Rattle.tl_shape.specs.Chain.{Chain}
use Rattle.county_chart.specs.CountyRules.{IsCounty, lands, nodes, polygons_along, tlids}
use Rattle.county_chart.specs.MaskedCounty.{masked, masked_bodies, masked_chain}
use Rattle.county_chart.specs.BodyOrder.{landmark_body_cmp}
use Rattle.county_chart.specs.County.{County}
use Rattle.county_chart.specs.Laws.KeyOrders.{landmark_body_keys}
use Rattle.ordered_lists.specs.Orders.{IsInOrder, in_order}
use Rattle.ordered_lists.proofs.Lists.Elements.{all_map, all_weaker, flat_map-map}
use Rattle.ordered_lists.proofs.ByKey.Numbers.{length-in_order}
use Rattle.ordered_lists.proofs.Lists.EntryLists.{keys-map_values}
use Rattle.ordered_lists.proofs.Lists.InOrder.{in_order-in_order}

-- the numbers are the same
pub tlids_masked : (mask : Mask) (county : County) → tlids (masked mask county) ≡ tlids county
tlids_masked mask county = keys-map_values (masked_chain mask) county.chains

pub lands_masked : (mask : Mask) (county : County) → lands (masked mask county) ≡ lands county
lands_masked mask county = keys-map_values (masked_bodies mask) county.landmarks

-- and so are the ends and the sides of chains
pub nodes_masked : (mask : Mask) (county : County) → nodes (masked mask county) ≡ nodes county
nodes_masked mask county = search (rules, flat_map-map)

pub sides_masked : (mask : Mask) (county : County) → polygons_along (masked mask county).chains ≡ polygons_along county.chains
sides_masked mask county = search (rules, flat_map-map)

-- if contents are in order, they are under a mask; there are as many of them
hidden_in_order : (hidden : Bool) (f : Body7 → Body7) (bodies : List Body7) → IsInOrder landmark_body_cmp bodies
    → IsInOrder landmark_body_cmp (cond hidden (in_order landmark_body_cmp (map f bodies)) bodies)
hidden_in_order true f bodies h = in_order-in_order landmark_body_keys.total (map f bodies)
hidden_in_order false f bodies h = h

hidden_length : (hidden : Bool) (f : Body7 → Body7) (bodies : List Body7)
    → length (cond hidden (in_order landmark_body_cmp (map f bodies)) bodies) ≡ length bodies
hidden_length true f bodies = length-in_order landmark_body_cmp (map f bodies) ∙ length-map bodies f
hidden_length false f bodies = refl

pub bodies_masked_in_order : (mask : Mask) (bodies : List Body7) → IsInOrder landmark_body_cmp bodies
    → IsInOrder landmark_body_cmp (masked_bodies mask bodies)
bodies_masked_in_order mask bodies h = hidden_in_order mask.sources (masked_body_7 mask) bodies h

pub length_masked_bodies : (mask : Mask) (bodies : List Body7) → length (masked_bodies mask bodies) ≡ length bodies
length_masked_bodies mask bodies = hidden_length mask.sources (masked_body_7 mask) bodies

module _ (mask : Mask) where
  -- a property of each chain or landmark under the mask is one of each of the masked county
  pub all_chains_masked : (P : ℕ × Chain → Type 0) (chains : List (ℕ × Chain))
      → AllByRecursion (λ entry. P (entry.0, masked_chain mask entry.1)) chains
      → AllByRecursion P (map (λ entry. (entry.0, masked_chain mask entry.1)) chains)
  all_chains_masked P chains a = all_map P (λ entry. (entry.0, masked_chain mask entry.1)) chains a

  pub all_landmarks_masked : (P Q : ℕ × List Body7 → Type 0)
      → ((entry : ℕ × List Body7) → P entry → Q (entry.0, masked_bodies mask entry.1))
      → (landmarks : List (ℕ × List Body7)) → AllByRecursion P landmarks
      → AllByRecursion Q (map (λ entry. (entry.0, masked_bodies mask entry.1)) landmarks)
  all_landmarks_masked P Q h landmarks a = search (rules, all_map, all_weaker)

  -- a well formed county is well formed under a mask
  pub masked_is_county : (county : County) → IsCounty county → IsCounty (masked mask county)
  masked_is_county county h =
      search (rules, tlids_masked, lands_masked, all_landmarks_masked, bodies_masked_in_order, all_chains_masked, length_masked_bodies, sides_masked)
