-- Landmarks are ordered by their bodies first, so two arrangements of a county have the same landmarks.
use Rattle.tl_number.proofs.Common.{Arrangement, Arranges, Body7, County, IsCounty, IsInOrder, List, ap, arranged, carried_landmark, entry_values, in_order-in_order, in_order-is_permutation, in_order-map, in_order-weaker, landmark_body_cmp, landmark_body_keys, landmark_key, landmark_key_cmp, landmark_key_keys, landmarks_arranged, landmarks_in_order, lands_arranged, link_part_cmp, links_of, links_relinked, lists_keys, map, map-map, on, on_total, renaming_of, slice_cmp, sym, then-first, ℕ, ◌∙◌, ◌≡◌}
use Rattle.tl_number.proofs.Lists.OrderPlaces.{IsByValue, same_made}

module _ (county : County) (is : IsCounty county) where
  by_bodies : (arrangement : Arrangement) → Arranges arrangement county
      → IsByValue (slice_cmp landmark_body_cmp) county.landmarks (landmarks_in_order county arrangement)
      (arranged county arrangement).landmarks
  by_bodies arrangement arranges =
      let links = links_relinked county arrangement in
      let ordered = landmarks_in_order county arrangement in
      let bodies : ℕ × List Body7 → List Body7 = λ landmark. landmark.1 in
      record {
        in_order = in_order-map (slice_cmp landmark_body_cmp) bodies ordered
            (in_order-weaker (on (landmark_key links) landmark_key_cmp) (on bodies (slice_cmp landmark_body_cmp))
            (λ x y g. then-first (slice_cmp landmark_body_cmp x.1 y.1)
            (slice_cmp link_part_cmp (links_of links x.0) (links_of links y.0)) g)
            ordered (in_order-in_order (on_total (landmark_key links) landmark_key_keys.total) county.landmarks));
        all = in_order-is_permutation (on (landmark_key links) landmark_key_cmp) county.landmarks;
        numbers = lands_arranged county arrangement is arranges;
        values = ap (map bodies) (landmarks_arranged county arrangement is arranges)
            ∙ map-map bodies (carried_landmark (renaming_of county arrangement)) ordered;
      }

  pub same_landmarks : (one other : Arrangement) → Arranges one county → Arranges other county
      → (arranged county one).landmarks ≡ (arranged county other).landmarks
  same_landmarks one other arranges_one arranges_other = same_made (lists_keys landmark_body_keys) county.landmarks _ _ _ _
      (by_bodies one arranges_one) (by_bodies other arranges_other)

  -- place by place, the landmarks have the same bodies
  pub same_bodies : (one other : Arrangement) → Arranges one county → Arranges other county
      → entry_values (landmarks_in_order county one) ≡ entry_values (landmarks_in_order county other)
  same_bodies one other arranges_one arranges_other = sym (by_bodies one arranges_one).values
      ∙ ap entry_values (same_landmarks one other arranges_one arranges_other) ∙ (by_bodies other arranges_other).values

  -- which are in order
  pub bodies_in_order : (arrangement : Arrangement) → Arranges arrangement county
      → IsInOrder (slice_cmp landmark_body_cmp) (entry_values (landmarks_in_order county arrangement))
  bodies_in_order arrangement arranges = (by_bodies arrangement arranges).in_order
