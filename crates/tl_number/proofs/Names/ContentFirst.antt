-- Names are ordered by their content first, so two arrangements of a county have the same names.
use Rattle.tl_number.proofs.Common.{Arrangement, Arranges, Body5, County, IsCounty, [], all_uses, ap, arranged, carried_name, feats_arranged, in_order-in_order, in_order-map, in_order-weaker, map, map-map, name_body_cmp, name_body_keys, name_key, name_key_cmp, name_key_keys, names_arranged, names_in_order, names_permutation, on, on_total, packed_five, placed, renaming_of, slice_cmp, then-first, type_5_by_name, use_cmp, uses_of_name, ℕ, ◌∙◌, ◌∷◌, ◌≡◌}
use Rattle.tl_number.proofs.Lists.OrderPlaces.{IsByValue, same_made}

module _ (county : County) (is : IsCounty county) where
  by_content : (arrangement : Arrangement) → Arranges arrangement county
      → IsByValue name_body_cmp county.names (names_in_order county arrangement) (arranged county arrangement).names
  by_content arrangement arranges =
      let uses = all_uses (placed county arrangement) in
      let ordered = names_in_order county arrangement in
      let content : ℕ × Body5 → Body5 = λ name. name.1 in
      record {
        in_order = in_order-map name_body_cmp content ordered
            (in_order-weaker (on (name_key uses) name_key_cmp) (on content name_body_cmp)
            (λ x y g. then-first (name_body_cmp x.1 y.1) (slice_cmp use_cmp (uses_of_name uses x.0) (uses_of_name uses y.0)) g)
            ordered (in_order-in_order (on_total (name_key uses) name_key_keys.total) county.names));
        all = names_permutation county arrangement is arranges;
        numbers = feats_arranged county arrangement is arranges;
        values = ap (map content) (names_arranged county arrangement is arranges)
            ∙ map-map content (carried_name (renaming_of county arrangement)) ordered;
      }

  -- So they have the same records of type 5.
  pub same_type_5 : (one other : Arrangement) → Arranges one county → Arranges other county
      → type_5_by_name (arranged county one) ≡ type_5_by_name (arranged county other)
  same_type_5 one other arranges_one arranges_other = ap (map (λ (entry : ℕ × Body5). packed_five entry ∷ []))
      (same_made name_body_keys county.names _ _ _ _ (by_content one arranges_one) (by_content other arranges_other))
