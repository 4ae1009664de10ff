-- Lists that are compared place by place, and tests that decide whether they are the same.
use Rattle.record_groups.proofs.Common.{Bool, County, Decides, Eight, Five, Four, HaveSameChains, HaveSameCounts, HaveSameEntries, I, IsCounty, List, One, P, Seven, Six, Some, Two, [], ap, arith, county_of, group_at, grouped, length, map, packed, packed_county, rules, slice_get, subst, suc, sym, zero, ℕ, ◌++◌, ◌<◌, ◌∙◌, ◌∷◌, ◌≡◌}
use Rattle.record_groups.proofs.Records.PackedGroups.{all_groups}

-- groups at a place that both have
pub same_group : {X : Type 0} (xs ys : List (List X)) (place : ℕ) → place < length xs → place < length ys
    → group_at xs place ≡ group_at ys place → slice_get xs place ≡ slice_get ys place
same_group [] ys place h k e = absurd (omega (arith, h))
same_group (x ∷ xs) [] place h k e = absurd (omega (arith, k))
same_group (x ∷ xs) (y ∷ ys) zero h k e = ap (λ z. Some z) e
same_group (x ∷ xs) (y ∷ ys) (suc place) h k e = same_group xs ys place (omega (arith, h)) (omega (arith, k)) e

module _ (a b : County) where
  -- if the groups of all types are the same, so is the packing
  same_packing : HaveSameChains a b → HaveSameEntries a b → packed a ≡ packed b
  same_packing chains entries = sym (all_groups a)
      ∙ (λ k. (map One (grouped (chains.heads.chains k)) ++ (map Two (grouped (chains.lists.shape_points k))
      ++ map Four (grouped (chains.lists.further_names k)))) ++ ((map Five (grouped (entries.names k))
      ++ (map Six (grouped (chains.lists.ranges k)) ++ map Seven (grouped (entries.landmarks.landmarks k))))
      ++ (map Eight (grouped (entries.landmarks.landmark_links k)) ++ (map I (grouped (chains.heads.links k)) ++ map P (grouped (entries.polygons k))))))
      ∙ all_groups b

  -- if the packing is the same, the counties are the same, and so are all their groups
  same_county : IsCounty a → IsCounty b → packed a ≡ packed b → a ≡ b
  same_county h k e = sym (packed_county a h) ∙ ap county_of e ∙ packed_county b k

  same_groups : a ≡ b → (HaveSameCounts a b × HaveSameChains a b) × HaveSameEntries a b
  same_groups e = subst (λ c. (HaveSameCounts a c × HaveSameChains a c) × HaveSameEntries a c) e (search rules)

  -- A test for the same groups of all types is therefore a test for the same packing.
  pub decides_packing : IsCounty a → IsCounty b → (test : Bool)
      → Decides test ((HaveSameCounts a b × HaveSameChains a b) × HaveSameEntries a b) → Decides test (packed a ≡ packed b)
  decides_packing h k test d = (
    λ e. same_packing (d.0 e).0.1 (d.0 e).1,
    λ packings. d.1 (same_groups (same_county h k packings)),
  )
