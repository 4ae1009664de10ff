-- Counties under a mask: a mask that leaves nothing out changes nothing, masking twice is masking once, and a county that a mask
-- doesn't change is carried onto one that it doesn't change.
use Rattle.canonical_form.proofs.Common.{AllByRecursion, Body7, Bool, Carries, Chain, County, List, Mask, Renumbering, [], all-in_order, all_everywhere, all_map, ap, carried_chain, carried_landmark, cond, false, in_order, in_order-in_order, in_order-itself, landmark_body_cmp, landmark_body_keys, map, map-id, map_agree_all, map_itself, map_values, masked, masked_bodies, masked_body_7, masked_chain, no_mask, refl, renumbered, rules, sym, true, turned_if, ℕ, ◌∙◌, ◌∷◌, ◌≡◌}
use Rattle.tl_layout.specs.Laws.MaskLaws.{masked_twice_1, masked_twice_7, masked_twice_i}
use Rattle.canonical_form.proofs.Lists.Counting.{map-equal_all}
use Rattle.canonical_form.proofs.Sameness.CarriedCounty.{all_carried}

-- a mask that leaves nothing out changes nothing
pub masked_by_none : (county : County) → masked no_mask county ≡ county
masked_by_none county = search (rules, map_itself)

pub no_mask_is_plain : masked no_mask ≡ (λ county. county)
no_mask_is_plain = λ i county. masked_by_none county i

-- elements that a map doesn't change
fixed_map : {X : Type 0} (f : X → X) (xs : List X) → AllByRecursion (λ x. f x ≡ x) xs → map f xs ≡ xs
fixed_map f xs a = map_agree_all f (λ x. x) (λ x. f x ≡ x) (λ x e. e) xs a ∙ map-id xs

map_fixed : {X : Type 0} (f : X → X) (xs : List X) → map f xs ≡ xs → AllByRecursion (λ x. f x ≡ x) xs
map_fixed f xs e = map-equal_all f (λ x. x) xs (e ∙ sym (map-id xs))

module _ (mask : Mask) where
  chain_twice : (c : Chain) → masked_chain mask (masked_chain mask c) ≡ masked_chain mask c
  chain_twice c = search (rules, masked_twice_1, masked_twice_i)

  -- contents that were masked and sorted don't change again
  hidden_twice : (hidden : Bool) (bodies : List Body7) → let once = cond hidden
      (in_order landmark_body_cmp (map (masked_body_7 mask) bodies)) bodies in
      cond hidden (in_order landmark_body_cmp (map (masked_body_7 mask) once)) once ≡ once
  hidden_twice true bodies =
      let once = in_order landmark_body_cmp (map (masked_body_7 mask) bodies) in
      ap (in_order landmark_body_cmp)
      (fixed_map (masked_body_7 mask) once
      (all-in_order (λ body. masked_body_7 mask body ≡ body) landmark_body_cmp (map (masked_body_7 mask) bodies)
      (all_map (λ body. masked_body_7 mask body ≡ body) (masked_body_7 mask) bodies
      (all_everywhere (λ body. masked_body_7 mask (masked_body_7 mask body) ≡ masked_body_7 mask body) (masked_twice_7 mask) bodies))))
      ∙ in_order-itself landmark_body_cmp once (in_order-in_order landmark_body_keys.total (map (masked_body_7 mask) bodies))
  hidden_twice false bodies = refl

  bodies_twice : (bodies : List Body7) → masked_bodies mask (masked_bodies mask bodies) ≡ masked_bodies mask bodies
  bodies_twice bodies = hidden_twice mask.sources bodies

  -- masking twice is masking once
  pub masked_twice : (county : County) → masked mask (masked mask county) ≡ masked mask county
  masked_twice county = λ i. record {
    chains = entries_twice (masked_chain mask) chain_twice county.chains i;
    names = county.names;
    polygons = county.polygons;
    landmarks = entries_twice (masked_bodies mask) bodies_twice county.landmarks i;
    links = county.links;
  }
    where
      entries_twice : {V : Type 0} (f : V → V) → ((v : V) → f (f v) ≡ f v) → (entries : List (ℕ × V))
          → map_values f (map_values f entries) ≡ map_values f entries
      entries_twice f h [] = refl
      entries_twice f h (entry ∷ entries) = λ i. (entry.0, h entry.1 i) ∷ entries_twice f h entries i

  -- masking a turned and renumbered chain is turning and renumbering the masked one
  chain_carried : (r : Renumbering) (t : Bool) (c : Chain)
      → masked_chain mask (renumbered r (turned_if t c)) ≡ renumbered r (turned_if t (masked_chain mask c))
  chain_carried r true c = refl
  chain_carried r false c = refl

  -- a county that the mask doesn't change is carried onto one that it doesn't change
  module _ (r : Renumbering) (a b : County) (h : Carries r a b) (own : masked mask a ≡ a) where
    abbrev mask_chain : ℕ × Chain → ℕ × Chain
    mask_chain entry = (entry.0, masked_chain mask entry.1)

    abbrev mask_landmark : ℕ × List Body7 → ℕ × List Body7
    mask_landmark entry = (entry.0, masked_bodies mask entry.1)

    own_chains : AllByRecursion (λ entry. mask_chain entry ≡ entry) b.chains
    own_chains = all_carried (λ e. mask_chain e ≡ e) (λ e. mask_chain e ≡ e) (carried_chain r) carried a.chains b.chains h.chains
        (map_fixed mask_chain a.chains (ap (λ c. c.chains) own))
      where
        carried : (e : ℕ × Chain) → mask_chain e ≡ e → mask_chain (carried_chain r e) ≡ carried_chain r e
        carried e same = search (rules, chain_carried)

    own_landmarks : AllByRecursion (λ entry. mask_landmark entry ≡ entry) b.landmarks
    own_landmarks = all_carried (λ e. mask_landmark e ≡ e) (λ e. mask_landmark e ≡ e) (carried_landmark r)
        (λ e same. ap (λ (d : ℕ × List Body7). ((carried_landmark r e).0, d.1)) same) a.landmarks b.landmarks h.landmarks
        (map_fixed mask_landmark a.landmarks (ap (λ c. c.landmarks) own))

    pub carried_masked : masked mask b ≡ b
    carried_masked = λ i. record {
      chains = fixed_map mask_chain b.chains own_chains i;
      names = b.names;
      polygons = b.polygons;
      landmarks = fixed_map mask_landmark b.landmarks own_landmarks i;
      links = b.links;
    }
