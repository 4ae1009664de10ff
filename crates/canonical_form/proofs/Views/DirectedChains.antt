-- The chains of an arrangement given by directed chains are those at their places.
use Rattle.canonical_form.proofs.Common.{Among, Arrangement, Chain, County, DirectedChain, HasChainsOf, IsCounty, List, None, Option, Some, [], ap, apart_from_sorted, append-nil, ap₂, arith, arrangement_of, chain_at, directed_chain, entries_of, eq-eqb, feats_of, flat_map, flat_map-append, flat_map_agree, get_or_from_slice_get, inl, inr, length, map, nat_keys, numbered_from, option_map, placed, refl, rights-numbered_from, slice_get, slice_get-map, sym, times-of_number, tlid_at, tlids, to_filter, turned_if, ℕ, ◌++◌, ◌<◌, ◌==◌, ◌∙◌, ◌∷◌, ◌≡◌, ◌≤◌, ◌⊎◌}
use Rattle.ordered_lists.proofs.Lists.Among.{among-get}
use Rattle.ordered_lists.proofs.Lists.Elements.{flat_map-map}
use Rattle.ordered_lists.proofs.Lists.ByPlace.{some_at}

alone : {X : Type 0} (x : X) (xs : List X) → Among x xs → length xs ≤ 1 → xs ≡ x ∷ []
alone x [] m h = absurd m
alone x (y ∷ []) m h = go m
  where
    go : (x ≡ y) ⊎ Among x [] → y ∷ [] ≡ x ∷ []
    go (inl e) = ap (λ z. z ∷ []) (sym e)
    go (inr n) = absurd n
alone x (y ∷ z ∷ zs) m h = absurd (omega (arith, h))

-- a list read from a chain, or an empty list without a chain
abbrev of_chain : {X : Type 0} → (Chain → List X) → Option Chain → List X
of_chain f None = []
of_chain f (Some chain) = f chain

module _ (county : County) (is : IsCounty county) where
  -- an entry is the only one with its TLID
  pub alone_under : (e : ℕ × Chain) → Among e county.chains → entries_of county.chains e.0 ≡ e ∷ []
  alone_under e m =
      let count = times-of_number (λ (d : ℕ × Chain). d.0) e.0 county.chains in
      let few = apart_from_sorted nat_keys (tlids county) is.ascending.chains e.0 in
      alone e (entries_of county.chains e.0) (to_filter (λ (d : ℕ × Chain). d.0 == e.0) e county.chains m (eq-eqb e.0 e.0 refl))
      (omega (arith, count, few))

  -- the TLID at a place belongs to exactly one entry, the one at that place
  pub one_here : (p : ℕ) → p < length county.chains
      → (e : ℕ × Chain) × (slice_get county.chains p ≡ Some e) × (entries_of county.chains (tlid_at county p) ≡ e ∷ []) ×
      (tlid_at county p ≡ e.0)
  one_here p h =
      let e = some_at county.chains p h in
      let tlid : tlid_at county p ≡ e.0.0 =
      get_or_from_slice_get (tlids county) p e.0.0 0
      (slice_get-map (λ (d : ℕ × Chain). d.0) county.chains p ∙ ap (option_map (λ (d : ℕ × Chain). d.0)) e.1) in
      (e.0, e.1, ap (entries_of county.chains) tlid ∙ alone_under e.0 (among-get county.chains p e.0 e.1), tlid)

  abbrev bodies : Arrangement → List Chain
  bodies ss = flat_map (λ s. map (λ (entry : ℕ × Chain). turned_if s.1 entry.1) (entries_of county.chains s.0)) ss

  along_bodies : {X : Type 0} (f : Chain → List X) (arrangement : List DirectedChain) → HasChainsOf county arrangement
      → flat_map f (bodies (arrangement_of county arrangement)) ≡ flat_map (λ directed. of_chain f (directed_chain county directed)) arrangement
  along_bodies f [] h = refl
  along_bodies f (s ∷ ss) h =
      let here = one_here s.place h.0 in
      let rest = bodies (arrangement_of county ss) in
      let chain : chain_at county s.place ≡ Some here.0.1 =
      slice_get-map (λ (d : ℕ × Chain). d.1) county.chains s.place ∙ ap (option_map (λ (d : ℕ × Chain). d.1)) here.1 in
      flat_map-append f (map (λ (entry : ℕ × Chain). turned_if s.turned entry.1) (entries_of county.chains (tlid_at county s.place))) rest
      ∙ ap₂ (λ xs ys. xs ++ ys)
      (ap (λ es. flat_map f (map (λ (entry : ℕ × Chain). turned_if s.turned entry.1) es)) here.2
      ∙ append-nil (f (turned_if s.turned here.0.1))
      ∙ ap (λ o. of_chain f (option_map (turned_if s.turned) o)) (sym chain))
      (along_bodies f ss h.1)

  along_placed : {X : Type 0} (f : Chain → List X) (arrangement : List DirectedChain) → HasChainsOf county arrangement
      → flat_map (λ (entry : ℕ × Chain). f entry.1) (placed county (arrangement_of county arrangement)) ≡ flat_map
      (λ directed. of_chain f (directed_chain county directed)) arrangement
  along_placed f arrangement h =
      let bs = bodies (arrangement_of county arrangement) in
      sym (flat_map-map f (λ (entry : ℕ × Chain). entry.1) (numbered_from 1 bs))
      ∙ ap (flat_map f) (rights-numbered_from 1 bs) ∙ along_bodies f arrangement h

  same_feats : (o : Option Chain) → of_chain (λ c. c.feats) o ≡ feats_of o
  same_feats None = refl
  same_feats (Some c) = refl

  pub feats_placed : (arrangement : List DirectedChain) → HasChainsOf county arrangement
      → flat_map (λ (entry : ℕ × Chain). entry.1.feats) (placed county (arrangement_of county arrangement)) ≡ flat_map
      (λ directed. feats_of (directed_chain county directed)) arrangement
  feats_placed arrangement h = along_placed (λ c. c.feats) arrangement h
      ∙ flat_map_agree (λ (directed : DirectedChain). of_chain (λ c. c.feats) (directed_chain county directed)) (λ directed. feats_of (directed_chain county directed))
      (λ directed. same_feats (directed_chain county directed)) arrangement
