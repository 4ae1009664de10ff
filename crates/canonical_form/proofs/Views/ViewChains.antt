-- The chains of a county in an arrangement, read at the places of its directed chains.
use Rattle.canonical_form.proofs.Common.{AreWhole, Arrangement, Arranges, Chain, County, DirectedChain, HasChainsOf, IsApart, IsCounty, List, Option, Some, [], ap, apart-permutation_of, apart_from_sorted, arith, arranged_by, arranged_tlids, arrangement_of, chain_at, directed_chain, entries_of, entry_values, flat_map, length, length-map, map, map-map, nat_cmp, nat_keys, option_map, placed, refl, renaming_of, renumbered, rights-numbered_from, slice_get, slice_get-map, suc, sym, tlid_at, tlids, turned_if, up_to, zero, ℕ, ◌++◌, ◌∙◌, ◌∷◌, ◌≡◌}
use Rattle.canonical_form.proofs.Arrangements.Carrying.{chains_arranged, tlids_arranged}
use Rattle.canonical_form.proofs.Unique.SameNumbers.{kept_entry}
use Rattle.canonical_form.proofs.Views.DirectedChains.{one_here}

-- a list read through a function of another list's elements
pub read_there : {X Y : Type 0} (f : X → Option Y) (xs : List X) (ys : List Y) → map f xs ≡ map Some ys → (i : ℕ) (x : X)
    → slice_get xs i ≡ Some x → (y : Y) × (slice_get ys i ≡ Some y) × (f x ≡ Some y)
read_there f [] ys e i x h = cc
read_there f (z ∷ zs) [] e i x h = cc
read_there f (z ∷ zs) (y ∷ ys) e zero x h =
    let first : f z ≡ Some y = cc in
    let same : z ≡ x = cc in
    (y, refl, ap f (sym same) ∙ first)
read_there {X} {Y} f (z ∷ zs) (y ∷ ys) e (suc i) x h =
    let rest : map f zs ≡ map Some ys = cc in
    read_there f zs ys rest i x h

pub read_length : {X Y : Type 0} (f : X → Option Y) (xs : List X) (ys : List Y) → map f xs ≡ map Some ys → length ys ≡ length xs
read_length f xs ys e = sym (length-map ys Some) ∙ ap length (sym e) ∙ length-map xs f

module _ (county : County) (arrangement : List DirectedChain) (is : IsCounty county) (whole : AreWhole county arrangement) where
  abbrev order : Arrangement
  order = arrangement_of county arrangement

  pub arranges : Arranges order county
  arranges =
      let apart : IsApart nat_cmp (tlids county) = apart_from_sorted nat_keys (tlids county) is.ascending.chains in
      apart-permutation_of nat_keys (arranged_tlids order) (tlids county)
      (λ k. let once = whole.once k in let few = apart k in omega (arith, once, few)) apart
      (λ k h. let once = whole.once k in omega (arith, once, h)) (λ k h. let once = whole.once k in omega (arith, once, h))

  pub bodies_read : (ss : List DirectedChain) → HasChainsOf county ss
      → map (directed_chain county) ss ≡ map Some (flat_map (λ s. map (λ (entry : ℕ × Chain). turned_if s.1 entry.1)
      (entries_of county.chains s.0)) (arrangement_of county ss))
  bodies_read [] h = refl
  bodies_read (s ∷ ss) h =
      let here = one_here county is s.place h.0 in
      let rest : List Chain = flat_map (λ t. map (λ (entry : ℕ × Chain). turned_if t.1 entry.1) (entries_of county.chains t.0))
      (arrangement_of county ss) in
      let chain : chain_at county s.place ≡ Some here.0.1 =
      slice_get-map (λ (d : ℕ × Chain). d.1) county.chains s.place ∙ ap (option_map (λ (d : ℕ × Chain). d.1)) here.1 in
      (λ i. option_map (turned_if s.turned) (chain i) ∷ bodies_read ss h.1 i)
      ∙ sym (ap (λ es. map Some (map (λ (entry : ℕ × Chain). turned_if s.turned entry.1) es ++ rest)) here.2)

  abbrev pub chains : List Chain
  chains = flat_map (λ s. map (λ (entry : ℕ × Chain). turned_if s.1 entry.1) (entries_of county.chains s.0)) order

  pub values : entry_values (arranged_by county arrangement).chains ≡ map (renumbered (renaming_of county order)) chains
  values =
      ap entry_values (chains_arranged county order is arranges)
      ∙ map-map (λ (e : ℕ × Chain). e.1) (kept_entry (renaming_of county order)) (placed county order)
      ∙ sym (map-map (renumbered (renaming_of county order)) (λ (e : ℕ × Chain). e.1) (placed county order))
      ∙ ap (map (renumbered (renaming_of county order))) (rights-numbered_from 1 chains)

  -- the chain at a place is the directed chain's, with the new numbers
  pub chain_there : (i : ℕ) (s : DirectedChain) → slice_get arrangement i ≡ Some s
      → (c : Chain) × (directed_chain county s ≡ Some c) × (chain_at (arranged_by county arrangement) i ≡ Some (renumbered (renaming_of county order) c))
  chain_there i s h =
      let c = read_there (directed_chain county) arrangement chains (bodies_read arrangement whole.there) i s h in (
        c.0,
        c.2,
        ap (λ cs. slice_get cs i) values ∙ slice_get-map (renumbered (renaming_of county order)) chains i
            ∙ ap (option_map (renumbered (renaming_of county order))) c.1,
      )

  pub tlids_arranged_by : tlids (arranged_by county arrangement) ≡ up_to (length arrangement)
  tlids_arranged_by = tlids_arranged county order is arranges
      ∙ ap up_to (length-map order (λ (s : ℕ × _). s.0) ∙ length-map arrangement (λ s. (tlid_at county s.place, s.turned)))

  pub chains_arranged_by : length (arranged_by county arrangement).chains ≡ length arrangement
  chains_arranged_by =
      sym (length-map (arranged_by county arrangement).chains (λ (e : ℕ × Chain). e.1)) ∙ ap length values
      ∙ length-map chains (renumbered (renaming_of county order))
      ∙ read_length (directed_chain county) arrangement chains (bodies_read arrangement whole.there)

  pub numbered_there : (i : ℕ) (s : DirectedChain) → Some s ≡ slice_get arrangement i
      → chain_at (arranged_by county arrangement) i ≡ option_map (renumbered (renaming_of county order)) (directed_chain county s)
  numbered_there i s e = let t = chain_there i s (sym e) in t.2 ∙ sym (ap (option_map (renumbered (renaming_of county order))) t.1)
