-- The chains of an arrangement, in their new order and direction and with their new numbers.
use Rattle.canonical_form.proofs.Common.{AllByRecursion, Among, Arrangement, Arranges, Bool, Chain, County, IsApart, IsCounty, IsPermutation, Known, List, Renumbering, [], all_among, all_filter, all_map, all_themselves, all_weaker, among-map, among-unmap, among_known, ap, apart-permutation, apart_from_sorted, ap₂, arith, arranged_tlids, carried_chain, chains_in_order, common_steps, contains, each_from, entries_of, false, false≢true, filter, flat_map, groups-permutation, image, images-lefts, keys_known, known-permutation, known-permutation_to, known_all, known_is_among, lefts-numbered_from, length, length-map, lt-ltb, ltb-true, map, map-append, map-map, map_agree_all, nat_cmp, nat_keys, numbered, numbered_from, of_number-all, one_entry, placed, refl, renumbered, rights-numbered_from, rules, same_or_not, subst, suc, sym, times, times-cons, times-no, times-yes, tlids, to_filter, true, turned_if, turned_tlids, turns, up_to, ℕ, ◌++◌, ◌∙◌, ◌∷◌, ◌≡◌, ◌≤◌}
use Rattle.canonical_form.proofs.Lists.Counting.{entries_equal}
use Rattle.ordered_lists.proofs.Lists.Elements.{flat_map-map}
use Rattle.canonical_form.proofs.Unique.SameNumbers.{kept_entry}
use Rattle.std.proofs.lemmas.Bool.{false_from_ne_true}
use Rattle.canonical_form.proofs.Views.DirectedChains.{alone_under}

-- numbered keys as pairs
pub lefts-numbered : {K : Type 0} (keys : List K) → map (λ (pair : K × ℕ). pair.0) (numbered keys) ≡ keys
lefts-numbered {K} keys = map-map (λ (pair : K × ℕ). pair.0) (λ (entry : ℕ × K). (entry.1, entry.0)) (numbered_from 1 keys)
    ∙ rights-numbered_from 1 keys

pub rights-numbered : {K : Type 0} (keys : List K) → map (λ (pair : K × ℕ). pair.1) (numbered keys) ≡ up_to (length keys)
rights-numbered {K} keys = map-map (λ (pair : K × ℕ). pair.1) (λ (entry : ℕ × K). (entry.1, entry.0)) (numbered_from 1 keys)
    ∙ lefts-numbered_from 1 keys

-- the chains that an arrangement turns
pub turned_known : (arrangement : Arrangement) (k : ℕ) → Known nat_cmp (turned_tlids arrangement) k → Known nat_cmp (arranged_tlids arrangement) k
turned_known arrangement = known_all nat_keys (Known nat_cmp (arranged_tlids arrangement)) (turned_tlids arrangement)
    (all_map (Known nat_cmp (arranged_tlids arrangement)) (λ (t : ℕ × Bool). t.0) (filter (λ (t : ℕ × Bool). t.1) arrangement)
    (all_filter (λ (t : ℕ × Bool). Known nat_cmp (arranged_tlids arrangement) t.0) (λ t. t.1) arrangement (keys_known nat_keys arrangement)))

few_turned : (arrangement : Arrangement) (k : ℕ) → times nat_cmp k (turned_tlids arrangement) ≤ times nat_cmp k (arranged_tlids arrangement)
few_turned [] k = omega arith
few_turned (s ∷ arrangement) k =
    grind (arith, common_steps, same_or_not, nat_keys, times-cons, times-yes, times-no, few_turned arrangement k)

pub turned_apart : (arrangement : Arrangement) → IsApart nat_cmp (arranged_tlids arrangement) → IsApart nat_cmp (turned_tlids arrangement)
turned_apart arrangement a k = omega (arith, few_turned arrangement k, a k)

all_turned : (arrangement : Arrangement) → AllByRecursion (λ (t : ℕ × Bool). t.1 ≡ true) (filter (λ (t : ℕ × Bool). t.1) arrangement)
all_turned [] = tt
all_turned (s ∷ arrangement) = search (rules, all_turned arrangement)

-- an arrangement turns exactly the chains that it turns
pub turns_as_stated : (arrangement : Arrangement) → IsApart nat_cmp (arranged_tlids arrangement)
    → AllByRecursion (λ s. contains nat_cmp s.0 (turned_tlids arrangement) ≡ s.1) arrangement
turns_as_stated arrangement a = each_from (λ s. contains nat_cmp s.0 (turned_tlids arrangement) ≡ s.1) arrangement (λ s m. go s m s.1 refl)
  where
    go : (s : ℕ × Bool) → Among s arrangement → (b : Bool) → s.1 ≡ b → contains nat_cmp s.0 (turned_tlids arrangement) ≡ b
    go s m true e = lt-ltb 0 (times nat_cmp s.0 (turned_tlids arrangement)) (among_known nat_keys s.0 (turned_tlids arrangement)
        (among-map (λ (t : ℕ × Bool). t.0) s (filter (λ t. t.1) arrangement) (to_filter (λ (t : ℕ × Bool). t.1) s arrangement m e)))
    go s m false e = false_from_ne_true (contains nat_cmp s.0 (turned_tlids arrangement)) (λ yes.
        let t = among-unmap (λ (t : ℕ × Bool). t.0) s.0 (filter (λ t. t.1) arrangement)
        (known_is_among nat_keys s.0 (turned_tlids arrangement) (ltb-true 0 (times nat_cmp s.0 (turned_tlids arrangement)) yes)) in
        let there : Among t.0 arrangement =
        all_among (λ u. Among u arrangement) t.0 (filter (λ t. t.1) arrangement)
        (all_filter (λ u. Among u arrangement) (λ (u : ℕ × Bool). u.1) arrangement (all_themselves arrangement)) t.1 in
        let same : s ≡ t.0 = one_entry nat_keys arrangement a s t.0 m there t.2 in
        false≢true (sym e ∙ ap (λ (u : ℕ × Bool). u.1) same
        ∙ all_among (λ u. u.1 ≡ true) t.0 (filter (λ t. t.1) arrangement) (all_turned arrangement) t.1))

module _ (county : County) (arrangement : Arrangement) (is : IsCounty county) (arranges : Arranges arrangement county) where
  pub arrangement_apart : IsApart nat_cmp (arranged_tlids arrangement)
  arrangement_apart = apart-permutation nat_keys (arranged_tlids arrangement) (tlids county) arranges
      (apart_from_sorted nat_keys (tlids county) is.ascending.chains)

  -- the chains in their new order are the chains
  pub order-permutation : IsPermutation (chains_in_order county arrangement) county.chains
  order-permutation = subst (λ es. IsPermutation es county.chains) (flat_map-map (entries_of county.chains) (λ (s : ℕ × Bool). s.0) arrangement)
      (groups-permutation (λ (entry : ℕ × Chain). entry.0) (arranged_tlids arrangement) county.chains arrangement_apart
      (all_weaker (λ entry. Known nat_cmp (tlids county) entry.0) (λ entry. Known nat_cmp (arranged_tlids arrangement) entry.0)
      (λ entry k. known-permutation nat_keys entry.0 (arranged_tlids arrangement) (tlids county) arranges k) county.chains
      (keys_known nat_keys county.chains)))

  -- a known TLID has one chain
  pub one_chain : (n : ℕ) → Known nat_cmp (tlids county) n → (entry : ℕ × Chain) × (entries_of county.chains n ≡ entry ∷ []) × (entry.0 ≡ n)
  one_chain n k =
      let e = among-unmap (λ (entry : ℕ × Chain). entry.0) n county.chains (known_is_among nat_keys n (tlids county) k) in
      (e.0, ap (entries_of county.chains) e.2 ∙ alone_under county is e.0 e.1, sym e.2)

  pub arrangement_known : AllByRecursion (λ (s : ℕ × Bool). Known nat_cmp (tlids county) s.0) arrangement
  arrangement_known = all_weaker (λ (s : ℕ × Bool). Known nat_cmp (arranged_tlids arrangement) s.0) (λ s. Known nat_cmp (tlids county) s.0)
      (λ s k. known-permutation_to nat_keys s.0 (arranged_tlids arrangement) (tlids county) arranges k) arrangement (keys_known nat_keys arrangement)

  abbrev bodies_of : ℕ × Bool → List Chain
  bodies_of s = map (λ entry. turned_if s.1 entry.1) (entries_of county.chains s.0)

  order_tlids : (ss : Arrangement) → AllByRecursion (λ s. Known nat_cmp (tlids county) s.0) ss
      → map (λ (entry : ℕ × Chain). entry.0) (flat_map (λ s. entries_of county.chains s.0) ss) ≡ arranged_tlids ss
  order_tlids [] a = refl
  order_tlids (s ∷ ss) a =
      let one = one_chain s.0 a.0 in
      let rest : List (ℕ × Chain) = flat_map (λ t. entries_of county.chains t.0) ss in
      ap (λ es. map (λ (entry : ℕ × Chain). entry.0) (es ++ rest)) one.1 ∙ (λ i. one.2 i ∷ order_tlids ss a.1 i)

  count_bodies : (ss : Arrangement) → AllByRecursion (λ s. Known nat_cmp (tlids county) s.0) ss
      → length (flat_map bodies_of ss) ≡ length (arranged_tlids ss)
  count_bodies [] a = refl
  count_bodies (s ∷ ss) a =
      ap (λ es. length (map (λ (entry : ℕ × Chain). turned_if s.1 entry.1) es ++ flat_map bodies_of ss)) (one_chain s.0 a.0).1
      ∙ ap suc (count_bodies ss a.1)

  pub chain_count : length (placed county arrangement) ≡ length (arranged_tlids arrangement)
  chain_count = sym (length-map (placed county arrangement) (λ (entry : ℕ × Chain). entry.1))
      ∙ ap length (rights-numbered_from 1 (flat_map bodies_of arrangement)) ∙ count_bodies arrangement arrangement_known

  pub placed_tlids : map (λ (entry : ℕ × Chain). entry.0) (placed county arrangement) ≡ up_to (length (arranged_tlids arrangement))
  placed_tlids = lefts-numbered_from 1 (flat_map bodies_of arrangement) ∙ ap up_to (count_bodies arrangement arrangement_known)

  -- any renaming that numbers and turns the chains as the arrangement does
  module _ (r : Renumbering) (chains : r.chains ≡ numbered (arranged_tlids arrangement)) (turning : r.turned ≡ turned_tlids arrangement) where
    new_tlids : map (image nat_cmp r.chains) (arranged_tlids arrangement) ≡ up_to (length (arranged_tlids arrangement))
    new_tlids =
        let ps : List (ℕ × ℕ) = numbered (arranged_tlids arrangement) in
        ap (λ pairs. map (image nat_cmp pairs) (arranged_tlids arrangement)) chains
        ∙ ap (map (image nat_cmp ps)) (sym (lefts-numbered (arranged_tlids arrangement)))
        ∙ images-lefts nat_keys ps (subst (IsApart nat_cmp) (sym (lefts-numbered (arranged_tlids arrangement))) arrangement_apart)
        ∙ rights-numbered (arranged_tlids arrangement)

    stated : AllByRecursion (λ (s : ℕ × Bool). turns r s.0 ≡ s.1) arrangement
    stated = subst (λ ts. AllByRecursion (λ (s : ℕ × Bool). contains nat_cmp s.0 ts ≡ s.1) arrangement) (sym turning)
        (turns_as_stated arrangement arrangement_apart)

    same_bodies : (ss : Arrangement) → AllByRecursion (λ s. turns r s.0 ≡ s.1) ss
        → map (λ (entry : ℕ × Chain). renumbered r (turned_if (turns r entry.0) entry.1))
        (flat_map (λ s. entries_of county.chains s.0) ss) ≡ map (renumbered r) (flat_map bodies_of ss)
    same_bodies [] a = refl
    same_bodies (s ∷ ss) a =
        let rest : List (ℕ × Chain) = flat_map (λ t. entries_of county.chains t.0) ss in
        map-append (λ (entry : ℕ × Chain). renumbered r (turned_if (turns r entry.0) entry.1)) (entries_of county.chains s.0) rest
        ∙ ap₂ (λ xs ys. xs ++ ys)
        (map_agree_all (λ (entry : ℕ × Chain). renumbered r (turned_if (turns r entry.0) entry.1))
        (λ entry. renumbered r (turned_if s.1 entry.1)) (λ entry. entry.0 ≡ s.0)
        (λ entry e. ap (λ b. renumbered r (turned_if b entry.1)) (ap (turns r) e ∙ a.0)) (entries_of county.chains s.0)
        (of_number-all (λ (entry : ℕ × Chain). entry.0) s.0 county.chains)
        ∙ sym (map-map (renumbered r) (λ (entry : ℕ × Chain). turned_if s.1 entry.1) (entries_of county.chains s.0)))
        (same_bodies ss a.1)
        ∙ sym (map-append (renumbered r) (bodies_of s) (flat_map bodies_of ss))

    -- carried by the renaming, the chains in their new order are the placed chains with their numbers renamed
    pub carried_placed : map (carried_chain r) (chains_in_order county arrangement) ≡ map (kept_entry r) (placed county arrangement)
    carried_placed = entries_equal (map (carried_chain r) (chains_in_order county arrangement)) (map (kept_entry r) (placed county arrangement))
        (map-map (λ (entry : ℕ × Chain). entry.0) (carried_chain r) (chains_in_order county arrangement)
        ∙ sym (map-map (image nat_cmp r.chains) (λ (entry : ℕ × Chain). entry.0) (chains_in_order county arrangement))
        ∙ ap (map (image nat_cmp r.chains)) (order_tlids arrangement arrangement_known) ∙ new_tlids
        ∙ sym (map-map (λ (entry : ℕ × Chain). entry.0) (kept_entry r) (placed county arrangement) ∙ placed_tlids))
        (map-map (λ (entry : ℕ × Chain). entry.1) (carried_chain r) (chains_in_order county arrangement)
        ∙ same_bodies arrangement stated
        ∙ sym (map-map (λ (entry : ℕ × Chain). entry.1) (kept_entry r) (placed county arrangement)
        ∙ sym (map-map (renumbered r) (λ (entry : ℕ × Chain). entry.1) (placed county arrangement))
        ∙ ap (map (renumbered r)) (rights-numbered_from 1 (flat_map bodies_of arrangement))))
