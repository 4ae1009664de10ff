-- Names sorted by their bytes, the ranks of their first uses and their places are in their new order.
use Rattle.arranged_county.proofs.Common.{AreClasses, AreReadAt, AreWhole, Arrangement, Body5, Bool, Chain, County, DirectedChain, IsApart, IsCounty, IsInOrder, IsKeyOrder, IsPermutation, IsPermutation-map, IsPermutation-trans, List, Option, Ordering, RankedName, Some, Use, [], all_uses-strict, ap, apart-permutation, apart_from_sorted, append-nil, append_assoc, ap₂, arith, arranged_tlids, arrangement_of, arranges, classed_place, cond, cons_option, contains, entry_keys, false, feats, feats_along_arrangement, feats_placed, filter_map, first_seen, first_seen_after, flat_map, has_repeat, has_repeat-apart, in_order-map, key_place, length, length-map, length_permutation, ltb-true, map, map-append, map-map, name_body_cmp, name_content_cmp, name_key_at, name_key_keys, name_keys_cmp, names_in_order, nat_cmp, nat_keys, on_total, option_cmp, option_map, ordering_then, placed, range_with_len, rank_of, ranked_at, ranked_cmp, ranked_place, refl, slice_cmp, slice_get, slice_get-map, sorted_items, subst, suc, sym, then_assoc, times-append, true, up_to-strict, use_cmp, uses_of_name, ℕ, ◌++◌, ◌∙◌, ◌∷◌, ◌≡◌}
use Rattle.arranged_county.proofs.Lists.Classes.{agree_in_order, agree_map, agree_permuted, agree_weaker, classes_all}
use Rattle.arranged_county.proofs.Names.NameRanks.{ranks_decide}
use Rattle.arranged_county.proofs.Polygons.PolygonOrder.{read_mapped}
use Rattle.std.specs.List.Sorted.{IsStrictlySortedBy}
use Rattle.canonical_form.specs.Uses.{all_uses, name_key, name_key_cmp, uses_from}
use Rattle.ordered_lists.proofs.ByKey.Keys.{times-yes}
use Rattle.canonical_form.proofs.Arrangements.Carrying.{names_permutation}
use Rattle.canonical_form.proofs.Arrangements.Placed.{placed_tlids}

-- distinct keys are each seen once
module _ {K : Type 0} {cmp : K → K → Ordering} (o : IsKeyOrder cmp) where
  seen_apart : (seen keys : List K) → IsApart cmp (seen ++ keys) → first_seen_after cmp seen keys ≡ seen ++ keys
  seen_apart seen [] a = sym (append-nil seen)
  seen_apart seen (k ∷ keys) a = go (contains cmp k seen) refl
      (seen_apart (seen ++ (k ∷ [])) keys (subst (IsApart cmp) (sym (append_assoc seen (k ∷ []) keys)) a))
    where
      go : (b : Bool) → contains cmp k seen ≡ b → first_seen_after cmp (seen ++ (k ∷ [])) keys ≡ (seen ++ (k ∷ [])) ++ keys
          → cond b (first_seen_after cmp seen keys) (first_seen_after cmp (seen ++ (k ∷ [])) keys) ≡ seen ++ (k ∷ keys)
      go true e ih = absurd (let twice = times-append o k seen (k ∷ keys) in let here = times-yes o k k keys refl in
          let some = ltb-true 0 _ e in let once = a k in omega (arith, twice, here, some, once))
      go false e ih = ih ∙ append_assoc seen (k ∷ []) keys

  pub first_seen-itself : (keys : List K) → IsApart cmp keys → first_seen cmp keys ≡ keys
  first_seen-itself keys a = seen_apart [] keys a

-- if every element is found, the found elements are all of them
pub filter_map_all : {X Y : Type 0} (f : X → Option Y) (xs : List X) (ys : List Y) → map f xs ≡ map Some ys → filter_map f xs ≡ ys
filter_map_all f [] [] e = refl
filter_map_all f [] (y ∷ ys) e = cc
filter_map_all f (x ∷ xs) [] e = cc
filter_map_all {X} {Y} f (x ∷ xs) (y ∷ ys) e =
    let here : f x ≡ Some y = cc in
    let rest : map f xs ≡ map Some ys = cc in
    ap (λ o. cons_option o (filter_map f xs)) here ∙ ap (λ zs. y ∷ zs) (filter_map_all f xs ys rest)

-- the FEATs of all uses, along the chains
named_from : (t i : ℕ) (fs : List ℕ) → map (λ (u : Use × ℕ). u.1) (uses_from t i fs) ≡ fs
named_from t i [] = refl
named_from t i (f ∷ fs) = ap (λ gs. f ∷ gs) (named_from t (suc i) fs)

named : (cs : List (ℕ × Chain)) → map (λ (u : Use × ℕ). u.1) (all_uses cs) ≡ flat_map (λ (e : ℕ × Chain). e.1.feats) cs
named [] = refl
named (c ∷ cs) = map-append (λ (u : Use × ℕ). u.1) (uses_from c.0 1 c.1.feats) (all_uses cs)
    ∙ ap₂ (λ xs ys. xs ++ ys) (named_from c.0 1 c.1.feats) (named cs)

module _ (county : County) (arrangement : List DirectedChain) (is : IsCounty county) (whole : AreWhole county arrangement) (seen : List ℕ)
    (uses : seen ≡ first_seen nat_cmp (feats_along_arrangement county arrangement)) where
  abbrev order : Arrangement
  order = arrangement_of county arrangement

  abbrev used : List (Use × ℕ)
  used = all_uses (placed county order)

  seen_uses : seen ≡ first_seen_after nat_cmp [] (map (λ (u : Use × ℕ). u.1) used)
  seen_uses = uses ∙ ap (first_seen nat_cmp) (sym (named (placed county order) ∙ feats_placed county is arrangement whole.there))

  -- the ranks of two FEATs compare as their uses do
  pub by_uses : (f g : ℕ) → nat_cmp (rank_of seen (Some f)) (rank_of seen (Some g)) ≡ slice_cmp use_cmp (uses_of_name used f)
      (uses_of_name used g)
  by_uses f g =
      (λ j. nat_cmp (rank_of (seen_uses j) (Some f)) (rank_of (seen_uses j) (Some g)))
      ∙ sym (ranks_decide [] used (all_uses-strict (placed county order)
      (subst (IsStrictlySortedBy nat_cmp) (sym (placed_tlids county order is (arranges county arrangement is whole)))
      (up_to-strict (length (arranged_tlids order))))) f g refl refl)

  module _ (items : List RankedName) (p : IsPermutation (map (ranked_at county seen) (range_with_len 0 (length county.names))) items)
      (ordered : IsInOrder (ranked_cmp county) items) where
    abbrev item_cmp : Option Body5 → Option ℕ → ℕ → Option Body5 → Option ℕ → ℕ → Ordering
    item_cmp a f i b g j = ordering_then (option_cmp name_body_cmp a b) (ordering_then (nat_cmp (rank_of seen f) (rank_of seen g))
        (nat_cmp i j))

    agrees : (i j : ℕ) (x y : ℕ × Body5) → slice_get county.names i ≡ Some x → slice_get county.names j ≡ Some y
        → ranked_cmp county (ranked_at county seen i) (ranked_at county seen j) ≡ ordering_then (name_key_cmp (name_key used x)
        (name_key used y))
        (nat_cmp i j)
    agrees i j x y h k =
        let value = λ (n : ℕ) (z : ℕ × Body5) (e : slice_get county.names n ≡ Some z).
        slice_get-map (λ (d : ℕ × Body5). d.1) county.names n ∙ ap (option_map (λ (d : ℕ × Body5). d.1)) e in
        let number = λ (n : ℕ) (z : ℕ × Body5) (e : slice_get county.names n ≡ Some z).
        slice_get-map (λ (d : ℕ × Body5). d.0) county.names n ∙ ap (option_map (λ (d : ℕ × Body5). d.0)) e in
        (λ l. item_cmp (value i x h l) (number i x h l) i (value j y k l) (number j y k l) j)
        ∙ ap (λ o. ordering_then (name_body_cmp x.1 y.1) (ordering_then o (nat_cmp i j))) (by_uses x.0 y.0)
        ∙ then_assoc (name_body_cmp x.1 y.1) (slice_cmp use_cmp (uses_of_name used x.0) (uses_of_name used y.0)) (nat_cmp i j)

    -- the sorted names are in their new order
    names_stated : AreReadAt county.names (map ranked_place items) (names_in_order county order)
    names_stated = sorted_items (ranked_at county seen) ranked_place (λ i. refl) (ranked_cmp county)
        (on_total (name_key used) name_key_keys.total) county.names agrees items p ordered

  -- a key without its class
  abbrev to_ranked : ℕ × (ℕ × ℕ) → RankedName
  to_ranked key = record { rank = key.1.0; place = key.1.1 }

  module _ (classed : List (ℕ × ℕ)) (known : AreClasses (length county.names) (name_content_cmp county) classed) (keys : List (ℕ × (ℕ × ℕ)))
      (p : IsPermutation (map (name_key_at county seen) classed) keys) (ordered : IsInOrder name_keys_cmp keys) where
    each_name : IsPermutation (map (ranked_at county seen) (range_with_len 0 (length county.names))) (map to_ranked keys)
    each_name =
        let all = range_with_len 0 (length county.names) in
        let unsorted = map (name_key_at county seen) classed in
        IsPermutation-trans (map (ranked_at county seen) all) (map to_ranked unsorted) (map to_ranked keys)
        (subst (IsPermutation (map (ranked_at county seen) all))
        (map-map (ranked_at county seen) classed_place classed ∙ sym (map-map to_ranked (name_key_at county seen) classed))
        (IsPermutation-map (ranked_at county seen) all (map classed_place classed) (classes_all (length county.names) (name_content_cmp county) classed known)))
        (IsPermutation-map to_ranked unsorted keys p)

    ranked_in_order : IsInOrder (ranked_cmp county) (map to_ranked keys)
    ranked_in_order = in_order-map (ranked_cmp county) to_ranked keys
        (agree_in_order name_keys_cmp (λ a b. ranked_cmp county (to_ranked a) (to_ranked b)) keys
        (agree_permuted name_keys_cmp (λ a b. ranked_cmp county (to_ranked a) (to_ranked b)) (map (name_key_at county seen) classed) keys p
        (agree_map name_keys_cmp (λ a b. ranked_cmp county (to_ranked a) (to_ranked b)) (name_key_at county seen) classed
        (agree_weaker (λ (a b : ℕ × ℕ). nat_cmp a.0 b.0) (λ a b. name_content_cmp county a.1 b.1)
        (λ a b. name_keys_cmp (name_key_at county seen a) (name_key_at county seen b))
        (λ a b. ranked_cmp county (to_ranked (name_key_at county seen a)) (to_ranked (name_key_at county seen b)))
        (λ a b e. ap (λ o. ordering_then o (ordering_then
        (nat_cmp (rank_of seen (slice_get (feats county) a.1)) (rank_of seen (slice_get (feats county) b.1))) (nat_cmp a.1 b.1))) e)
        classed known.agree))) ordered)

    -- names whose keys are in order are in their new order
    pub keys_stated : AreReadAt county.names (map key_place keys) (names_in_order county order)
    keys_stated = subst (λ places. AreReadAt county.names places (names_in_order county order)) (map-map ranked_place to_ranked keys)
        (names_stated (map to_ranked keys) each_name ranked_in_order)

-- the tables of the names at these places, if they are those in their new order
module _ (county : County) (arrangement : List DirectedChain) (is : IsCounty county) (whole : AreWhole county arrangement) (places : List ℕ)
    (stated : AreReadAt county.names places (names_in_order county (arrangement_of county arrangement))) where
  abbrev reordered : List (ℕ × Body5)
  reordered = names_in_order county (arrangement_of county arrangement)

  permuted_names : IsPermutation reordered county.names
  permuted_names = names_permutation county (arrangement_of county arrangement) is (arranges county arrangement is whole)

  pub feats_stated : filter_map (slice_get (feats county)) places ≡ entry_keys reordered
  feats_stated = filter_map_all (slice_get (feats county)) places (entry_keys reordered)
      (read_mapped (λ (d : ℕ × Body5). d.0) county.names reordered places stated)

  pub feats_once : has_repeat nat_cmp (filter_map (slice_get (feats county)) places) ≡ false
  feats_once = ap (has_repeat nat_cmp) feats_stated
      ∙ has_repeat-apart nat_keys (entry_keys reordered)
      (apart-permutation nat_keys (entry_keys reordered) (feats county)
      (IsPermutation-map (λ (d : ℕ × Body5). d.0) reordered county.names permuted_names)
      (apart_from_sorted nat_keys (feats county) is.ascending.names))

  pub few_feats : length (filter_map (slice_get (feats county)) places) ≡ length county.names
  few_feats = ap length feats_stated ∙ length-map reordered (λ (d : ℕ × Body5). d.0)
      ∙ sym (length_permutation reordered county.names permuted_names)
